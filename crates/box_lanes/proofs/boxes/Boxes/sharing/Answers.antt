use Rattle.std.proofs.Common.{arith, ℕ, List, subst, ◌∙◌, ◌+◌, ◌-◌, bit_and, ◌*◌, ◌%◌, ◌^◌, ◌≡◌, ◌<◌, ap, sym}
use Rattle.std.specs.Prelude.{◌↔◌}
use Rattle.std.specs.Int.{bit_at}
use Rattle.box_lanes.specs.Places.{IsPlace}
use Rattle.box_lanes.specs.Sides.{Corners, SharesAt, corners_at, is_beside, sixteen}
use Rattle.box_lanes.proofs.BoxLaws.{sharing_places, low_bits, both_bits, both_small}
use Rattle.box_lanes.proofs.HullLaws.{none_shares}
use Rattle.std.proofs.lemmas.Nat.Bits.{bit_at-zero}
use Rattle.box_lanes.proofs.boxes.Boxes.sharing.Goals as goal

pub overflow_add-result : goal.overflow_add-result
overflow_add-result c =
    let s = c.self.inside in
    let p = λ (j : ℕ). is_beside (corners_at s.left s.bottom s.right s.top j) c.args.rect.now in
    record { fits = subst (λ (n : ℕ). n < 2 ^ 64) (sym (λ i. c.beside-first.ensures i + c.beside-second.ensures i * 65536 % 2 ^ 64)) (both_small p) }

pub returns-then-self-le-HALF : goal.returns-then-self-le-HALF
returns-then-self-le-HALF c = λ k.
    let s = c.self.inside in
    let r = c.args.rect.now in
    let p = λ (j : ℕ). is_beside (corners_at s.left s.bottom s.right s.top j) r in
    subst (λ (boxes : List Corners). IsPlace (bit_and c.ones-some.result (2 ^ 64 - 1 - c.beside-first.result)) k ↔ SharesAt boxes r k) c.self.view_is
    (sharing_places s.left s.bottom s.right s.top s.count r s.wide s.high c.ones-some.result c.beside-first.result s.few c.ones-some.type_inv c.beside-first.type_inv c.ones-some.ensures
    (λ j l. ap (λ m. bit_at m j) c.beside-first.ensures ∙ low_bits p s.count c.if-self-le-HALF.true j l) k)

pub returns : goal.returns
returns c = λ k.
    let s = c.self.inside in
    let r = c.args.rect.now in
    let p = λ (j : ℕ). is_beside (corners_at s.left s.bottom s.right s.top j) r in
    let others : c.beside-first.result + c.beside-second.result * 65536 % 2 ^ 64 ≡ sixteen p 0 + sixteen p 16 * 65536 % 2 ^ 64 = λ i. c.beside-first.ensures i + c.beside-second.ensures i * 65536 % 2 ^ 64 in
    subst (λ (boxes : List Corners). IsPlace (bit_and c.ones-some.result (2 ^ 64 - 1 - (c.beside-first.result + c.beside-second.result * 65536 % 2 ^ 64))) k ↔ SharesAt boxes r k) c.self.view_is
    (sharing_places s.left s.bottom s.right s.top s.count r s.wide s.high c.ones-some.result _ s.few c.ones-some.type_inv (subst (λ (n : ℕ). n < 2 ^ 64) (sym others) (both_small p)) c.ones-some.ensures
    (λ j l. ap (λ m. bit_at m j) others ∙ both_bits p s.count s.few j l) k)

pub returns-then-misses : goal.returns-then-misses
returns-then-misses c = λ k. (
  (λ h. absurd (let b = h.bit in let z = bit_at-zero k in omega arith)),
  (λ h.
      let s = c.self.inside in
      let r = c.args.rect.now in
      absurd (none_shares s.hull s.left s.bottom s.right s.top s.count r s.wide s.high s.held (λ b. c.misses.ensures b c.if-misses.true) k (subst (λ (boxes : List Corners). SharesAt boxes r k) (sym c.self.view_is) h))),
)
