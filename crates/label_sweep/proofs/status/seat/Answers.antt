use Rattle.std.proofs.Common.{◌≡◌, ℕ, ◌≤◌, List, [], ◌∷◌, ◌++◌, length, map, take, sym, ap, ◌∙◌, subst, arith}
use Rattle.std.specs.List.{Contains}
use Rattle.std.specs.List.Sorted.{IsPermutation}
use Rattle.std.proofs.lemmas.List.{take_more}
use Rattle.std.proofs.lemmas.List.Elements.{Contains-append_left, Contains-push}
use Rattle.label_sweep.specs.Slots.{in_slot}
use Rattle.label_sweep.proofs.Slots.{range_to, seated_more, taken_more}
use Rattle.label_sweep.proofs.status.seat.Goals as goal

pub loop-one-preserved : goal.loop-one-preserved
loop-one-preserved g c =
    let before = c.loop-one.slots.items in
    let after = c.seat_one.new.slots.items in
    let old : List ℕ = c.args.free.now.items in
    let seated : List ℕ = c.loop-one.seated.items in
    let left : List ℕ = c.seat_one.new.free.items in
    let number : ℕ = c.in_ok-number.number in
    let n = length c.args.slots.now.items in
    let kept = c.loop-one.invariant in
    let new = c.in_ok-number.ensures in
    let grown : n ≤ length after = omega (arith, kept.grown, new.grown) in
    let taken : IsPermutation (old ++ range_to n (length after)) ((seated ++ number ∷ []) ++ left) = taken_more old seated c.loop-one.free.items left number n (length before) (length after) kept.grown new.grown kept.taken new.taken in
    let P : List ℕ → Type 0 = λ t. IsPermutation (old ++ range_to n (length after)) (t ++ left) in
    record {
      grown = grown;
      taken = subst P (sym pushed) taken;
      edges = λ inside apart. ap (map (in_slot after)) pushed
          ∙ seated_more before after old seated left number c.one-item.result (take c.loop-one.one-index c.args.fresh.now) n grown inside apart taken new.edge new.others (kept.edges inside apart)
          ∙ sym (take_more c.args.fresh.now c.loop-one.one-index c.one-item.result c.loop-one-test.true ∙ ap (λ s. take c.loop-one.one-index c.args.fresh.now ++ s ∷ []) (sym c.one-item.is));
      others = λ i m. new.others i (λ e. m (other i e)) ∙ kept.others i (λ h. m (earlier i h));
      left = λ i h. kept.left i (new.left i h);
    }
  where
    pushed : c.push.new.self.items ≡ c.loop-one.seated.items ++ c.in_ok-number.number ∷ []
    pushed = c.in_ok-push.ensures.items

    earlier : (i : ℕ) → Contains c.loop-one.seated.items i → Contains c.push.new.self.items i
    earlier i h = let P : List ℕ → Type 0 = λ t. Contains t i in subst P (sym pushed) (Contains-append_left c.loop-one.seated.items (c.in_ok-number.number ∷ []) i h)

    other : (i : ℕ) → i ≡ c.in_ok-number.number → Contains c.push.new.self.items i
    other i e = let P : List ℕ → Type 0 = λ t. Contains t i in let Q : ℕ → Type 0 = λ n. Contains (c.loop-one.seated.items ++ n ∷ []) i in subst P (sym pushed) (subst Q e (Contains-push c.loop-one.seated.items i))
