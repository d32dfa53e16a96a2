use Rattle.std.proofs.Common.{◌≡◌, suc, ◌+◌, List, [], ◌∷◌, ◌++◌, All, length, flat_map, true, arith, ◌∙◌, ap, subst, append_assoc}
use mathlib.Core.Option.{none}
use Rattle.atomic_table.specs.Table.{step}
use Rattle.tile_book.specs.Drawing.{ticket}
use Rattle.tile_book.specs.declared.ticket.Ticket.{Ticket}
use Rattle.tile_book.specs.Shown.{HandView}
use Rattle.tile_book.proofs.Totals.{all_mid}
use Rattle.tile_book.proofs.Draws.{enters}
use Rattle.tile_book.proofs.draw.Draw.gathered.Goals as goal

pub load_new_seat-all-requires : goal.load_new_seat-all-requires
load_new_seat-all-requires g c = (rw c.self.invariant.0 (omega arith), enters _ _ (step c.self.inside.table.shared.table_id.slots 0 0 0 none) [])

pub taken_in-all-requires-clause-own : goal.taken_in-all-requires-clause-own
taken_in-all-requires-clause-own g c =
    let hand = c.in-Some.hand in
    let kept = c.loop-hand.invariant.2 in
    let all : c.args.hands.items ≡ c.pop.new.self.items ++ hand ∷ kept.0 = kept.1 ∙ ap (λ (l : List HandView). l ++ kept.0) c.in-Some.ensures.items ∙ append_assoc c.pop.new.self.items (hand ∷ []) kept.0 in
    (all_mid (λ (h : HandView). (h.draw ≡ c.args.self.now) × (h.spent ≡ true)) c.pop.new.self.items hand kept.0 (subst (All (λ (h : HandView). (h.draw ≡ c.args.self.now) × (h.spent ≡ true))) all c.requires.own)).0

pub loop-hand-preserved : goal.loop-hand-preserved
loop-hand-preserved g c =
    let hand = c.in-Some.hand in
    let kept = c.loop-hand.invariant.2 in
    let all : c.args.hands.items ≡ c.pop.new.self.items ++ hand ∷ kept.0 = kept.1 ∙ ap (λ (l : List HandView). l ++ kept.0) c.in-Some.ensures.items ∙ append_assoc c.pop.new.self.items (hand ∷ []) kept.0 in
    let spent = (all_mid (λ (h : HandView). (h.draw ≡ c.args.self.now) × (h.spent ≡ true)) c.pop.new.self.items hand kept.0 (subst (All (λ (h : HandView). (h.draw ≡ c.args.self.now) × (h.spent ≡ true))) all c.requires.own)).1 in
    let me = c.taken_in-all.ensures.spent spent in
    let n = length kept.0 in
    let one : n + 1 ≡ suc n = omega arith in
    let size = c.args.self.now in (
      c.taken_in-all.ensures.own,
      ap (λ m. m.1) me,
      (
        hand ∷ kept.0,
        all,
        ap (λ m. m.0) me
            ∙ (ap (λ (t : Ticket). ticket size.limit size.hands (t.parts + 1) (t.spent + 1) (hand.drawn ++ t.drawn)) kept.2
            ∙ ap (λ k. ticket size.limit size.hands k k (hand.drawn ++ flat_map (λ (h : HandView). h.drawn) kept.0)) one),
      ),
    )
