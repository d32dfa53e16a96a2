use Rattle.std.proofs.Common.{arith, ℕ, ◌+◌, ◌≤◌, ◌<◌, ◌^◌, sym, ◌∙◌, to_z-of_z, Fits, w64}
use Rattle.lane_tests.proofs.Ends.{read_back}
use Rattle.lane_tests.proofs.Masks.{counted_none, counted_eight, counted_yes, counted_no, counted_all, counted_small, ones_few}
use Rattle.lane_tests.proofs.edges.count_above.Goals.{then-one_above, else-one_above}
use Rattle.lane_tests.proofs.edges.count_above.Goals as goal

few : (total ones at end : ℕ) → total ≤ at → ones ≤ 8 → at ≤ end → end < 2 ^ 32 → Fits w64 (total + ones)
few total ones at end h k l m = record { fits = omega arith }

pub loop-at-init : goal.loop-at-init
loop-at-init c = counted_none _ _

pub overflow_add-total : goal.overflow_add-total
overflow_add-total c = few _ _ _ _ (counted_small _ _ _ _ c.loop-at.invariant) (ones_few _ _ _ _ c.eight_above.ensures c.from-total.ensures) c.loop-at.invariant.within c.requires.ends.columns.few

pub loop-at-preserved : goal.loop-at-preserved
loop-at-preserved c = counted_eight _ _ _ _ _ _ c.loop-at.invariant (omega arith) c.eight_above.ensures c.from-total.ensures

one_few : 1 ≤ 8
one_few = omega arith

pub overflow_add-total-then-one_above : goal.overflow_add-total-then-one_above
overflow_add-total-then-one_above c = few _ _ _ _ (counted_small _ _ _ _ c.loop-at-2.invariant) one_few c.loop-at-2.invariant.within c.requires.ends.columns.few

pub loop-at-2-preserved : goal.loop-at-2-preserved
loop-at-2-preserved c =
    let r = read_back _ _ _ _ c.requires.ends c.loop-at-2.at in
    let f5 = c.ranges.column in
    elim c.if-one_above.branch [
      | then-one_above w ↦ rw w.total-is (counted_yes _ _ _ _ c.loop-at-2.invariant (omega arith) (simp to_z-of_z (simp (to_z-of_z, r.0, r.1, r.2, r.3) at (sym c.one_above.ensures ∙ w.if-one_above.true))))
      | else-one_above w ↦ rw w.total-is (counted_no _ _ _ _ c.loop-at-2.invariant (omega arith) (simp to_z-of_z (simp (to_z-of_z, r.0, r.1, r.2, r.3) at (sym c.one_above.ensures ∙ w.if-one_above.false))))
    ]

pub returns : goal.returns
returns c =
    let f5 = c.ranges.column in
    let e = counted_all _ _ _ _ c.loop-at-2.invariant (omega arith) in
    simp to_z-of_z at e
