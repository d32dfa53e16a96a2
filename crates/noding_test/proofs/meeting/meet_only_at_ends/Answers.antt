use Rattle.std.proofs.Common.{◌≡◌, ◌⊎◌, ◌^◌, ◌↔◌, true, false, Bool, w64, to_z, of_z, to_z-of_z, lit<, refl, ◌∙◌}
use Rattle.std.specs.Bool.{IsTrue}
use lib.IntN.{ℤ, pos}
use Rattle.geom.specs.declared.edge.Edge.{Edge}
use Rattle.geom.specs.Limit.{IsWithin}
use Rattle.geom.specs.Noded.{IsBad}
use Rattle.geom.specs.Determinant.{side}
use Rattle.geom.proofs.Bounds.{fits_64}
use Rattle.noding_test.proofs.CommonPoints.{AreOnOneSide}
use Rattle.noding_test.proofs.MeetingLaws.{Decides, exact, bad_if_false, said_clean, said_bad, on_one_line, beside_first, beside_second, at_ends, crossing_first, crossing_second}
use Rattle.noding_test.proofs.meeting.meet_only_at_ends.Goals as goal

-- a computed determinant is the determinant
computed : (r z : ℤ) → IsWithin (2 ^ 59) r → r ≡ z → to_z w64 (of_z w64 r) ≡ z
computed r z h e = to_z-of_z (fits_64 (2 ^ 59) r (lit< tt) h) ∙ e

zero_both : {P : Type 0} (x y u v : ℤ) → u ≡ x → v ≡ y → P ↔ ((u ≡ pos 0) × (v ≡ pos 0)) → P ↔ ((x ≡ pos 0) × (y ≡ pos 0))
zero_both x y u v e f h = rw (e, f) at h

zero_either : {P : Type 0} (x y u v : ℤ) → u ≡ x → v ≡ y → P ↔ ((u ≡ pos 0) ⊎ (v ≡ pos 0)) → P ↔ ((x ≡ pos 0) ⊎ (y ≡ pos 0))
zero_either x y u v e f h = rw (e, f) at h

one_side : {P : Type 0} (x y u v : ℤ) → u ≡ x → v ≡ y → P ↔ AreOnOneSide u v → P ↔ AreOnOneSide x y
one_side x y u v e f h = rw (e, f) at h

-- a test that failed
denied : {P : Type 0} (b : Bool) → b ≡ false → IsTrue b ↔ P → ¬ P
denied b e h p = let t = h.1 p in cc

ends_or_crossing : (e f : Edge) (answer : Bool) → ¬ ((side e.p e.q f.p ≡ pos 0) × (side e.p e.q f.q ≡ pos 0)) → (side e.p e.q f.p ≡ pos 0) ⊎ (side e.p e.q f.q ≡ pos 0) → ¬ (AreOnOneSide (side e.p e.q f.p) (side e.p e.q f.q)) → ¬ (AreOnOneSide (side f.p f.q e.p) (side f.p f.q e.q))
    → IsTrue answer ↔ ((side f.p f.q e.p ≡ pos 0) ⊎ (side f.p f.q e.q ≡ pos 0)) → Decides e f answer
ends_or_crossing e f true n h s t k = said_clean e f (at_ends e f n h (k.0 refl))
ends_or_crossing e f false n h s t k = said_bad e f (crossing_second e f (denied false refl k) s t)

pub returns-then-are_zero-clause-exact : goal.returns-then-are_zero-clause-exact
returns-then-are_zero-clause-exact c = exact c.args.e.now c.args.f.now _ (on_one_line c.args.e.now c.args.f.now ((zero_both _ _ _ _ (computed _ _ c.side-to_p.ensures.small c.side-to_p.ensures.value) (computed _ _ c.side-to_q.ensures.small c.side-to_q.ensures.value) c.are_zero.ensures).0 c.if-are_zero.true) _ c.follow_each_other.ensures)

pub returns-then-are_zero-clause-bad : goal.returns-then-are_zero-clause-bad
returns-then-are_zero-clause-bad c = bad_if_false c.args.e.now c.args.f.now _ (on_one_line c.args.e.now c.args.f.now ((zero_both _ _ _ _ (computed _ _ c.side-to_p.ensures.small c.side-to_p.ensures.value) (computed _ _ c.side-to_q.ensures.small c.side-to_q.ensures.value) c.are_zero.ensures).0 c.if-are_zero.true) _ c.follow_each_other.ensures)

pub returns-then-are_on_one_side-clause-exact : goal.returns-then-are_on_one_side-clause-exact
returns-then-are_on_one_side-clause-exact c = exact c.args.e.now c.args.f.now _ (said_clean c.args.e.now c.args.f.now (beside_first c.args.e.now c.args.f.now ((one_side _ _ _ _ (computed _ _ c.side-to_p.ensures.small c.side-to_p.ensures.value) (computed _ _ c.side-to_q.ensures.small c.side-to_q.ensures.value) c.are_on_one_side.ensures).0 c.if-are_on_one_side.true)))

pub returns-then-are_on_one_side-2-clause-exact : goal.returns-then-are_on_one_side-2-clause-exact
returns-then-are_on_one_side-2-clause-exact c = exact c.args.e.now c.args.f.now _ (said_clean c.args.e.now c.args.f.now (beside_second c.args.e.now c.args.f.now ((one_side _ _ _ _ (computed _ _ c.side-from_p.ensures.small c.side-from_p.ensures.value) (computed _ _ c.side-from_q.ensures.small c.side-from_q.ensures.value) c.are_on_one_side-2.ensures).0 c.if-are_on_one_side-2.true)))

said_bad_by : (e f : Edge) (answer : Bool) → answer ≡ false → IsBad e f → Decides e f answer
said_bad_by e f true h b = absurd (cc)
said_bad_by e f false h b = said_bad e f b

pub returns-then-has_zero-clause-exact : goal.returns-then-has_zero-clause-exact
returns-then-has_zero-clause-exact c =
    exact c.args.e.now c.args.f.now _
    (ends_or_crossing c.args.e.now c.args.f.now _ (denied _ c.if-are_zero.false (zero_both _ _ _ _ (computed _ _ c.side-to_p.ensures.small c.side-to_p.ensures.value) (computed _ _ c.side-to_q.ensures.small c.side-to_q.ensures.value) c.are_zero.ensures)) ((zero_either _ _ _ _ (computed _ _ c.side-to_p.ensures.small c.side-to_p.ensures.value) (computed _ _ c.side-to_q.ensures.small c.side-to_q.ensures.value) c.has_zero.ensures).0 c.if-has_zero.true) (denied _ c.if-are_on_one_side.false (one_side _ _ _ _ (computed _ _ c.side-to_p.ensures.small c.side-to_p.ensures.value) (computed _ _ c.side-to_q.ensures.small c.side-to_q.ensures.value) c.are_on_one_side.ensures)) (denied _ c.if-are_on_one_side-2.false (one_side _ _ _ _ (computed _ _ c.side-from_p.ensures.small c.side-from_p.ensures.value) (computed _ _ c.side-from_q.ensures.small c.side-from_q.ensures.value) c.are_on_one_side-2.ensures))
    (zero_either _ _ _ _ (computed _ _ c.side-from_p.ensures.small c.side-from_p.ensures.value) (computed _ _ c.side-from_q.ensures.small c.side-from_q.ensures.value) c.has_zero-then-has_zero.ensures))

pub returns-then-has_zero-clause-bad : goal.returns-then-has_zero-clause-bad
returns-then-has_zero-clause-bad c =
    bad_if_false c.args.e.now c.args.f.now _
    (ends_or_crossing c.args.e.now c.args.f.now _ (denied _ c.if-are_zero.false (zero_both _ _ _ _ (computed _ _ c.side-to_p.ensures.small c.side-to_p.ensures.value) (computed _ _ c.side-to_q.ensures.small c.side-to_q.ensures.value) c.are_zero.ensures)) ((zero_either _ _ _ _ (computed _ _ c.side-to_p.ensures.small c.side-to_p.ensures.value) (computed _ _ c.side-to_q.ensures.small c.side-to_q.ensures.value) c.has_zero.ensures).0 c.if-has_zero.true) (denied _ c.if-are_on_one_side.false (one_side _ _ _ _ (computed _ _ c.side-to_p.ensures.small c.side-to_p.ensures.value) (computed _ _ c.side-to_q.ensures.small c.side-to_q.ensures.value) c.are_on_one_side.ensures)) (denied _ c.if-are_on_one_side-2.false (one_side _ _ _ _ (computed _ _ c.side-from_p.ensures.small c.side-from_p.ensures.value) (computed _ _ c.side-from_q.ensures.small c.side-from_q.ensures.value) c.are_on_one_side-2.ensures))
    (zero_either _ _ _ _ (computed _ _ c.side-from_p.ensures.small c.side-from_p.ensures.value) (computed _ _ c.side-from_q.ensures.small c.side-from_q.ensures.value) c.has_zero-then-has_zero.ensures))

pub returns-else-has_zero-clause-exact : goal.returns-else-has_zero-clause-exact
returns-else-has_zero-clause-exact c =
    exact c.args.e.now c.args.f.now _
    (said_bad_by c.args.e.now c.args.f.now _ c.if-has_zero.false (crossing_first c.args.e.now c.args.f.now (denied _ c.if-has_zero.false (zero_either _ _ _ _ (computed _ _ c.side-to_p.ensures.small c.side-to_p.ensures.value) (computed _ _ c.side-to_q.ensures.small c.side-to_q.ensures.value) c.has_zero.ensures)) (denied _ c.if-are_on_one_side.false (one_side _ _ _ _ (computed _ _ c.side-to_p.ensures.small c.side-to_p.ensures.value) (computed _ _ c.side-to_q.ensures.small c.side-to_q.ensures.value) c.are_on_one_side.ensures)) (denied _ c.if-are_on_one_side-2.false (one_side _ _ _ _ (computed _ _ c.side-from_p.ensures.small c.side-from_p.ensures.value) (computed _ _ c.side-from_q.ensures.small c.side-from_q.ensures.value) c.are_on_one_side-2.ensures))))

pub returns-else-has_zero-clause-bad : goal.returns-else-has_zero-clause-bad
returns-else-has_zero-clause-bad c =
    bad_if_false c.args.e.now c.args.f.now _
    (said_bad_by c.args.e.now c.args.f.now _ c.if-has_zero.false (crossing_first c.args.e.now c.args.f.now (denied _ c.if-has_zero.false (zero_either _ _ _ _ (computed _ _ c.side-to_p.ensures.small c.side-to_p.ensures.value) (computed _ _ c.side-to_q.ensures.small c.side-to_q.ensures.value) c.has_zero.ensures)) (denied _ c.if-are_on_one_side.false (one_side _ _ _ _ (computed _ _ c.side-to_p.ensures.small c.side-to_p.ensures.value) (computed _ _ c.side-to_q.ensures.small c.side-to_q.ensures.value) c.are_on_one_side.ensures)) (denied _ c.if-are_on_one_side-2.false (one_side _ _ _ _ (computed _ _ c.side-from_p.ensures.small c.side-from_p.ensures.value) (computed _ _ c.side-from_q.ensures.small c.side-from_q.ensures.value) c.are_on_one_side-2.ensures))))
