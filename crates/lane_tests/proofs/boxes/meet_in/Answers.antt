use Rattle.std.proofs.Common.{◌≡◌, ℕ, ◌≤◌, List, length, map, arith, ap, sym, ◌∙◌}
use Rattle.std.proofs.lemmas.List.{length-map}
use Rattle.geom.specs.declared.rect.Rect.{Rect}
use Rattle.lane_tests.specs.Columns.{Ends, corners, touching_numbers}
use Rattle.lane_tests.specs.Meeting.{AreMeeting}
use Rattle.lane_tests.proofs.PairLists.{length-pairs_of, by_slices}
use Rattle.lane_tests.proofs.Rects.{columns_are}
use Rattle.lane_tests.proofs.Meeting.{filter_meets}
use Rattle.lane_tests.proofs.RunHulls.{same_hulls}
use Rattle.lane_tests.proofs.boxes.meet_in.Goals as goal

pub push_runs-requires-clause-in_range : goal.push_runs-requires-clause-in_range
push_runs-requires-clause-in_range g c =
    let h = c.columns.invariant in
    let e = length-pairs_of _ _ _ _ h.bottom_len h.right_len h.top_len in
    let pairs = c.boxes.inside.columns in
    let same : length c.args.boxes.now ≡ length pairs = sym (length-map c.args.boxes.now corners) ∙ ap length (columns_are pairs c.boxes.inside.are_rects c.args.boxes.now c.boxes.view_is) in
    omega (arith, e, ap length c.columns.view_is, ap length c.deref-2.ensures.value, same, c.requires.in_range)

meets : (boxes : List Rect) (pairs : List Ends) (rect : Rect) (from to : ℕ) (found : List ℕ) → map corners boxes ≡ pairs → from ≤ to → to ≤ length boxes → found ≡ touching_numbers pairs rect from to → AreMeeting boxes rect from to found
meets boxes pairs rect from to found e h l f = rw (f, ← e) (filter_meets boxes rect from to h l)

pub push_runs-requires-clause-hulls : goal.push_runs-requires-clause-hulls
push_runs-requires-clause-hulls g c =
    same_hulls _ _ _ _ _ _ _ _ _ _ _ c.boxes.inside.are_hulls c.deref.ensures.value c.columns.view_is c.deref-2.ensures.value c.deref-3.ensures.value c.deref-4.ensures.value c.deref-5.ensures.value

pub returns-in-Ok-clause-ok : goal.returns-in-Ok-clause-ok
returns-in-Ok-clause-ok g c =
    let pairs = c.boxes.inside.columns in
    meets c.args.boxes.now pairs c.args.rect c.args.from c.args.to _ (columns_are pairs c.boxes.inside.are_rects c.args.boxes.now c.boxes.view_is) c.requires.in_order c.requires.in_range
    (by_slices pairs _ _ _ _ _ _ _ _ c.args.rect c.args.from c.args.to _ c.columns.invariant c.columns.view_is
    c.deref-2.ensures.value c.deref-3.ensures.value c.deref-4.ensures.value c.deref-5.ensures.value
    (rw c.clear.ensures.items at c.in-Ok.ensures))
