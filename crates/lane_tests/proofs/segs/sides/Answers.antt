use Rattle.std.proofs.Common.{◌∙◌, rules, ap, length, to_z-of_z, FitsSigned, w32, sym}
use Rattle.lane_tests.proofs.PairLists.{length-pairs_of}
use Rattle.lane_tests.proofs.Ends.{ends_are}
use Rattle.lane_tests.proofs.Slices.{read}
use Rattle.lane_tests.proofs.SideLemmas.{by_segments}
use Rattle.lane_tests.proofs.segs.sides.Goals as goal

pub put_sides-requires-clause-room : goal.put_sides-requires-clause-room
put_sides-requires-clause-room g c =
    let h = c.columns.invariant in
    let e = length-pairs_of _ _ _ _ h.bottom_len h.right_len h.top_len in
    c.requires.room ∙ sym (ap length c.segs.view_is) ∙ sym (ap length c.columns.view_is) ∙ e ∙ sym (ap length c.deref.ensures.value)

pub returns : goal.returns
returns g c =
    let z = c.args.half in
    let fx : FitsSigned w32 z.x2 = search rules in
    let fy : FitsSigned w32 z.y2 = search rules in
    let pairs = c.segs.inside.columns in
    by_segments c.args.segs.now _ _ _ _ _ _ _ _ z _ (ends_are _ _ _ _ pairs c.columns.invariant c.columns.view_is c.segs.inside.are_near) (c.columns.view_is ∙ c.segs.view_is) c.deref.ensures.value c.deref-2.ensures.value c.deref-3.ensures.value c.deref-4.ensures.value
    (simp to_z-of_z at c.put_sides.ensures)

pub put_sides-requires-clause-ends : goal.put_sides-requires-clause-ends
put_sides-requires-clause-ends g c =
    read _ _ _ _ _ _ _ _ (ends_are _ _ _ _ c.segs.inside.columns c.columns.invariant c.columns.view_is c.segs.inside.are_near) c.deref.ensures.value c.deref-2.ensures.value c.deref-3.ensures.value c.deref-4.ensures.value
