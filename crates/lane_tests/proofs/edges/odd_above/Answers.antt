use Rattle.std.proofs.Common.{rules, to_z-of_z, FitsSigned, w32}
use Rattle.lane_tests.proofs.EdgeLists.{columns_are}
use Rattle.lane_tests.proofs.Ends.{ends_are}
use Rattle.lane_tests.proofs.Slices.{read}
use Rattle.lane_tests.proofs.Law.{by_slices, probe_room}
use Rattle.lane_tests.proofs.edges.odd_above.Goals as goal

pub returns : goal.returns
returns g c =
    let z = c.args.probe in
    let fx : FitsSigned w32 z.x2 = search rules in
    let gx : FitsSigned w32 z.dx = search rules in
    let fc : FitsSigned w32 c.column_of-column.result = search rules in
    let pairs = c.edges.inside.columns in
    by_slices c.args.edges.now pairs (columns_are pairs c.edges.inside.are_edges c.args.edges.now c.edges.view_is) _ _ _ _ _ _ _ _ (ends_are _ _ _ _ pairs c.columns.invariant c.columns.view_is c.edges.inside.are_near) c.columns.view_is
    c.deref.ensures.value c.deref-2.ensures.value c.deref-3.ensures.value c.deref-4.ensures.value
    c.column_of-column.result z (probe_room z c.requires) (simp to_z-of_z at c.column_of-column.ensures) _ (simp to_z-of_z at c.count_above.ensures)

pub count_above-requires-clause-ends : goal.count_above-requires-clause-ends
count_above-requires-clause-ends g c =
    read _ _ _ _ _ _ _ _ (ends_are _ _ _ _ c.edges.inside.columns c.columns.invariant c.columns.view_is c.edges.inside.are_near) c.deref.ensures.value c.deref-2.ensures.value c.deref-3.ensures.value c.deref-4.ensures.value
