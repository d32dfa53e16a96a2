use Rattle.std.proofs.Common.{slice_index_or, pos}
use Rattle.geom.proofs.Doubling.{back}
use Rattle.polygonize.specs.Below.{vertex_at}
use Rattle.polygonize.proofs.EdgesBelow.Columns.{spread_back, spread_more}
use Rattle.polygonize.proofs.column.columns_of.Goals as goal

pub loop-place-preserved : goal.loop-place-preserved
loop-place-preserved c =
    let r = slice_index_or c.args.asked.now c.loop-place.place-index 0 in
    let v = vertex_at c.args.vertices.now r in
    let limit = c.requires.vertices_in r (record { x = pos 0; y = pos 0 }) (c.requires.inside c.loop-place.place-index 0 c.loop-place-test.true) in
    spread_back _ _ c.min-low.result c.max-high.result
    (spread_more c.args.vertices.now c.args.asked.now c.loop-place.place-index _ _ c.min-low.result c.max-high.result _ _ c.loop-place-test.true (back v.x limit.x_in) (back v.x limit.x_in) limit.x_in
    c.min-low.ensures.value c.max-high.ensures.value c.loop-place.invariant)
