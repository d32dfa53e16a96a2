use Rattle.std.proofs.Common.{◌≤◌, length, subst, sym}
use Rattle.std.specs.Prelude.{All}
use Rattle.geom.specs.Limit.{InLimit}
use Rattle.polygonize.specs.Column.{StandFromLeft}
use Rattle.hands.specs.Consecutive.{ArePartsOf}
use Rattle.hands.proofs.Consecutive.{each_part}
use Rattle.polygonize.proofs.EdgesBelow.Searching.{parts_found}
use Rattle.polygonize.proofs.nearest.gaps_below_in_parts.Goals as goal

pub map_parts-requires-after_bounds : goal.map_parts-requires-after_bounds
map_parts-requires-after_bounds g c κs within =
    let vertices = c.args.vertices.now in
    let are = subst (ArePartsOf 0 (length vertices)) (sym c.deref.ensures.value) c.in_ok-all.ensures in
    each_part (λ p. All InLimit vertices × StandFromLeft vertices × (p.from ≤ p.past) × (p.past ≤ length vertices)) 0 (length vertices) c.deref.result.now are
    (λ p low order inside. (c.requires.vertices_in, c.requires.from_left, order, inside))

pub returns : goal.returns
returns g c =
    let vertices = c.args.vertices.now in
    let are = subst (ArePartsOf 0 (length vertices)) (sym c.deref.ensures.value) c.in_ok-all.ensures in
    rw c.in_ok-joined.ensures (parts_found (λ l. l.items) c.args.edges.list.now vertices c.deref.result.now c.in_ok-lists.lists.items are c.in_ok-lists.ensures)
