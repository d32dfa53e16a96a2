use Rattle.std.proofs.Common.{List, length, subst, sym}
use Rattle.std.specs.Prelude.{All}
use Rattle.geom.specs.declared.directed.DirectedEdge.{DirectedEdge}
use Rattle.label_sweep.specs.Column.{IsStrip}
use Rattle.label_sweep.specs.Leaving.{AreLeavingBetween}
use Rattle.label_sweep.proofs.LeavingStrips.{leaving_strips}
use Rattle.label_sweep.proofs.strips.edges_in_parts.Goals as goal

pub map_parts-requires-after_bounds : goal.map_parts-requires-after_bounds
map_parts-requires-after_bounds g c κs within =
    let strips : All (IsStrip c.args.counted.now) c.deref.result.now = rw c.deref.ensures.value c.in_ok-strips.ensures.strips in
    λ k d l. (c.requires, strips k d l)

pub returns : goal.returns
returns g c =
    let op = c.args.op in
    let cs = c.args.counted.now in
    let P : List DirectedEdge → Type 0 = λ ds. AreLeavingBetween op cs 0 (length cs) ds in
    subst P (sym c.in_ok-joined.ensures)
    (leaving_strips op cs (λ l. l.items) c.in_ok-strips.strips.items c.in_ok-lists.lists.items c.in_ok-strips.ensures.parts c.in_ok-strips.ensures.strips (rw c.deref.ensures.value at c.in_ok-lists.ensures))
