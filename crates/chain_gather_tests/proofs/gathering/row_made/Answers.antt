use Rattle.std.proofs.Common.{List, Some, subst, sym}
use Rattle.std.proofs.lemmas.List.Elements.{All-contains}
use Rattle.geom.specs.declared.segment.Seg.{Seg}
use Rattle.geom.specs.Box.{IsInBox}
use Rattle.geom.specs.Limit.{AreInLimit}
use Rattle.linking.specs.Gathered.{HaveTiles}
use Rattle.linking.proofs.Covering.{have_tiles}
use Rattle.chain_gather_tests.proofs.gathering.row_made.Goals as goal

pub gathered_made-requires-clause-covered_by_cells : goal.gathered_made-requires-clause-covered_by_cells
gathered_made-requires-clause-covered_by_cells g c = λ κs l.
    let r = c.in_ok-bounds.bounds in
    let segments = c.in_ok-segments.segments.items in
    subst (λ (ss : List Seg). HaveTiles c.in_ok-cells.cells ss) (sym c.deref.ensures.value) (have_tiles (Some r) c.in_ok-cells.cells segments c.in_ok-cells.ensures (λ s h.
    let p = All-contains (λ (t : Seg). AreInLimit t.a t.b × IsInBox r.lo r.hi t.a × IsInBox r.lo r.hi t.b) segments s c.in_ok-segments.ensures h in
    (p.1, p.2)))

pub gathered_made-requires-clause-covered : goal.gathered_made-requires-clause-covered
gathered_made-requires-clause-covered g c = λ κs l.
    let r = c.in_ok-bounds.bounds in
    let segments = c.in_ok-segments.segments.items in
    subst (λ (ss : List Seg). HaveTiles c.in_ok-grid.grid ss) (sym c.deref.ensures.value) (have_tiles (Some r) c.in_ok-grid.grid segments c.in_ok-grid.ensures (λ s h.
    let p = All-contains (λ (t : Seg). AreInLimit t.a t.b × IsInBox r.lo r.hi t.a × IsInBox r.lo r.hi t.b) segments s c.in_ok-segments.ensures h in
    (p.1, p.2)))
