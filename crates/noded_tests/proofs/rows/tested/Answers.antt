use Rattle.std.proofs.Common.{◌∙◌, List, Some, subst, sym}
use Rattle.std.specs.Prelude.{All}
use Rattle.std.proofs.lemmas.List.Elements.{All-contains}
use Rattle.geom.specs.declared.edge.Edge.{Edge}
use Rattle.geom.specs.declared.edge.Counted.{Counted}
use Rattle.geom.specs.declared.rect.Rect.{Rect}
use Rattle.geom.specs.Box.{IsInBox}
use Rattle.geom.specs.Limit.{AreInLimit}
use Rattle.geom.specs.Rounded.{edges_of}
use Rattle.geom.proofs.Lists.{contains_in, in_contains, in_map}
use Rattle.noding_test.specs.Passes.{BoundsHoldEdges, EdgesHaveTiles}
use Rattle.noding_test.proofs.EdgeBins.{edges_have_tiles}
use Rattle.noded_tests.proofs.rows.tested.Goals as goal

bounds_hold : (r : Rect) (counted : List Counted) → All (λ c. AreInLimit c.edge.p c.edge.q × IsInBox r.lo r.hi c.edge.p × IsInBox r.lo r.hi c.edge.q) counted → BoundsHoldEdges (Some r) (edges_of counted)
bounds_hold r counted h e i =
    let (c, j, is) = in_map (λ (d : Counted). d.edge) counted e (contains_in (edges_of counted) e i) in
    let p = All-contains (λ (d : Counted). AreInLimit d.edge.p d.edge.q × IsInBox r.lo r.hi d.edge.p × IsInBox r.lo r.hi d.edge.q) counted c h (in_contains counted c j) in
    subst (λ (f : Edge). IsInBox r.lo r.hi f.p × IsInBox r.lo r.hi f.q) is (p.1, p.2)

pub noded-requires-clause-covered : goal.noded-requires-clause-covered
noded-requires-clause-covered g c κs within =
    let r = c.spanned_by-bounds.result in
    let counted = c.in_ok-counted.counted.items in
    let grid = c.in-Ok.grid in
    subst (λ (cs : List Counted). EdgesHaveTiles grid (edges_of cs)) (sym (c.in_ok-rounded.ensures.edges ∙ c.deref.ensures.value)) (edges_have_tiles (Some r) grid (edges_of counted) c.in-Ok.ensures.covers (bounds_hold r counted c.in_ok-counted.ensures.inside))
