use Rattle.std.proofs.Common.{◌≡◌, ◌∙◌, ℕ, List, length, map, subst, sym}
use Rattle.std.proofs.lemmas.List.{length-map}
use Rattle.geom.specs.declared.directed.DirectedEdge.{DirectedEdge}
use Rattle.cover_law.specs.declared.border.Border.{Border}
use Rattle.cover_law.specs.Cover.{bordered}
use Rattle.covered.specs.Covered.{AreCoveredEdges}
use Rattle.covered.proofs.Sides.{left_numbers, right_numbers}
use Rattle.engine.proofs.CoveredTexts.{covered_directed}
use Rattle.engine.proofs.covered_result.covered_directed.Goals as goal

one_each : (features numbers : List ℕ) (borders : List Border) → length numbers ≡ length (map (bordered features) borders) → length numbers ≡ length borders
one_each features numbers borders h = h ∙ length-map borders (bordered features)

pub covered_edges-requires : goal.covered_edges-requires
covered_edges-requires g c =
    let es = map (bordered c.args.features.now) c.args.borders.now in
    let covers = c.in_ok-covers.covers in
    let are = c.in_ok-covers.ensures 2147483647 c.requires.below in
    record {
      left = one_each c.args.features.now covers.left.items c.args.borders.now are.left_is.one_each;
      right = one_each c.args.features.now covers.right.items c.args.borders.now are.right_is.one_each;
      left_numbers = left_numbers 2147483647 es covers.sets covers.left.items covers.right.items are;
      right_numbers = right_numbers 2147483647 es covers.sets covers.left.items covers.right.items are;
    }

pub new-requires : goal.new-requires
new-requires g c =
    covered_directed c.args.op c.args.split 2147483647 (map (bordered c.args.features.now) c.args.borders.now) c.requires.borders c.in_ok-edges.edges.items
    (c.in_ok-edges.ensures.edges 2147483647 c.args.features.now (c.in_ok-covers.ensures 2147483647 c.requires.below))

pub returns : goal.returns
returns g c = λ count all.
    subst (λ (ds : List DirectedEdge). AreCoveredEdges c.args.op c.args.split count (map (bordered c.args.features.now) c.args.borders.now) ds) (sym c.new.ensures)
    (c.in_ok-edges.ensures.edges count c.args.features.now (c.in_ok-covers.ensures count all))
