use Rattle.std.proofs.Common.{◌≡◌, ◌∙◌, ◌<◌, ℕ, List, ap, length, map}
use Rattle.std.specs.Prelude.{All}
use Rattle.std.proofs.lemmas.List.{length-map}
use Rattle.cover_law.specs.declared.border.Border.{Border}
use Rattle.cover_law.specs.Cover.{bordered}
use Rattle.rows.specs.RowEdges.{AreCoveredBorders}
use Rattle.engine.proofs.face_rows.sets_by.Goals as goal

one_each : (features : List ℕ) (borders : List Border) (passed numbers : List ℕ) → passed ≡ numbers → length numbers ≡ length (map (bordered features) borders) → length passed ≡ length borders
one_each features borders passed numbers same each = ap length same ∙ each ∙ length-map borders (bordered features)

pub row_edges-requires-clause-left : goal.row_edges-requires-clause-left
row_edges-requires-clause-left g c =
    one_each c.args.features.now c.args.borders.now c.deref-2.result.now c.in_ok-covers.covers.left.items c.deref-2.ensures.value (c.in_ok-covers.ensures 2147483647 c.requires.below).left_is.one_each

pub row_edges-requires-clause-right : goal.row_edges-requires-clause-right
row_edges-requires-clause-right g c =
    one_each c.args.features.now c.args.borders.now c.deref-3.result.now c.in_ok-covers.covers.right.items c.deref-3.ensures.value (c.in_ok-covers.ensures 2147483647 c.requires.below).right_is.one_each

pub returns : goal.returns
returns g c =
    let features = c.args.features.now in
    let sets = c.in_ok-covers.covers.sets in
    let covered : (count : ℕ) → All (λ f. f < count) features → AreCoveredBorders count features c.args.borders.now sets c.deref-2.result.now c.deref-3.result.now = λ count all. record {
      are_borders = c.requires.borders;
      some = c.requires.some;
      below = all;
      covers = rw (c.deref-2.ensures.value, c.deref-3.ensures.value) (c.in_ok-covers.ensures count all);
    } in
    record {
      are_edges = λ count all. c.in_ok-edges.ensures.edges count features sets (covered count all);
      ready = c.in_ok-edges.ensures.ready 2147483647 features sets (covered 2147483647 c.requires.below);
    }
