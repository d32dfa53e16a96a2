use Rattle.std.proofs.Common.{ℕ, [], List, get_or, subst}
use Rattle.std.proofs.lemmas.Result.{IfOk-weaker}
use Rattle.geom.specs.Rounded.{AreRounded}
use Rattle.geom.specs.declared.edge.Counted.{Counted}
use Rattle.geom.specs.declared.point.Pt.{Pt}
use Rattle.columns.specs.Layout.{feature_rings_in, plain}
use Rattle.columns.specs.declared.layout.Columns.{Columns}
use Rattle.points_law.specs.Law.{AreLayers}
use Rattle.engine.specs.ColumnsPairs.{IsResultOfRings}
use Rattle.results.specs.Results.{IsResult}
use Rattle.results.proofs.Results.{layers_known}
use Rattle.engine.proofs.Rounding.{layers_of_rings}
use Rattle.engine.proofs.columns_pairs.pair_polygons.Goals as goal

abbrev rings_at : Columns → ℕ → List (List Pt)
rings_at c i = plain (get_or (feature_rings_in c) i [])

pub result_polygons-requires : goal.result_polygons-requires
result_polygons-requires g c =
    let i = c.args.feature in
    let segments = c.in_ok-segments.segments.items in
    let counted = c.in_ok-noded.noded.edges.items in
    let rounded : ∥ AreRounded segments counted ∥₁ = c.in_ok-noded.ensures.rounded in
    let layers = layers_of_rings (rings_at c.args.a.now i) (rings_at c.args.b.now i) segments counted c.in_ok-segments.ensures.segments c.in_ok-segments.ensures.in_limit rounded in
    let h : AreLayers c.deref-2.result.now = rw c.deref-2.ensures.value (layers_known counted layers) in h

pub returns : goal.returns
returns g c =
    let i = c.args.feature in
    let segments = c.in_ok-segments.segments.items in
    let counted = c.in_ok-noded.noded.edges.items in
    let rounded : ∥ AreRounded segments counted ∥₁ = c.in_ok-noded.ensures.rounded in
    IfOk-weaker c.result_polygons.result _ (λ p. IsResultOfRings c.args.op (rings_at c.args.a.now i) (rings_at c.args.b.now i) p.items)
    (λ p r. record {
      segments = segments;
      are_segments = c.in_ok-segments.ensures.segments;
      counted = counted;
      rounded = rounded;
      result = subst (λ (cs : List Counted). IsResult c.args.op cs p.items) c.deref-2.ensures.value r;
    })
    c.result_polygons.ensures
