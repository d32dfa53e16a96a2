-- The polygons of a pair are those of a run on layers with the rings of its two features.
use Rattle.std.proofs.Common.{◌≡◌, ◌<◌, ℕ, List, [], get_or, length, subst, sym}
use Rattle.std.proofs.Math.Logic.{∥∥₁_elim}
use Rattle.std.proofs.Props.{props}
use Rattle.geom.specs.declared.op.Op.{Op}
use Rattle.geom.specs.declared.point.Pt.{Pt}
use Rattle.geom.specs.declared.segment.Seg.{Seg}
use Rattle.geom.specs.Canonical.{Shape}
use Rattle.geom.specs.Rounded.{AreRounded}
use Rattle.geom.specs.Segments.{AreSegments}
use Rattle.points_law.proofs.OneResult.{one_rounded, one_segments}
use Rattle.columns.specs.declared.answer.OwnedColumns.{OwnedColumns}
use Rattle.columns.specs.declared.layout.Columns.{Columns}
use Rattle.columns.specs.Answers.{AreColumnsOf}
use Rattle.columns.specs.Layout.{feature_rings_in, plain}
use Rattle.engine.specs.declared.columns_output.ColumnsOutput.{ColumnsOutput}
use Rattle.engine.specs.declared.columns_pairs.PairsOutput.{PairsOutput}
use Rattle.layers.specs.declared.plan.Plan.{Plan}
use Rattle.engine.specs.ColumnsLaws.{PairIsByColumns}
use Rattle.engine.specs.ColumnsPairs.{ArePairsMade, IsResultOfRings}
use Rattle.engine.specs.ColumnsRuns.{AreColumnsMade}
use Rattle.layers.specs.ColumnsRefusals.{rings_of}
use Rattle.engine.specs.RingLayers.{AreRingsRounded}
use Rattle.engine.proofs.OneResultText.{polygons_of_one}

columns_prop : {N : Type 0} (polygons : List Shape) (c : OwnedColumns N) → IsProp (AreColumnsOf polygons c)
columns_prop polygons c = hlevel props

by_columns : (M N : Type 0) (limit limit' : ℕ) (op : Op) (a b a' b' : Columns) (plan : Plan) (pairs : PairsOutput M) (made : ColumnsOutput N) (h : ArePairsMade limit op a b pairs) (i : ℕ) → i < length h.results
    → rings_of a' ≡ plain (get_or (feature_rings_in a) i []) → rings_of b' ≡ plain (get_or (feature_rings_in b) i []) → AreColumnsMade limit' op plan a' b' made → AreColumnsOf (get_or h.results i []) made.columns
by_columns M N limit limit' op a b a' b' plan pairs made h i low e f k =
    ∥∥₁_elim r.rounded prop (λ p. ∥∥₁_elim s.rounded prop (λ q. subst (λ (ps : List Shape). AreColumnsOf ps made.columns) (sym (polygons_of_one op r.counted k.counted polygons k.polygons r.result k.result (counted p q))) k.columns))
  where
    polygons : List Shape
    polygons = get_or h.results i []

    x : List (List Pt)
    x = plain (get_or (feature_rings_in a) i [])

    y : List (List Pt)
    y = plain (get_or (feature_rings_in b) i [])

    r : IsResultOfRings op x y polygons
    r = h.are_results i low

    s : AreRingsRounded (rings_of a') (rings_of b') k.reports.grid k.counted k.reports.tiles
    s = k.reports.rounded

    prop : IsProp (AreColumnsOf polygons made.columns)
    prop = columns_prop polygons made.columns

    one : r.segments ≡ s.segments
    one = one_segments x y r.segments s.segments r.are_segments
        (subst (λ (t : List (List Pt)). AreSegments t y s.segments) e (subst (λ (t : List (List Pt)). AreSegments (rings_of a') t s.segments) f s.are_segments))

    counted : AreRounded r.segments r.counted → AreRounded s.segments k.counted → r.counted ≡ k.counted
    counted p q = one_rounded s.segments r.counted k.counted (subst (λ (ss : List Seg). AreRounded ss r.counted) one p) q

pub pair_is_by_columns : (M N : Type 0) → PairIsByColumns M N
pair_is_by_columns M N = by_columns M N
