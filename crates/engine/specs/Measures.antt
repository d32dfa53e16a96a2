-- Areas of two rounded layers and of the result of an operation on them, and how many steps the layers' routes have (own).
use Rattle.std.specs.Prelude.{◌≡◌, ◌+ℤ◌, ℕ, ℤ, List, map, sum_by}
use Rattle.geom.specs.declared.edge.Counted.{Counted}
use Rattle.geom.specs.declared.directed.DirectedEdge.{DirectedEdge}
use Rattle.geom.specs.declared.op.Op.{Op}
use Rattle.geom.specs.declared.op.Op.TheVariants.{Difference, Intersection, SymDifference, Union}
use Rattle.geom.specs.declared.segment.Source.{Source}
use Rattle.geom.specs.declared.segment.Source.TheVariants.{A, B}
use Rattle.geom.specs.Directed.{AreResultEdges}
use Rattle.geom.specs.Parity.{parity}
use Rattle.geom.specs.Pixel.{Point}
use Rattle.geom.specs.ResultEdges.{holds_at}
use Rattle.geom.specs.Rounded.{odd_edges}
use Rattle.points_law.specs.Law.{AreLayers}
use Rattle.cover_law.specs.Areas.{area_of, twice_area}
use Rattle.columns.specs.declared.layout.Columns.{Columns}
use Rattle.results.specs.declared.text.Report.{Report}
use Rattle.layers.specs.declared.plan.Plan.{Plan}
use Rattle.engine.specs.ColumnsRuns.{AreColumnsMade}
use Rattle.engine.specs.Results.{IsResultWrittenWithin}
use Rattle.engine.specs.declared.columns_output.ColumnsOutput.{ColumnsOutput}
use Rattle.engine.specs.declared.measures.LayerMeasures.{LayerMeasures}
use Rattle.engine.specs.declared.measures.Measures.{Measures}

-- a rounded edge of a layer alone: the other one has none
abbrev pub only : Source → Counted → Counted
only A c = record { edge = c.edge; in_a = c.in_a; in_b = 0 }
only B c = record { edge = c.edge; in_a = 0; in_b = c.in_b }

-- twice the area of a layer's points: it is that of its union with nothing
pub record IsLayerArea (layer : Source) (counted : List Counted) (area : ℤ) : Type 0 where
  pub directed : List DirectedEdge
  pub bound : AreResultEdges Union (map (only layer) counted) directed
  pub area_is : area ≡ twice_area directed

-- twice the area that the directed edges of an operation's result bound
pub record IsResultArea (op : Op) (counted : List Counted) (area : ℤ) : Type 0 where
  pub directed : List DirectedEdge
  pub bound : AreResultEdges op counted directed
  pub area_is : area ≡ twice_area directed

-- how many steps the routes of a layer's segments have: each is a rounded edge, which counts as often as it occurs
abbrev pub steps_in : Source → List Counted → ℕ
steps_in A counted = sum_by (λ c. c.in_a) counted
steps_in B counted = sum_by (λ c. c.in_b) counted

pub record IsLayerMeasured (layer : Source) (counted : List Counted) (measures : LayerMeasures) : Type 0 where
  pub area : IsLayerArea layer counted measures.twice_area
  pub steps : measures.steps ≡ steps_in layer counted

pub record AreLayersMeasured (counted : List Counted) (measures : Measures) : Type 0 where
  pub a : IsLayerMeasured A counted measures.a
  pub b : IsLayerMeasured B counted measures.b

-- a text that was written, the measures of its layers, and the area of its polygons
pub record IsMeasuredWithin {M : Type 0} (limit : ℕ) (op : Op) (plan : Plan) (a b : List ℕ) (text : List ℕ) (report : Report M) (measures : Measures) : Type 0 where
  pub written : IsResultWrittenWithin limit op plan a b text report
  pub layers : AreLayersMeasured written.counted measures
  pub area : measures.twice_area ≡ area_of written.result.polygons

-- the same of columns
pub record AreColumnsMeasured {M : Type 0} (limit : ℕ) (op : Op) (plan : Plan) (a b : Columns) (made : ColumnsOutput M) (measures : Measures) : Type 0 where
  pub columns : AreColumnsMade limit op plan a b made
  pub layers : AreLayersMeasured columns.counted measures
  pub area : measures.twice_area ≡ area_of columns.polygons

-- ---- laws

-- the points of a layer's union with nothing, along which its area is summed up, are those where its parity is odd
abbrev pub LayerAreaTells : Type 0
LayerAreaTells = (layer : Source) (counted : List Counted) (z : Point) → holds_at Union (map (only layer) counted) z ≡ parity (odd_edges layer counted) z

-- measures are determined by the operation and the layers
abbrev pub MeasuresAreOne : Type 0 → Type 0 → Type 0
MeasuresAreOne M N = (limit limit' : ℕ) (op : Op) (a b : List ℕ) (plan other : Plan) (text text' : List ℕ) (report : Report M) (report' : Report N) (measures measures' : Measures)
    → IsMeasuredWithin limit op plan a b text report measures → IsMeasuredWithin limit' op other a b text' report' measures' → measures ≡ measures'

-- what an operation's area and that of the intersection have of the areas of both layers: every point of a layer counts once for it
abbrev pub AddsUp : Op → ℤ → Measures → Type 0
AddsUp Union both m = m.twice_area +ℤ both ≡ m.a.twice_area +ℤ m.b.twice_area
AddsUp Intersection both m = m.twice_area ≡ both
AddsUp Difference both m = m.twice_area +ℤ both ≡ m.a.twice_area
AddsUp SymDifference both m = m.twice_area +ℤ (both +ℤ both) ≡ m.a.twice_area +ℤ m.b.twice_area

-- so it is of any two rounded layers
abbrev pub AreasAddUp : Type 0
AreasAddUp = (op : Op) (counted : List Counted) → AreLayers counted → (m : Measures) (both : ℤ) → IsResultArea op counted m.twice_area → AreLayersMeasured counted m → IsResultArea Intersection counted both
    → AddsUp op both m

-- and of the measures of two runs on the same texts, one of them an intersection
abbrev pub MeasuresAddUp : Type 0 → Type 0 → Type 0
MeasuresAddUp M N = (limit limit' : ℕ) (op : Op) (a b : List ℕ) (plan other : Plan) (text text' : List ℕ) (report : Report M) (report' : Report N) (measures both : Measures)
    → IsMeasuredWithin limit op plan a b text report measures → IsMeasuredWithin limit' Intersection other a b text' report' both → AddsUp op both.twice_area measures
