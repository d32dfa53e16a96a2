-- What the calls for C tell of areas (own).
use Rattle.std.specs.Prelude.{◌≡◌, ℕ, List, None, Some, pos}
use Rattle.geom.specs.declared.edge.Counted.{Counted}
use Rattle.geom.specs.declared.fault.Fault.{Fault}
use Rattle.geom.specs.declared.fault.Part.{Part}
use Rattle.geom.specs.declared.op.Op.{Op}
use Rattle.geom.specs.declared.segment.Seg.{Seg}
use Rattle.geom.specs.Canonical.{Shape}
use Rattle.geom.specs.Rounded.{AreRounded}
use Rattle.geom.specs.Segments.{AreSegments}
use Rattle.columns.specs.declared.layout.Columns.{Columns}
use Rattle.cover_law.specs.Areas.{area_of}
use Rattle.layers.specs.ColumnsRefusals.{MayRunColumns, rings_of}
use Rattle.layers.specs.Refusals.{MayRunWithin}
use Rattle.layers.specs.Segments.{AreSegmentsOf}
use Rattle.results.specs.Results.{IsResult, IsResultText}
use Rattle.engine.specs.declared.measures.LayerMeasures.{LayerMeasures}
use Rattle.engine.specs.declared.measures.Measures.{Measures}
use Rattle.engine.specs.Measures.{AreLayersMeasured}
use Rattle.engine.specs.Runs.{DeclinesWithin, alone}
use Rattle.overlay_c.specs.declared.answer.OverlayAnswer.{OverlayAnswer}
use Rattle.overlay_c.specs.declared.measured.OverlayLayerMeasures.{OverlayLayerMeasures}
use Rattle.overlay_c.specs.declared.measured.OverlayMeasures.{OverlayMeasures}
use Rattle.overlay_c.specs.Boundary.{fault_answer, plain}
use Rattle.overlay_c.specs.Columns.{AreListsOf, Lists, op_from}

abbrev pub layer_told : LayerMeasures → OverlayLayerMeasures
layer_told m = record { twice_area = m.twice_area; steps = m.steps }

-- measures, as they are told
abbrev pub told_measures : Measures → OverlayMeasures
told_measures m = record { a = layer_told m.a; b = layer_told m.b; twice_area = m.twice_area }

-- what is told where there is no result
abbrev pub no_measures : OverlayMeasures
no_measures = record { a = record { twice_area = pos 0; steps = 0 }; b = record { twice_area = pos 0; steps = 0 }; twice_area = pos 0 }

-- the layers, with at most so many segments, and the tile side are within their limits, this is the text of the result that is asked for, and
-- these are the measures of its layers and the area of its polygons
pub record IsMeasuredText (limit call side : ℕ) (a b text : List ℕ) (told : OverlayMeasures) : Type 0 where
  pub op : Op
  pub asked : op_from call ≡ Some op
  pub may : MayRunWithin limit (alone side) a b
  pub segments : List Seg
  pub are_segments : AreSegmentsOf a b segments
  pub counted : List Counted
  pub rounded : ∥ AreRounded segments counted ∥₁
  pub result : IsResultText op counted text
  pub measures : Measures
  pub layers : AreLayersMeasured counted measures
  pub area : measures.twice_area ≡ area_of result.polygons
  pub told_is : told ≡ told_measures measures

-- the same of columns
pub record AreMeasuredColumns (limit call side : ℕ) (a b : Columns) (lists : Lists) (told : OverlayMeasures) : Type 0 where
  pub op : Op
  pub asked : op_from call ≡ Some op
  pub may : MayRunColumns limit (alone side) a b
  pub segments : List Seg
  pub are_segments : AreSegments (rings_of a) (rings_of b) segments
  pub counted : List Counted
  pub rounded : ∥ AreRounded segments counted ∥₁
  pub shapes : List Shape
  pub result : IsResult op counted shapes
  pub columns : AreListsOf shapes lists
  pub measures : Measures
  pub layers : AreLayersMeasured counted measures
  pub area : measures.twice_area ≡ area_of shapes
  pub told_is : told ≡ told_measures measures

-- why there is no text: no operation has the number, or the layers are refused
pub data FailsMeasured (limit call side : ℕ) (a b : List ℕ) : OverlayAnswer → Type 0 where
  no_operation : op_from call ≡ None → FailsMeasured limit call side a b (plain 2 0)
  declined : (op : Op) → op_from call ≡ Some op → (part : Part) (fault : Fault) → DeclinesWithin limit (alone side) a b part fault → FailsMeasured limit call side a b (fault_answer part fault)
