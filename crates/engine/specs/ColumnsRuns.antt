-- What a call for an operation on two layers that are columns promises: its columns and report, and what it is refused for (own).
use Rattle.std.specs.Prelude.{◌≡◌, ℕ, List}
use Rattle.geom.specs.declared.edge.Counted.{Counted}
use Rattle.geom.specs.declared.fault.Fault.TheVariants.{Memory}
use Rattle.geom.specs.declared.op.Op.{Op}
use Rattle.geom.specs.Canonical.{Shape}
use Rattle.columns.specs.declared.layout.Columns.{Columns}
use Rattle.columns.specs.Answers.{AreColumnsOf}
use Rattle.engine.specs.declared.columns_output.ColumnsOutput.{ColumnsOutput}
use Rattle.layers.specs.declared.columns_refused.ColumnsRefused.{ColumnsRefused}
use Rattle.layers.specs.declared.columns_refused.ColumnsRefused.TheVariants.{Run}
use Rattle.layers.specs.declared.plan.Plan.{Plan}
use Rattle.results.specs.Results.{IsResult}
use Rattle.engine.specs.RingLayers.{ReportsOnRings}
use Rattle.layers.specs.ColumnsRefusals.{AreBothAccepted, AreColumnsRefused, MayRunColumns, rings_of}

-- An answer: the columns of the result's polygons over the rounded edges of both layers, and the report of these. By `IsResult` any point
-- lies in the polygons exactly where the operation holds of its parities in the two rounded layers.
pub record AreColumnsMade {M : Type 0} (limit : ℕ) (op : Op) (plan : Plan) (a b : Columns) (made : ColumnsOutput M) : Type 0 where
  pub accepted : AreBothAccepted a b
  pub counted : List Counted
  pub reports : ReportsOnRings limit plan (rings_of a) (rings_of b) counted made.report
  pub polygons : List Shape
  pub result : IsResult op counted polygons
  pub columns : AreColumnsOf polygons made.columns

-- an answer by these rounded edges and polygons
abbrev pub AreColumnsOver : {M : Type 0} → ℕ → Op → Plan → Columns → Columns → List Counted → List Shape → ColumnsOutput M → Type 0
AreColumnsOver limit op plan a b counted polygons made = (answer : AreColumnsMade limit op plan a b made) × (answer.counted ≡ counted) × (answer.polygons ≡ polygons)

-- a refusal
abbrev pub DeclinesColumns : ℕ → Plan → Columns → Columns → ColumnsRefused → Type 0
DeclinesColumns limit plan a b (Run Memory) = MayRunColumns limit plan a b
DeclinesColumns limit plan a b refused = AreColumnsRefused limit plan a b refused
