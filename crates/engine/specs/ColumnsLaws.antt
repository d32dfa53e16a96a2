-- What two layers that are columns determine, whatever the plan of a run and however their points stand in columns.
use Rattle.std.specs.Prelude.{◌≡◌, ◌<◌, ℕ, List, [], get_or, length}
use Rattle.geom.specs.declared.op.Op.{Op}
use Rattle.geom.specs.Canonical.{Shape}
use Rattle.wkt.specs.Canonical.{multi_text}
use Rattle.wkt.specs.Refusals.{StandsFor}
use Rattle.columns.specs.declared.answer.OwnedColumns.{OwnedColumns}
use Rattle.columns.specs.declared.layout.Columns.{Columns}
use Rattle.columns.specs.Answers.{AreColumnsOf}
use Rattle.columns.specs.Layout.{feature_rings_in, plain}
use Rattle.engine.specs.declared.columns_output.ColumnsOutput.{ColumnsOutput}
use Rattle.layers.specs.declared.columns_refused.ColumnsRefused.{ColumnsRefused}
use Rattle.engine.specs.declared.columns_pairs.PairsOutput.{PairsOutput}
use Rattle.layers.specs.declared.plan.Plan.{Plan}
use Rattle.results.specs.declared.text.Report.{Report}
use Rattle.engine.specs.ColumnsPairs.{ArePairsMade}
use Rattle.engine.specs.ColumnsRuns.{AreColumnsMade}
use Rattle.layers.specs.ColumnsRefusals.{AreColumnsRefused, MayRunColumns, rings_of}
use Rattle.engine.specs.Determined.{HaveOneSize}
use Rattle.engine.specs.Results.{IsResultWrittenWithin}

-- the columns hold the same numbers
pub record AreOneColumns {M N : Type 0} (columns : OwnedColumns M) (other : OwnedColumns N) : Type 0 where
  pub coordinates : columns.coordinates.items ≡ other.coordinates.items
  pub rings : columns.rings.items ≡ other.rings.items
  pub polygons : columns.polygons.items ≡ other.polygons.items

-- The columns of a result are one: the operation and the rings of the two layers determine them. The rings may stand in other columns, as
-- slices of longer ones, or x and y apart.
abbrev pub ColumnsAnswerIsOne : Type 0 → Type 0 → Type 0
ColumnsAnswerIsOne M N = (limit limit' : ℕ) (op : Op) (a b a' b' : Columns) (plan other : Plan) (made : ColumnsOutput M) (made' : ColumnsOutput N)
    → rings_of a ≡ rings_of a' → rings_of b ≡ rings_of b' → AreColumnsMade limit op plan a b made → AreColumnsMade limit' op other a' b' made' → AreOneColumns made.columns made'.columns

-- the sums in the report are one, also for two operations
abbrev pub ColumnsSizesAreOne : Type 0 → Type 0 → Type 0
ColumnsSizesAreOne M N = (limit limit' : ℕ) (op op' : Op) (a b a' b' : Columns) (plan other : Plan) (made : ColumnsOutput M) (made' : ColumnsOutput N)
    → rings_of a ≡ rings_of a' → rings_of b ≡ rings_of b' → AreColumnsMade limit op plan a b made → AreColumnsMade limit' op' other a' b' made' → HaveOneSize made.report made'.report

-- a text of `run` and the columns for the same rings are of the same polygons: the text is their canonical line
pub record AreOfOnePolygons {M : Type 0} (text : List ℕ) (columns : OwnedColumns M) : Type 0 where
  pub polygons : List Shape
  pub are_columns : AreColumnsOf polygons columns
  pub is_text : text ≡ multi_text polygons

-- where two texts and two layers of columns stand for the same rings
abbrev pub RunIsByColumns : Type 0 → Type 0 → Type 0
RunIsByColumns M N = (limit limit' : ℕ) (op : Op) (s t : List ℕ) (a b : Columns) (plan other : Plan) (text : List ℕ) (report : Report M) (made : ColumnsOutput N)
    → StandsFor s (rings_of a) → StandsFor t (rings_of b) → IsResultWrittenWithin limit op plan s t text report → AreColumnsMade limit' op other a b made
    → AreOfOnePolygons text made.columns × HaveOneSize report made.report

-- The polygons of a pair are those of the result on layers of which each has the rings of just one of the two features, in whatever columns
-- these stand, and whatever plan and limit that run has.
abbrev pub PairIsByColumns : Type 0 → Type 0 → Type 0
PairIsByColumns M N = (limit limit' : ℕ) (op : Op) (a b a' b' : Columns) (plan : Plan) (pairs : PairsOutput M) (made : ColumnsOutput N) (h : ArePairsMade limit op a b pairs) (i : ℕ) → i < length h.results
    → rings_of a' ≡ plain (get_or (feature_rings_in a) i []) → rings_of b' ≡ plain (get_or (feature_rings_in b) i []) → AreColumnsMade limit' op plan a' b' made
    → AreColumnsOf (get_or h.results i []) made.columns

-- a plan and two layers are refused for one reason
abbrev pub ColumnsRefusalIsOne : Type 0
ColumnsRefusalIsOne = (limit : ℕ) (plan : Plan) (a b : Columns) (f g : ColumnsRefused) → AreColumnsRefused limit plan a b f → AreColumnsRefused limit plan a b g → f ≡ g

-- and then they are not answered
abbrev pub RefusedColumnsMayNotRun : Type 0
RefusedColumnsMayNotRun = (limit : ℕ) (plan : Plan) (a b : Columns) (f : ColumnsRefused) → AreColumnsRefused limit plan a b f → MayRunColumns limit plan a b → ⊥
