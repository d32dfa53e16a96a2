-- What the two layers determine, whatever the plan of a run.
use Rattle.std.specs.Prelude.{◌≡◌, ℕ, List}
use Rattle.geom.specs.declared.fault.Fault.{Fault}
use Rattle.geom.specs.declared.fault.Part.{Part}
use Rattle.geom.specs.declared.edge.Counted.{Counted}
use Rattle.geom.specs.declared.op.Op.{Op}
use Rattle.layers.specs.declared.plan.Plan.{Plan}
use Rattle.results.specs.declared.text.Report.{Report}
use Rattle.engine.specs.Results.{IsResultWritten, IsResultWrittenWithin}
use Rattle.engine.specs.Runs.{AreEdgesWritten, AreEdgesWrittenWithin, Reports, ReportsWithin}
use Rattle.layers.specs.Refusals.{IsRefusedAt, IsRefusedAtWithin, MayRun, MayRunWithin}

-- the text of the edges is one: whatever the tile side and the number of workers, and whatever the threads did
abbrev pub EdgesTextIsOne : Type 0 → Type 0 → Type 0
EdgesTextIsOne M N = (a b : List ℕ) (plan other : Plan) (text text' : List ℕ) (report : Report M) (report' : Report N)
    → AreEdgesWritten plan a b text report → AreEdgesWritten other a b text' report' → text ≡ text'

-- the sums of two reports are the same: all their numbers but those of single tiles and of pieces that were made again
pub record HaveOneSize {M N : Type 0} (report : Report M) (other : Report N) : Type 0 where
  pub segments_a : report.segments_a ≡ other.segments_a
  pub segments_b : report.segments_b ≡ other.segments_b
  pub edges : report.edges ≡ other.edges
  pub hot : report.hot ≡ other.hot
  pub records : report.records ≡ other.records

-- the sums in the report are one
abbrev pub EdgesSizesAreOne : Type 0 → Type 0 → Type 0
EdgesSizesAreOne M N = (a b : List ℕ) (plan other : Plan) (text text' : List ℕ) (report : Report M) (report' : Report N)
    → AreEdgesWritten plan a b text report → AreEdgesWritten other a b text' report' → HaveOneSize report report'

-- the text of a result is one: the operation and the two layers determine it
abbrev pub ResultTextIsOne : Type 0 → Type 0 → Type 0
ResultTextIsOne M N = (op : Op) (a b : List ℕ) (plan other : Plan) (text text' : List ℕ) (report : Report M) (report' : Report N)
    → IsResultWritten op plan a b text report → IsResultWritten op other a b text' report' → text ≡ text'

-- the sums in the report are one, also for two operations
abbrev pub ResultSizesAreOne : Type 0 → Type 0 → Type 0
ResultSizesAreOne M N = (op op' : Op) (a b : List ℕ) (plan other : Plan) (text text' : List ℕ) (report : Report M) (report' : Report N)
    → IsResultWritten op plan a b text report → IsResultWritten op' other a b text' report' → HaveOneSize report report'

-- a plan and two layers are refused for one reason, at one place
abbrev pub RefusalIsOne : Type 0
RefusalIsOne = (plan : Plan) (a b : List ℕ) (part other : Part) (f g : Fault) → IsRefusedAt plan a b part f → IsRefusedAt plan a b other g → (part ≡ other) × (f ≡ g)

-- and then they are not answered
abbrev pub RefusedMayNotRun : Type 0
RefusedMayNotRun = (plan : Plan) (a b : List ℕ) (part : Part) (f : Fault) → IsRefusedAt plan a b part f → MayRun plan a b → ⊥

-- in two reports on the same layers, of any calls, the numbers of each tile are one where the tile side is
abbrev pub TilesAreOne : Type 0 → Type 0 → Type 0
TilesAreOne M N = (a b : List ℕ) (plan other : Plan) (counted counted' : List Counted) (report : Report M) (report' : Report N)
    → plan.side ≡ other.side → Reports plan a b counted report → Reports other a b counted' report' → report.tiles.items ≡ report'.tiles.items

-- two reports have the same numbers, all but that of the pieces that were made again
pub record AreOneReport {M N : Type 0} (report : Report M) (other : Report N) : Type 0 where
  pub sizes : HaveOneSize report other
  pub tiles : report.tiles.items ≡ other.tiles.items

-- the report of `run` is that of `edges` for the same plan and layers, whatever the operation
abbrev pub RunReportsAsEdges : Type 0 → Type 0 → Type 0
RunReportsAsEdges M N = (op : Op) (a b : List ℕ) (plan : Plan) (text text' : List ℕ) (report : Report M) (report' : Report N)
    → AreEdgesWritten plan a b text report → IsResultWritten op plan a b text' report' → AreOneReport report report'

-- ---- the same within any limits of segments: a limit refuses, and changes nothing else

abbrev pub EdgesTextIsOneWithin : Type 0 → Type 0 → Type 0
EdgesTextIsOneWithin M N = (limit limit' : ℕ) (a b : List ℕ) (plan other : Plan) (text text' : List ℕ) (report : Report M) (report' : Report N)
    → AreEdgesWrittenWithin limit plan a b text report → AreEdgesWrittenWithin limit' other a b text' report' → text ≡ text'

abbrev pub EdgesSizesAreOneWithin : Type 0 → Type 0 → Type 0
EdgesSizesAreOneWithin M N = (limit limit' : ℕ) (a b : List ℕ) (plan other : Plan) (text text' : List ℕ) (report : Report M) (report' : Report N)
    → AreEdgesWrittenWithin limit plan a b text report → AreEdgesWrittenWithin limit' other a b text' report' → HaveOneSize report report'

abbrev pub ResultTextIsOneWithin : Type 0 → Type 0 → Type 0
ResultTextIsOneWithin M N = (limit limit' : ℕ) (op : Op) (a b : List ℕ) (plan other : Plan) (text text' : List ℕ) (report : Report M) (report' : Report N)
    → IsResultWrittenWithin limit op plan a b text report → IsResultWrittenWithin limit' op other a b text' report' → text ≡ text'

abbrev pub ResultSizesAreOneWithin : Type 0 → Type 0 → Type 0
ResultSizesAreOneWithin M N = (limit limit' : ℕ) (op op' : Op) (a b : List ℕ) (plan other : Plan) (text text' : List ℕ) (report : Report M) (report' : Report N)
    → IsResultWrittenWithin limit op plan a b text report → IsResultWrittenWithin limit' op' other a b text' report' → HaveOneSize report report'

-- within one limit
abbrev pub RefusalIsOneWithin : Type 0
RefusalIsOneWithin = (limit : ℕ) (plan : Plan) (a b : List ℕ) (part other : Part) (f g : Fault)
    → IsRefusedAtWithin limit plan a b part f → IsRefusedAtWithin limit plan a b other g → (part ≡ other) × (f ≡ g)

abbrev pub RefusedMayNotRunWithin : Type 0
RefusedMayNotRunWithin = (limit : ℕ) (plan : Plan) (a b : List ℕ) (part : Part) (f : Fault) → IsRefusedAtWithin limit plan a b part f → MayRunWithin limit plan a b → ⊥

abbrev pub TilesAreOneWithin : Type 0 → Type 0 → Type 0
TilesAreOneWithin M N = (limit limit' : ℕ) (a b : List ℕ) (plan other : Plan) (counted counted' : List Counted) (report : Report M) (report' : Report N)
    → plan.side ≡ other.side → ReportsWithin limit plan a b counted report → ReportsWithin limit' other a b counted' report' → report.tiles.items ≡ report'.tiles.items

abbrev pub RunReportsAsEdgesWithin : Type 0 → Type 0 → Type 0
RunReportsAsEdgesWithin M N = (limit limit' : ℕ) (op : Op) (a b : List ℕ) (plan : Plan) (text text' : List ℕ) (report : Report M) (report' : Report N)
    → AreEdgesWrittenWithin limit plan a b text report → IsResultWrittenWithin limit' op plan a b text' report' → AreOneReport report report'
