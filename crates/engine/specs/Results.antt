-- The text of a set operation on two layers, with its report (own).
use Rattle.std.specs.Prelude.{ℕ, List}
use Rattle.geom.specs.declared.op.Op.{Op}
use Rattle.geom.specs.declared.edge.Counted.{Counted}
use Rattle.layers.specs.declared.plan.Plan.{Plan}
use Rattle.results.specs.declared.text.Report.{Report}
use Rattle.results.specs.declared.operation.Wanted.{Wanted}
use Rattle.results.specs.declared.operation.Wanted.TheVariants.{Apply, Edges}
use Rattle.engine.specs.Runs.{AreEdgesWrittenWithin, ReportsWithin}
use Rattle.layers.specs.Refusals.{segment_limit}
use Rattle.results.specs.Results.{IsResultText}

-- the text of the result, and its report
pub record IsResultWrittenWithin {M : Type 0} (limit : ℕ) (op : Op) (plan : Plan) (a b : List ℕ) (text : List ℕ) (report : Report M) : Type 0 where
  pub counted : List Counted
  pub result : IsResultText op counted text
  pub reports : ReportsWithin limit plan a b counted report

-- the same where no limit is given
abbrev pub IsResultWritten : {M : Type 0} → Op → Plan → List ℕ → List ℕ → List ℕ → Report M → Type 0
IsResultWritten op plan a b text report = IsResultWrittenWithin segment_limit op plan a b text report

-- the text that is wanted, and its report
abbrev pub IsWrittenWithin : {M : Type 0} → ℕ → Wanted → Plan → List ℕ → List ℕ → List ℕ → Report M → Type 0
IsWrittenWithin limit Edges plan a b text report = AreEdgesWrittenWithin limit plan a b text report
IsWrittenWithin limit (Apply op) plan a b text report = IsResultWrittenWithin limit op plan a b text report
