-- The report of `run` is that of `edges`.
use Rattle.std.proofs.Common.{ℕ, List, refl}
use Rattle.geom.specs.declared.op.Op.{Op}
use Rattle.engine.specs.Determined.{AreOneReport, RunReportsAsEdgesWithin}
use Rattle.engine.specs.Results.{IsResultWrittenWithin}
use Rattle.engine.specs.Runs.{AreEdgesWrittenWithin}
use Rattle.layers.specs.declared.plan.Plan.{Plan}
use Rattle.results.specs.declared.text.Report.{Report}
use Rattle.engine.proofs.Determined.{one_size}
use Rattle.engine.proofs.OneTiling.{tiles_are_one}

one_report : (M N : Type 0) (limit limit' : ℕ) (op : Op) (a b : List ℕ) (plan : Plan) (text text' : List ℕ) (report : Report M) (report' : Report N)
    → AreEdgesWrittenWithin limit plan a b text report → IsResultWrittenWithin limit' op plan a b text' report' → AreOneReport report report'
one_report M N limit limit' op a b plan text text' report report' h k = record {
  sizes = one_size limit limit' a b plan plan h.counted k.counted report report' h.reports k.reports;
  tiles = tiles_are_one M N limit limit' a b plan plan h.counted k.counted report report' refl h.reports k.reports;
}

pub run_reports_as_edges : (M N : Type 0) → RunReportsAsEdgesWithin M N
run_reports_as_edges M N = one_report M N
