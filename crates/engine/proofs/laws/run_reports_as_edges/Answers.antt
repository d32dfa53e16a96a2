-- Both laws are one lemma.
use Rattle.layers.specs.Refusals.{segment_limit}
use Rattle.engine.proofs.OneReport.{run_reports_as_edges}
use Rattle.engine.proofs.laws.run_reports_as_edges.Goals as goal

pub returns-clause-report : goal.returns-clause-report
returns-clause-report g c = run_reports_as_edges _ _ segment_limit segment_limit

pub returns-clause-within : goal.returns-clause-within
returns-clause-within g c = run_reports_as_edges _ _
