use Rattle.std.proofs.Common.{length, ◌-◌, ◌≡◌, ◌<◌, ◌≤◌}
use Rattle.std.specs.List.{AllWithin}
use Rattle.rows.specs.declared.edges.RowEdge.{RowEdge}
use Rattle.rows.proofs.runs.end_of_run.Given as goal

abbrev pub invariant-loop-to : goal.invariant-loop-to
invariant-loop-to l = (l.from < l.to) × (l.to ≤ length l.edges) × AllWithin (λ (x : RowEdge). x.set ≡ l.set) l.edges l.from l.to

abbrev pub decreases-loop-to : goal.decreases-loop-to
decreases-loop-to l = length l.edges - l.to
