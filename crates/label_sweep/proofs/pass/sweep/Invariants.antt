use Rattle.std.proofs.Common.{◌<◌, ◌≤◌, List, length}
use Rattle.geom.specs.declared.edge.Counted.{Counted}
use Rattle.label_sweep.specs.Column.{IsStripOf}
use Rattle.label_sweep.specs.Labels.{AreLabelsUpTo}
use Rattle.label_sweep.specs.Slots.{IsKept, all_standing}
use Rattle.label_sweep.proofs.Sweeping.{IsSwept}
use Rattle.label_sweep.proofs.pass.sweep.Given as goal

-- before the vertex
abbrev pub invariant-loop-number : goal.invariant-loop-number
invariant-loop-number g l = ((all : List Counted) → IsStripOf all l.fn.before l.own l.vertices
    → IsSwept all l.own l.vertices l.number l.next (all_standing l.line.standing) × AreLabelsUpTo all l.own l.next l.labelled.items × IsKept l.line.standing)
    × (0 < length l.line.standing.chunks.items) × (l.next ≤ length l.own)
