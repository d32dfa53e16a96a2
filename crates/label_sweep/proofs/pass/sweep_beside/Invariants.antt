use Rattle.std.proofs.Common.{◌≤◌, List, length}
use Rattle.std.specs.Prelude.{slice_range}
use Rattle.geom.specs.declared.edge.Counted.{Counted}
use Rattle.geom.specs.Rounded.{edges_of}
use Rattle.label_sweep.specs.Column.{IsStripOf}
use Rattle.label_sweep.specs.Slots.{IsKept, all_standing}
use Rattle.label_sweep.specs.Swept.{AreSweptFrom}
use Rattle.label_sweep.proofs.Sweeping.{IsSwept}
use Rattle.label_sweep.proofs.pass.sweep_beside.Given as goal

-- before the vertex
abbrev pub invariant-loop-number : goal.invariant-loop-number
invariant-loop-number g l = ((all : List Counted) → IsStripOf all l.fn.before l.own l.vertices
    → IsSwept all l.own l.vertices l.number l.next (all_standing l.line.standing) × AreSweptFrom (edges_of all) (slice_range l.vertices 0 l.number) l.swept.items)
    × IsKept l.line.standing × (l.next ≤ length l.own)
