use Rattle.std.proofs.Common.{◌≤◌, List, length}
use Rattle.std.specs.Prelude.{slice_range}
use Rattle.geom.specs.declared.edge.Counted.{Counted}
use Rattle.geom.specs.Rounded.{edges_of}
use Rattle.label_sweep.specs.Column.{IsStripOf}
use Rattle.label_sweep.specs.Endings.{TellEndings}
use Rattle.label_sweep.specs.Leaving.{AreLeaving}
use Rattle.label_sweep.proofs.LeavingEdges.{IsReady}
use Rattle.label_sweep.proofs.leaving.sweep_leaving.Given as goal

-- before the vertex
abbrev pub invariant-loop-number : goal.invariant-loop-number
invariant-loop-number g l = ((all : List Counted) → IsStripOf all l.fn.before l.own l.vertices → TellEndings (edges_of all) l.vertices l.endings
    → IsReady all l.own l.vertices l.number l.next l.sweep.line.standing l.sweep.began.items × AreLeaving l.op all (slice_range l.vertices 0 l.number) l.edges.items)
    × (l.next ≤ length l.own)
