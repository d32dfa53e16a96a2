use Rattle.std.proofs.Common.{◌≡◌, take}
use Rattle.geom.specs.Label.{ways_of}
use Rattle.face_label.proofs.label.directed_edges.Given as goal

abbrev pub invariant-loop-i : goal.invariant-loop-i
invariant-loop-i g l = l.edges.items ≡ ways_of (take l.i l.counted) (take l.i l.labels)
