use Rattle.std.proofs.Common.{◌≡◌, take}
use Rattle.geom.specs.Rounded.{odd_edges}
use Rattle.face_label.proofs.odd.odd_in.Given as goal

abbrev pub invariant-loop-one : goal.invariant-loop-one
invariant-loop-one g l = l.odd.items ≡ odd_edges l.layer (take l.one-index l.counted)
