use Rattle.std.proofs.Common.{◌<◌, length}
use Rattle.std.specs.Prelude.{All}
use Rattle.polygonize.specs.Below.{AreFloors, AreTakenBut}
use Rattle.polygonize.proofs.short.add_short.Given as goal

abbrev pub invariant-loop-number : goal.invariant-loop-number
invariant-loop-number g l =
    All (λ k. k < length l.edges.list.now) l.left.items × AreTakenBut l.edges.list.now l.vertices l.number l.left.items l.initial.best l.best
    × AreFloors l.edges.list.now l.best l.floors.items
