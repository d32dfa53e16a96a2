use Rattle.std.specs.Prelude.{Contains}
use Rattle.polygonize.specs.Below.{AreNearerFor}
use Rattle.polygonize.proofs.EdgesBelow.Searching.{IsOneOfFirst}
use Rattle.polygonize.proofs.nearest.add_edges.Given as goal

abbrev pub invariant-loop-place : goal.invariant-loop-place
invariant-loop-place l = AreNearerFor l.edges.list.now l.vertices (IsOneOfFirst l.asked l.place-index) (Contains l.numbers) l.initial.best l.best
