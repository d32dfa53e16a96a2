use Rattle.std.proofs.Common.{◌↔◌, ◌⊎◌, take}
use Rattle.std.specs.Prelude.{Contains}
use Rattle.geom.specs.declared.directed.DirectedEdge.{DirectedEdge}
use Rattle.strip_polygons.specs.Strips.{BeginsIn}
use Rattle.strip_polygons.proofs.in_turn.known_of.Given as goal

abbrev pub invariant-loop-d : goal.invariant-loop-d
invariant-loop-d g l = (e : DirectedEdge) → Contains l.known.items e ↔ (Contains l.fn.waiting.items e ⊎ (Contains (take l.d-index l.directed) e × BeginsIn l.cuts l.strip e))
