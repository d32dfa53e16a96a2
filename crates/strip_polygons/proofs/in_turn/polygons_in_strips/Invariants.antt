use Rattle.std.specs.Prelude.{All}
use Rattle.geom.specs.Limit.{AreInLimit}
use Rattle.parts_law.specs.Bounds.{AreBounds}
use Rattle.strip_polygons.specs.Strips.{ArePartway}
use Rattle.strip_polygons.proofs.in_turn.polygons_in_strips.Given as goal

abbrev pub invariant-loop-strip : goal.invariant-loop-strip
invariant-loop-strip g l = record {
  in_limit : All (λ d. AreInLimit d.from d.to) l.waiting.items;
  partway : AreBounds l.directed → ArePartway l.cuts l.strip l.directed l.waiting.items l.polygons.items;
}
