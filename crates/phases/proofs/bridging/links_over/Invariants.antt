use Rattle.std.proofs.Common.{◌≡◌, take}
use Rattle.std.specs.Prelude.{count_by}
use Rattle.geom.specs.declared.edge.Edge.{Edge}
use Rattle.geom.specs.declared.segment.Source.{Source}
use Rattle.geom.specs.Rounded.{joins}
use Rattle.linking.specs.Links.{count_links}
use Rattle.strips_law.specs.Strips.{steps_over}
use Rattle.phases.specs.Bridged.{AreApart}
use Rattle.phases.proofs.bridging.links_over.Given as goal

abbrev pub invariant-loop-i : goal.invariant-loop-i
invariant-loop-i g l = AreApart l.right l.carried → (e : Edge) (layer : Source) → count_links e layer l.links.items ≡ count_by (joins e) (steps_over layer (take l.i l.right) (take l.i l.carried))
