use Rattle.strip_polygons.specs.Parting.{AddsTies}
use Rattle.strip_polygons.proofs.TiesRightward.{AreLowerLinked}
use Rattle.strip_polygons.proofs.ties.link_under.Given as goal

abbrev pub invariant-loop-number : goal.invariant-loop-number
invariant-loop-number g l = AddsTies l.directed l.fn.links.items l.links.items × AreLowerLinked l.directed l.places.items l.number l.links.items
