use Rattle.polygonize.proofs.LoneShells.{are_polygons, has_each_edge, is_least, is_simple}
use Rattle.polygonize.proofs.polygon.polygons_along.Goals as goal

pub returns-in-Some-clause-polygons : goal.returns-in-Some-clause-polygons
returns-in-Some-clause-polygons g c = λ noded grounded. are_polygons c.args.edges.now c.requires.closes c.in-Some.shells.items (rw c.in-Some.is at c.in_ok-shells.ensures)

pub returns-in-Some-clause-each_edge : goal.returns-in-Some-clause-each_edge
returns-in-Some-clause-each_edge g c = has_each_edge c.args.edges.now c.requires.closes c.in-Some.shells.items (rw c.in-Some.is at c.in_ok-shells.ensures)

pub returns-in-Some-clause-simple : goal.returns-in-Some-clause-simple
returns-in-Some-clause-simple g c = is_simple c.args.edges.now c.requires.closes c.in-Some.shells.items (rw c.in-Some.is at c.in_ok-shells.ensures)

pub returns-in-Some-clause-least : goal.returns-in-Some-clause-least
returns-in-Some-clause-least g c = is_least c.args.edges.now c.requires.closes c.in-Some.shells.items (rw c.in-Some.is at c.in_ok-shells.ensures)
