use Rattle.strip_polygons.specs.Parting.{AddsTies, LinkLeaving}
use Rattle.strip_polygons.proofs.ties.link_leaving.Given as goal

abbrev pub invariant-loop-place : goal.invariant-loop-place
invariant-loop-place g l = AddsTies l.directed l.fn.links.items l.links.items × LinkLeaving l.directed l.place l.links.items
