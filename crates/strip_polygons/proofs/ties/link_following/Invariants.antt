use Rattle.strip_polygons.specs.Parting.{AddsTies, LinkFollowing}
use Rattle.strip_polygons.proofs.ties.link_following.Given as goal

abbrev pub invariant-loop-place : goal.invariant-loop-place
invariant-loop-place g l = AddsTies l.directed l.fn.links.items l.links.items × LinkFollowing l.directed l.place l.links.items
