use Rattle.std.proofs.Common.{subst}
use Rattle.polygonize.specs.Below.{IsEdgeBelow}
use Rattle.strip_polygons.proofs.TiesLinks.{lower_linked, start_at}
use Rattle.strip_polygons.proofs.ties.link_lower.Goals as goal

pub returns-in_ok-push-in-Some-clause-added : goal.returns-in_ok-push-in-Some-clause-added
returns-in_ok-push-in-Some-clause-added g c =
    let directed = c.args.directed.now in
    rw c.in_ok-push-in-Some.ensures.items (lower_linked directed c.args.links.now.items c.args.place c.in-Some.lower c.requires.inside
    c.requires.rightward
    (subst (IsEdgeBelow directed (start_at directed c.args.place)) c.in-Some.is c.requires.below) (c.goes_right.ensures.yes c.if-goes_right.true)).0

pub returns-in_ok-push-in-Some-clause-linked : goal.returns-in_ok-push-in-Some-clause-linked
returns-in_ok-push-in-Some-clause-linked g c =
    let directed = c.args.directed.now in
    rw c.in_ok-push-in-Some.ensures.items (lower_linked directed c.args.links.now.items c.args.place c.in-Some.lower c.requires.inside
    c.requires.rightward
    (subst (IsEdgeBelow directed (start_at directed c.args.place)) c.in-Some.is c.requires.below) (c.goes_right.ensures.yes c.if-goes_right.true)).1
