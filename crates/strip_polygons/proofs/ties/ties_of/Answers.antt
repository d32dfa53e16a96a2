use Rattle.strip_polygons.proofs.TiesFound.{links_are_ties, links_inside}
use Rattle.strip_polygons.proofs.ties.ties_of.Goals as goal

pub returns-clause-inside : goal.returns-clause-inside
returns-clause-inside g c = links_inside c.args.directed.now c.link_leaving.new.links.items c.link_following.new.links.items
    c.link_under.new.links.items
    (rw c.new-links.ensures.items at c.in_ok-link_leaving.ensures.added) c.in_ok-link_following.ensures.added c.in_ok-link_under.ensures.added

pub returns-clause-ties : goal.returns-clause-ties
returns-clause-ties g c = λ are noded. links_are_ties c.args.directed.now c.link_leaving.new.links.items c.link_following.new.links.items
    c.link_under.new.links.items
    (rw c.new-links.ensures.items at c.in_ok-link_leaving.ensures.added) c.in_ok-link_following.ensures.added c.in_ok-link_under.ensures.added
    c.requires.ascending c.in_ok-link_leaving.ensures.each c.in_ok-link_following.ensures.each c.in_ok-link_under.ensures.each are noded
