use Rattle.polygonize.proofs.ClosesOnce.{closes_of}
use Rattle.polygonize.proofs.Numbers.{number_new, number_same}
use Rattle.polygonize.proofs.number.number_at.Goals as goal

pub returns-then-are_same : goal.returns-then-are_same
returns-then-are_same c = number_same c.args.edges.list.now c.args.i c.args.last c.requires.last (c.are_same.ensures.yes c.if-are_same.true)

pub returns-else-are_same : goal.returns-else-are_same
returns-else-are_same c = number_new c.args.edges.list.now (closes_of c.args.edges.closes).are_directed c.args.i c.args.last c.requires.inside c.requires.last (c.are_same.ensures.no c.if-are_same.false)
