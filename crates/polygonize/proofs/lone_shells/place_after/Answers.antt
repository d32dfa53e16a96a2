use Rattle.polygonize.proofs.ClosesOnce.{closes_of}
use Rattle.polygonize.proofs.NextEdge.Looking.{starts, starts_inside}
use Rattle.polygonize.proofs.lone_shells.place_after.Goals as goal

pub returns-clause-inside : goal.returns-clause-inside
returns-clause-inside c = starts_inside c.args.edges.list.now (closes_of c.args.edges.closes) c.args.place c.first_leaving.result c.requires c.first_leaving.ensures

pub returns-clause-joins : goal.returns-clause-joins
returns-clause-joins c = starts c.args.edges.list.now (closes_of c.args.edges.closes) c.args.place c.first_leaving.result c.requires c.first_leaving.ensures
