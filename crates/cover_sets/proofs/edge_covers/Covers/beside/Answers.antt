use Rattle.std.proofs.Common.{arith}
use Rattle.cover_sets.proofs.Visits.{beside_listed}
use Rattle.cover_sets.proofs.edge_covers.Covers.beside.Goals as goal

pub returns-in-Some : goal.returns-in-Some
returns-in-Some g c fs v count b = beside_listed fs c.args.self.now.sets c.args.self.now.left.items c.args.self.now.right.items c.args.borders.now c.number_of.result c.index.result.now c.args.beside c.in-Some.edge c.in-Some.is c.number_of.ensures.within c.number_of.ensures.edge (let r = c.requires.right in let l = c.number_of.ensures.within in omega arith) c.index.ensures v count b
