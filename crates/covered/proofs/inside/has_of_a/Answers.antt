use Rattle.std.proofs.Common.{sym}
use Rattle.cover_sets.specs.Sets.{set_of}
use Rattle.covered.proofs.Extremes.{by_least}
use Rattle.covered.proofs.inside.has_of_a.Goals as goal

pub returns-in-Some : goal.returns-in-Some
returns-in-Some g c = sym (by_least c.args.split (set_of c.args.sets.now c.args.set) c.in-Some.feature c.in-Some.ensures)
