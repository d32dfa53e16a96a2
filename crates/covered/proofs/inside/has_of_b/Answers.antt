use Rattle.std.proofs.Common.{sym}
use Rattle.cover_sets.specs.Sets.{set_of}
use Rattle.covered.proofs.Extremes.{by_greatest}
use Rattle.covered.proofs.inside.has_of_b.Goals as goal

pub returns-in-Some : goal.returns-in-Some
returns-in-Some g c = sym (by_greatest c.args.split (set_of c.args.sets.now c.args.set) c.in-Some.feature c.in-Some.ensures)
