use Rattle.std.proofs.Common.{rules, pos}
use Rattle.std.specs.Int.{int_div_euclid}
use Rattle.tiling.specs.Strips.{IsInStrip}
use Rattle.tiling.proofs.Striping.{within_count}
use Rattle.tiling.proofs.strips.Strips.strip_of.Goals as goal

pub returns-clause-within : goal.returns-clause-within
returns-clause-within g c =
    let v : IsInStrip c.args.self.now c.steps_to.result (int_div_euclid c.args.x2 (pos 2)) = search rules in
    within_count _ c.args.self.now c.args.x2 c.steps_to.result c.self.view_is c.self.invariant.some c.requires.low c.requires.high v
