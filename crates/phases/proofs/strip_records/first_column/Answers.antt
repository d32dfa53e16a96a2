use Rattle.std.proofs.Common.{arith}
use Rattle.std.proofs.Math.IntN.{pos}
use Rattle.std.proofs.lemmas.Int.{clamps, ints}
use Rattle.phases.proofs.Columns.{from_cut}
use Rattle.phases.proofs.strip_records.first_column.Goals as goal

pub returns-then-strip-eq0 : goal.returns-then-strip-eq0
returns-then-strip-eq0 c x from = (λ h. omega arith, λ h. omega (arith, ints, from))

pub returns : goal.returns
returns c x from = from_cut c.args.cuts.now c.requires.ascending c.args.strip c.args.bounds.now.lo.x x from c.cut_at.result _ (pos 0) (let z = c.if-strip-eq0.false in omega (arith, z)) c.requires.within c.cut_at.ensures (omega (arith, ints, clamps, c.max.ensures.value))
