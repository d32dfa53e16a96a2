use Rattle.std.proofs.Common.{arith}
use Rattle.std.proofs.Math.IntN.{pos}
use Rattle.std.proofs.lemmas.Int.{clamps, ints}
use Rattle.phases.proofs.Columns.{all_before, to_cut}
use Rattle.phases.proofs.strip_records.last_column.Goals as goal

pub returns-then-strip-cuts : goal.returns-then-strip-cuts
returns-then-strip-cuts c x from below = (λ h. all_before c.args.cuts.now x c.args.strip c.if-strip-cuts.true, λ h. omega (arith, ints, below))

pub returns : goal.returns
returns c x from below =
    to_cut c.args.cuts.now c.requires.ascending c.args.strip c.args.bounds.now.lo.x x from c.cut_at.result c.args.bounds.now.hi.x _ (pos 0) (let z = c.if-strip-cuts.false in let l = c.requires.within in omega (arith, z, l)) c.cut_at.ensures (omega (arith, ints, clamps, c.max-past.ensures.value, c.min.ensures.value)) below
