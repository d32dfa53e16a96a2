use Rattle.std.proofs.Common.{sym, subst, arith, below_more}
use Rattle.std.proofs.lemmas.Grind.{get_or_default_zero}
use Rattle.cover_sets_tests.specs.Deciding.{HasEvenEnds}
use Rattle.cover_sets_tests.proofs.degrees.have_even_degrees.Goals as goal

pub loop-f-preserved : goal.loop-f-preserved
loop-f-preserved c = below_more _ _ c.loop-f.invariant (c.ends_are_even.ensures c.if-not-ends_are_even.false)

pub returns : goal.returns
returns c t k d l = subst (HasEvenEnds c.args.features.now c.args.borders.now) (sym (get_or_default_zero c.args.features.now k d l)) (c.loop-f.invariant k (let e = c.loop-f-test.false in omega arith))
