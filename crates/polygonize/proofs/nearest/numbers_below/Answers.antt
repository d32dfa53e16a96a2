use Rattle.std.proofs.Common.{◌<◌, ◌++◌, ◌∷◌, [], refl, arith}
use Rattle.std.specs.Prelude.{⊤}
use Rattle.polygonize.proofs.Filtered.{none_wanted, one_kept}
use Rattle.polygonize.proofs.nearest.numbers_below.Goals as goal

pub loop-number-init : goal.loop-number-init
loop-number-init g c = rw c.in_ok-all.ensures.items (none_wanted (λ m. m) (λ k. k < c.args.bound) (λ k. ⊤) 0 (λ m h w. absurd (omega (arith, h))))

pub loop-number-preserved : goal.loop-number-preserved
loop-number-preserved g c = rw c.in_ok-push.ensures.items (one_kept (λ m. m) (λ k. k < c.args.bound) (λ k. ⊤) c.loop-number.number c.loop-number.number c.loop-number.all.items (c.loop-number.all.items ++ c.loop-number.number ∷ []) refl c.loop-number-test.true refl c.loop-number.invariant)

pub returns-clause-complete : goal.returns-clause-complete
returns-clause-complete g c = λ r h. c.loop-number.invariant.wanted r (let n = c.loop-number-test.false in omega (arith, n, h)) tt
