use Rattle.std.proofs.Common.{◌≤◌, refl, subst, sym, arith}
use Rattle.std.proofs.lemmas.Int.{clamps}
use Rattle.hands.specs.Consecutive.{ArePartsOf}
use Rattle.hands.proofs.Consecutive.{no_parts, one_more}
use Rattle.hands.proofs.part.even_parts.Goals as goal

pub loop-from-init : goal.loop-from-init
loop-from-init g c = (subst (λ ps. ArePartsOf 0 0 ps) (sym c.in_ok-all.ensures.items) (no_parts 0), omega arith)

pub loop-from-preserved : goal.loop-from-preserved
loop-from-preserved g c =
    let order : c.loop-from.from ≤ c.min-past.result = omega (arith, clamps) in
    let inside : c.min-past.result ≤ c.args.length = omega (arith, clamps) in
    (subst (λ ps. ArePartsOf 0 c.min-past.result ps) (sym c.in_ok-push.ensures.items) (one_more 0 c.loop-from.from _ _ c.loop-from.invariant.0 refl order), inside)
