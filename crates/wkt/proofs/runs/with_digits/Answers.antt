use Rattle.std.proofs.Common.{ℕ, ◌≡◌, ◌+◌, ◌*◌, ◌<◌, length, subst, arith}
use Rattle.wkt.specs.Reading.{u32_max}
use Rattle.wkt.specs.Running.{PassesDigits}
use Rattle.wkt.proofs.Passing.{digits_begin, digits_few, few_more, few_fit}
use Rattle.wkt.proofs.runs.with_digits.Goals as goal

pub loop-index-init : goal.loop-index-init
loop-index-init c = (c.requires.digit, digits_begin c.args.text.now c.args.at c.args.number (omega (arith, c.requires.within)))

pub overflow_mul-magnitude : goal.overflow_mul-magnitude
overflow_mul-magnitude c =
    let fits : c.loop-index.magnitude * 10 + 0 < u32_max = few_fit c.loop-index.index c.loop-index.magnitude 0 (omega (arith, c.loop-index-test.true)) c.loop-index.invariant.0 (omega arith) in
    omega (arith, fits)

pub overflow_add-magnitude : goal.overflow_add-magnitude
overflow_add-magnitude c =
    let small : c.in-Some.digit < 10 = c.in-Some.ensures.1 in
    let fits : c.loop-index.magnitude * 10 + c.in-Some.digit < u32_max = few_fit c.loop-index.index c.loop-index.magnitude c.in-Some.digit (omega (arith, c.loop-index-test.true)) c.loop-index.invariant.0 small in
    omega (arith, fits)

pub loop-index-preserved : goal.loop-index-preserved
loop-index-preserved c =
    let small : c.in-Some.digit < 10 = c.in-Some.ensures.1 in
    let fits : c.loop-index.magnitude * 10 + c.in-Some.digit < u32_max = few_fit c.loop-index.index c.loop-index.magnitude c.in-Some.digit (omega (arith, c.loop-index-test.true)) c.loop-index.invariant.0 small in
    let inside : c.args.at + c.loop-index.index < length c.args.text.now = omega (arith, c.requires.within, c.loop-index-test.true) in (
      few_more c.loop-index.index c.loop-index.magnitude c.in-Some.digit c.loop-index.invariant.0 small,
      digits_few c.args.text.now c.args.at c.loop-index.index c.in-Some.digit c.loop-index.magnitude c.args.number c.loop-index.invariant.1 inside c.in-Some.ensures.0 fits,
    )

pub returns-in_default : goal.returns-in_default
returns-in_default c = (c.loop-index.invariant.1, omega (arith, c.loop-index-test.true))

pub returns : goal.returns
returns c =
    let ended : c.loop-index.index ≡ 8 = omega (arith, c.loop-index-test.false, c.loop-index.auto.index-end) in
    (subst (λ (k : ℕ). PassesDigits c.args.text.now c.args.at (c.args.at + k) c.args.number (record c.args.number { magnitude = c.loop-index.magnitude })) ended c.loop-index.invariant.1, omega arith)
