use Rattle.std.proofs.Common.{◌∙◌, ◌+◌, ◌*◌, ap, min}
use Rattle.edge_lines.specs.declared.coordinate.TheConstants.{CEILING}
use Rattle.edge_lines.proofs.Digits.{no_numeral, one_more}
use Rattle.edge_lines.proofs.coordinate.value_of_digits.Goals as goal

pub returns-then-not-is_ascii_digit : goal.returns-then-not-is_ascii_digit
returns-then-not-is_ascii_digit c = no_numeral c.args.digits.now c.loop-digit.digit-index c.loop-digit-test.true c.if-not-is_ascii_digit.ensures.cases

pub loop-digit-preserved : goal.loop-digit-preserved
loop-digit-preserved c =
    let more = one_more c.args.digits.now c.loop-digit.digit-index c.loop-digit.value c.loop-digit-test.true c.if-not-is_ascii_digit.ensures.cases c.loop-digit.invariant.digits c.loop-digit.invariant.value in
    record {
      digits = more.0;
      value = c.min-value.ensures ∙ ap (λ d. min (c.loop-digit.value * 10 + d) CEILING) c.from.ensures ∙ more.1;
    }
