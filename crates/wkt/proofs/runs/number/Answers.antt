use Rattle.std.proofs.Common.{true, false, ap, arith}
use Rattle.wkt.specs.Machine.{class_of}
use Rattle.wkt.specs.declared.reader.Number.{Number as Numeral}
use Rattle.wkt.proofs.Passing.{positive, negative}
use Rattle.wkt.proofs.runs.number.Goals as goal

pub returns-then-text-at-eq45 : goal.returns-then-text-at-eq45
returns-then-text-at-eq45 c =
    let read : Numeral = record { at = c.args.at; negative = true; magnitude = c.with_digits-magnitude.result.0 } in (
      negative c.args.text.now c.args.at c.with_digits-magnitude.result.1 c.in_ok-value.value read (omega (arith, c.requires)) (ap class_of c.if-text-at-eq45.true) (omega (arith, c.requires)) c.in_ok-value.ensures.0 c.with_digits-magnitude.ensures.0,
      omega (arith, c.with_digits-magnitude.ensures.1),
    )

pub returns : goal.returns
returns c =
    let read : Numeral = record { at = c.args.at; negative = false; magnitude = c.with_digits-magnitude-2.result.0 } in (
      positive c.args.text.now c.args.at c.with_digits-magnitude-2.result.1 c.in_ok-value-2.value read (omega (arith, c.requires)) c.in_ok-value-2.ensures.0 c.with_digits-magnitude-2.ensures.0,
      omega (arith, c.with_digits-magnitude-2.ensures.1),
    )
