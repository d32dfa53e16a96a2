use Rattle.std.proofs.Common.{◌≡◌, min, take}
use Rattle.std.specs.Str.Parse.{AllDigits, digits_value}
use Rattle.edge_lines.specs.declared.coordinate.TheConstants.{CEILING}
use Rattle.edge_lines.proofs.coordinate.value_of_digits.Given as goal

abbrev pub invariant-loop-digit : goal.invariant-loop-digit
invariant-loop-digit l = record {
  digits : AllDigits 10 (take l.digit-index l.digits);
  value : l.value ≡ min (digits_value 10 (take l.digit-index l.digits)) CEILING;
}
