use Rattle.results.specs.LineParts.{IsPartOfLine}
use Rattle.results.proofs.line_parts.rings_text.Given as goal

abbrev pub invariant-loop-number : goal.invariant-loop-number
invariant-loop-number g l = IsPartOfLine l.rings l.from l.number l.text.items
