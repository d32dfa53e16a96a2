use Rattle.polygonize.proofs.Numbers.{Numbering}
use Rattle.polygonize.proofs.number.start_numbers.Given as goal

abbrev pub invariant-loop-i : goal.invariant-loop-i
invariant-loop-i g l = Numbering l.edges.list.now l.i l.last l.numbers.items
