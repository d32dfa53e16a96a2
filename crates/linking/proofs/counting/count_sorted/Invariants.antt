use Rattle.linking.proofs.Tally.{IsTally, HasBegun}
use Rattle.linking.proofs.counting.count_sorted.Given as goal

abbrev pub invariant-loop-link : goal.invariant-loop-link
invariant-loop-link g l = IsTally l.links l.link-index l.list.items l.current × HasBegun l.links l.link-index l.current
