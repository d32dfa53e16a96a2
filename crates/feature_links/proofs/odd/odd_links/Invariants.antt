use Rattle.std.proofs.Common.{take}
use Rattle.feature_links.specs.Odd.{AreOdd}
use Rattle.feature_links.proofs.odd.odd_links.Given as goal

abbrev pub invariant-loop-link : goal.invariant-loop-link
invariant-loop-link g l = AreOdd (take l.link-index l.links) l.odd.items
