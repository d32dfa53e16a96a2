use Rattle.noding_test.proofs.Least.{lesser_first, lesser_second}
use Rattle.noding_test.proofs.pairs.lesser.Goals as goal

pub returns-then-lt : goal.returns-then-lt
returns-then-lt c = rw (c.in-Some.is, c.in-Some-other.is) (lesser_second c.in-Some.first c.in-Some-other.second c.lt.result c.lt.ensures c.if-lt.true)

pub returns-else-lt : goal.returns-else-lt
returns-else-lt c = rw (c.in-Some.is, c.in-Some-other.is) (lesser_first c.in-Some.first c.in-Some-other.second c.lt.result c.lt.ensures c.if-lt.false)
