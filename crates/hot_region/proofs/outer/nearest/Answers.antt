use Rattle.std.proofs.Common.{arith}
use Rattle.std.proofs.lemmas.Int.{ints}
use Rattle.hot_region.proofs.outer.nearest.Goals as goal

pub overflow_add-result : goal.overflow_add-result
overflow_add-result c = let kl = c.span.ensures.small.low in let kh = c.span.ensures.small.high in omega (arith, ints)

pub returns-clause-from : goal.returns-clause-from
returns-clause-from c = let e = c.span.ensures.value in let kl = c.span.ensures.small.low in let kh = c.span.ensures.small.high in omega (arith, ints)

pub returns-clause-to : goal.returns-clause-to
returns-clause-to c = let kl = c.span.ensures.small.low in let kh = c.span.ensures.small.high in omega (arith, ints)
