use Rattle.std.proofs.Common.{arith}
use Rattle.std.proofs.lemmas.Int.{ints, clamps}
use Rattle.hot_region.proofs.border.moved.Goals as goal

pub overflow_sub-result : goal.overflow_sub-result
overflow_sub-result c = let k = c.requires.from in let l = c.requires.below in omega (arith, ints, clamps)

pub returns-then-is_first_bare-clause-from : goal.returns-then-is_first_bare-clause-from
returns-then-is_first_bare-clause-from c = let k = c.requires.from in let l = c.requires.below in omega (arith, ints, clamps)

pub returns-then-is_first_bare-clause-below : goal.returns-then-is_first_bare-clause-below
returns-then-is_first_bare-clause-below c = let k = c.requires.from in let l = c.requires.below in omega (arith, ints, clamps)

pub returns-else-is_first_bare-clause-from : goal.returns-else-is_first_bare-clause-from
returns-else-is_first_bare-clause-from c = let k = c.requires.from in let l = c.requires.below in omega (arith, ints, clamps)

pub returns-else-is_first_bare-clause-below : goal.returns-else-is_first_bare-clause-below
returns-else-is_first_bare-clause-below c = let k = c.requires.from in let l = c.requires.below in omega (arith, ints, clamps)
