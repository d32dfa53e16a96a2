use Rattle.std.proofs.Common.{arith}
use Rattle.std.proofs.lemmas.Int.{ints}
use Rattle.hot_region.proofs.outer.walls_away.Goals as goal

pub overflow_add-level : goal.overflow_add-level
overflow_add-level c = let kl = c.requires.level_in.low in let kh = c.requires.level_in.high in omega (arith, ints)

pub walls_at-requires : goal.walls_at-requires
walls_at-requires c = let kl = c.requires.level_in.low in let kh = c.requires.level_in.high in record { low = omega (arith, ints); high = omega (arith, ints) }
