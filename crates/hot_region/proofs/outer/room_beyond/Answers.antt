use Rattle.std.proofs.Common.{arith}
use Rattle.std.proofs.lemmas.Int.{ints}
use Rattle.hot_region.proofs.outer.room_beyond.Goals as goal

pub overflow_sub-result : goal.overflow_sub-result
overflow_sub-result c =
    let hl = c.offset.ensures.small.low in
    let hh = c.offset.ensures.small.high in
    let kl = c.requires.level_in.low in
    let kh = c.requires.level_in.high in
    omega (arith, ints)
