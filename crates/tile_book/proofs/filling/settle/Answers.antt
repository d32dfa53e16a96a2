use Rattle.std.proofs.Common.{◌≡◌, length, sum, arith, ap}
use Rattle.tile_book.proofs.Whole.{each_once_length}
use Rattle.tile_book.proofs.filling.settle.Goals as goal

pub returns-clause-counted : goal.returns-clause-counted
returns-clause-counted g c =
    let drawn = c.in-Ok.ensures in
    omega (arith, c.in-Ok-close.ensures.sum, c.in_ok-hands.ensures.counted, ap length drawn.ok.1, drawn.ok.0, each_once_length c.in-Ok._drawn.limit c.in-Ok._drawn.drawn drawn.once, c.requires.limit)

pub returns-clause-full : goal.returns-clause-full
returns-clause-full g c =
    λ none k below.
    let drawn = c.in-Ok.ensures in
    let whole : sum c.in_ok-hands.shares.items ≡ c.args.desk.limit = omega (arith, none, c.in_ok-hands.ensures.counted, ap length drawn.ok.1, drawn.ok.0, each_once_length c.in-Ok._drawn.limit c.in-Ok._drawn.drawn drawn.once, c.requires.limit) in
    c.in-Ok-close.ensures.full whole k (omega (arith, c.in-Ok-close.ensures.limit, below))
