use Rattle.std.proofs.Common.{length, refl}
use Rattle.polygonize.proofs.EdgesBelow.Floors.{first_floors}
use Rattle.polygonize.proofs.short.lowest_floors.Goals as goal

pub returns : goal.returns
returns g c =
    let best = c.args.best.now in
    let longer = rw (c.in_ok-floors.ensures.items_if_clones_equal (λ y h. h)) at c.in_ok-lengthen.ensures in
    first_floors c.args.edges.list.now c.args.vertices.now best (length best) c.lengthen.new.numbers.items refl c.args.edges.in_limit c.requires.known longer
