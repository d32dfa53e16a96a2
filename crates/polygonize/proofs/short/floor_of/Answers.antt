use Rattle.polygonize.proofs.EdgesBelow.Floors.{edges_within, lowest_is_floor, lowest_kept}
use Rattle.polygonize.proofs.short.floor_of.Goals as goal

pub rows_of-requires : goal.rows_of-requires
rows_of-requires c = record { edge_in = edges_within c.args.edges.list.now c.in-Some.gap.number c.args.edges.in_limit (rw c.in-Some.is at c.requires.inside) }

pub returns-in-Some : goal.returns-in-Some
returns-in-Some c =
    let edges = c.args.edges.list.now in
    let gap = c.in-Some.gap in
    let inside = rw c.in-Some.is at c.requires.inside in
    rw c.in-Some.is (lowest_is_floor edges gap _ c.args.edges.in_limit inside (lowest_kept edges gap.number c.rows_of.result.low c.args.edges.in_limit inside c.rows_of.ensures.low))
