use Rattle.engine.proofs.Copied.{all_noded, all_numbers, all_rounded, kept_covered, kept_in_limit}
use Rattle.engine.proofs.rounds.rounded_segments.Goals as goal

pub rounded_copies-requires-clause-in_limit : goal.rounded_copies-requires-clause-in_limit
rounded_copies-requires-clause-in_limit g c κs within =
    kept_in_limit c.args.segments.items _ _ _ _ c.deref.ensures.value c.deref-2.ensures.value c.in_ok-kept.ensures c.requires.in_limit

pub rounded_copies-requires-clause-covered : goal.rounded_copies-requires-clause-covered
rounded_copies-requires-clause-covered g c κs within =
    kept_covered c.args.segments.items _ _ _ _ c.deref.ensures.value c.deref-2.ensures.value c.in_ok-kept.ensures c.args.grid.now c.requires.covered

pub settled-requires : goal.settled-requires
settled-requires g c =
    all_noded c.args.segments.items _ _ _ _ c.deref.ensures.value c.deref-2.ensures.value c.in_ok-kept.ensures c.in_ok-rounded.rounded.edges.items c.in_ok-rounded.ensures.rounded

pub returns-clause-rounded : goal.returns-clause-rounded
returns-clause-rounded g c =
    let edges = c.in_ok-rounded.rounded.edges.items in
    rw c.settled.ensures.edges (all_rounded c.args.segments.items _ _ _ _ c.deref.ensures.value c.deref-2.ensures.value c.in_ok-kept.ensures edges c.in_ok-rounded.ensures.rounded)

pub returns-clause-tiles : goal.returns-clause-tiles
returns-clause-tiles g c =
    let tiles = c.in_ok-rounded.rounded.tiles.items in
    rw c.settled.ensures.tiles (all_numbers c.args.segments.items _ _ _ _ c.deref.ensures.value c.deref-2.ensures.value c.in_ok-kept.ensures c.args.grid.now tiles c.in_ok-rounded.ensures.tiles)
