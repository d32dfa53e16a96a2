use Rattle.std.proofs.Common.{◌+◌, slice_index_or, refl, arith}
use Rattle.std.specs.Prelude.{Contains}
use Rattle.polygonize.specs.Below.{best_at, vertex_at}
use Rattle.polygonize.proofs.EdgesBelow.Nearness.{room_of}
use Rattle.polygonize.proofs.EdgesBelow.Searching.{IsOneOfFirst, all_first, for_fewer, nobody_asked, one_asked, one_more_first}
use Rattle.polygonize.proofs.nearest.add_edges.Goals as goal

pub loop-place-init : goal.loop-place-init
loop-place-init c = nobody_asked c.args.edges.list.now c.args.vertices.now (Contains c.args.numbers.now) (IsOneOfFirst c.args.asked.now 0) c.args.best.now (λ r i. let l = i.1 in omega (arith, l)) c.requires.known

pub nearest_of-found-requires-clause-column : goal.nearest_of-found-requires-clause-column
nearest_of-found-requires-clause-column c = λ t. (c.requires.columns t).each c.loop-place.place-index 0 c.loop-place-test.true

pub nearer-requires-clause-best_room : goal.nearer-requires-clause-best_room
nearer-requires-clause-best_room c =
    let r = slice_index_or c.args.asked.now c.loop-place.place-index 0 in
    room_of c.args.edges.list.now (vertex_at c.args.vertices.now r) (best_at c.loop-place.best r) (c.loop-place.invariant.known r)

pub nearer-requires-clause-found_room : goal.nearer-requires-clause-found_room
nearer-requires-clause-found_room c =
    let r = slice_index_or c.args.asked.now c.loop-place.place-index 0 in
    room_of c.args.edges.list.now (vertex_at c.args.vertices.now r) c.nearest_of-found.result c.nearest_of-found.ensures.known

pub loop-place-preserved : goal.loop-place-preserved
loop-place-preserved c =
    let r = slice_index_or c.args.asked.now c.loop-place.place-index 0 in
    let inside = c.requires.asked_in c.loop-place.place-index 0 c.loop-place-test.true in
    let a = c.loop-place.invariant.same_length in
    let b = c.requires.same_length in
    one_asked c.args.edges.list.now c.args.vertices.now (Contains c.args.numbers.now) (IsOneOfFirst c.args.asked.now c.loop-place.place-index) (IsOneOfFirst c.args.asked.now (c.loop-place.place-index + 1)) r c.args.best.now c.loop-place.best _ c.nearest_of-found.result c.nearer.result (one_more_first c.args.asked.now c.loop-place.place-index) (omega (arith, inside, a, b)) refl
    c.nearest_of-found.ensures.known c.nearest_of-found.ensures.near c.nearer.ensures c.loop-place.invariant

pub returns : goal.returns
returns c = for_fewer c.args.edges.list.now c.args.vertices.now (IsOneOfFirst c.args.asked.now c.loop-place.place-index) (Contains c.args.asked.now) (Contains c.args.numbers.now) (Contains c.args.numbers.now) c.args.best.now c.loop-place.best
    (all_first c.args.asked.now c.loop-place.place-index (let t = c.loop-place-test.false in omega arith)) (λ k h. h) c.loop-place.invariant
