use Rattle.std.proofs.Common.{◌<◌, length, arith, false}
use Rattle.std.proofs.lemmas.List.{get_or_read}
use Rattle.strip_polygons.proofs.PartingPicked.{IsClosedAt, WaitsAt, picked_if, picked_in, picked_parted}
use Rattle.strip_polygons.proofs.parting.parted.Goals as goal

pub loop-place-preserved : goal.loop-place-preserved
loop-place-preserved g c =
    let known = c.args.known.now in
    let flags = c.in_ok-flags.flags.items in
    let n = c.loop-place.place in
    let some = c.loop-place-test.true in
    let inside : n < length flags = omega (arith, some, c.in_ok-flags.ensures.same_length) in
    let flag = get_or_read flags n c.index.result.now inside c.index.ensures false in (
      picked_if known (IsClosedAt flags) c.requires.ascending n c.loop-place.closed.items c.put.new.closed.items some
          (rw flag at c.in_ok-put.ensures.closed) c.loop-place.invariant.0,
      picked_if known (WaitsAt c.args.cuts.now c.args.from known flags) c.requires.ascending n c.loop-place.«open».items c.put.new.waiting.items
          some (rw flag at c.in_ok-put.ensures.«open») c.loop-place.invariant.1,
    )

pub returns-clause-closed_in : goal.returns-clause-closed_in
returns-clause-closed_in g c = let all = c.loop-place-test.false in
    picked_in c.args.known.now (IsClosedAt c.in_ok-flags.flags.items) c.loop-place.place c.loop-place.closed.items (omega arith) c.requires.in_limit
    c.loop-place.invariant.0

pub returns-clause-open_in : goal.returns-clause-open_in
returns-clause-open_in g c = let all = c.loop-place-test.false in
    picked_in c.args.known.now (WaitsAt c.args.cuts.now c.args.from c.args.known.now c.in_ok-flags.flags.items) c.loop-place.place
    c.loop-place.«open».items (omega arith) c.requires.in_limit c.loop-place.invariant.1

pub returns-clause-parted : goal.returns-clause-parted
returns-clause-parted g c = λ are noded. (let all = c.loop-place-test.false in
    picked_parted c.args.known.now c.args.cuts.now c.args.from c.args.past c.in_ok-flags.flags.items (c.in_ok-flags.ensures.«open» are noded)
    c.loop-place.place c.loop-place.closed.items c.loop-place.«open».items (omega arith) c.loop-place.invariant.0 c.loop-place.invariant.1)
