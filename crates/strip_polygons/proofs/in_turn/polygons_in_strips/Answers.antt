use Rattle.std.proofs.Common.{List, sym, subst, arith}
use Rattle.std.specs.Prelude.{All}
use Rattle.geom.specs.declared.directed.DirectedEdge.{DirectedEdge}
use Rattle.geom.specs.Limit.{AreInLimit}
use Rattle.strip_polygons.proofs.InTurn.{met_in_limit}
use Rattle.strip_polygons.proofs.StripsLaw.{closed_bounds, first_partway, last_partway, next_partway, partway_directed, partway_noded}
use Rattle.strip_polygons.proofs.in_turn.polygons_in_strips.Goals as goal

pub loop-strip-init : goal.loop-strip-init
loop-strip-init g c = record {
  in_limit = subst (λ (ds : List DirectedEdge). All (λ d. AreInLimit d.from d.to) ds) (sym c.new-waiting.ensures.items) (λ k d l. absurd (omega arith));
  partway = λ bounds. rw (c.new-waiting.ensures.items, c.new-polygons.ensures.items) (first_partway c.args.cuts.now c.args.directed.now bounds);
}

pub parted-requires-clause-in_limit : goal.parted-requires-clause-in_limit
parted-requires-clause-in_limit g c = rw c.deref.ensures.value
    (met_in_limit c.args.cuts.now c.loop-strip.strip c.loop-strip.waiting.items c.args.directed.now c.in_ok-known.known.items c.in_ok-known.ensures
    c.loop-strip.invariant.in_limit c.requires.in_limit)

pub closed_polygons-requires-clause-ascending : goal.closed_polygons-requires-clause-ascending
closed_polygons-requires-clause-ascending g c = rw c.deref-in-loop-strip.ensures.value c.in_ok-closed.ensures.closed_ascends

pub closed_polygons-requires-clause-in_limit : goal.closed_polygons-requires-clause-in_limit
closed_polygons-requires-clause-in_limit g c = rw c.deref-in-loop-strip.ensures.value c.in_ok-closed.ensures.closed_in

pub returns-in_default : goal.returns-in_default
returns-in_default g c = λ bounds.
    let cuts = c.args.cuts.now in
    let strip = c.loop-strip.strip in
    let directed = c.args.directed.now in
    let waiting = c.loop-strip.waiting.items in
    let known = c.in_ok-known.known.items in
    let polygons = c.loop-strip.polygons.items in
    let partway = c.loop-strip.invariant.partway bounds in
    let met = c.in_ok-known.ensures in
    let parted = (rw c.deref.ensures.value at c.in_ok-closed.ensures.parted)
    (partway_directed cuts strip directed waiting known polygons partway met) (partway_noded cuts strip directed waiting known polygons partway met) in
    let found = (rw c.deref-in-loop-strip.ensures.value at c.in_ok-found.ensures)
    (closed_bounds cuts strip directed waiting known polygons partway met c.in_ok-closed.field-0.closed.items c.in_ok-closed.field-0.open.items parted) in
    rw c.in_default.is at found

pub loop-strip-preserved : goal.loop-strip-preserved
loop-strip-preserved g c = record {
  in_limit = c.in_ok-closed.ensures.open_in;
  partway = λ bounds.
      let cuts = c.args.cuts.now in
      let strip = c.loop-strip.strip in
      let directed = c.args.directed.now in
      let waiting = c.loop-strip.waiting.items in
      let known = c.in_ok-known.known.items in
      let polygons = c.loop-strip.polygons.items in
      let closed = c.in_ok-closed.field-0.closed.items in
      let open_ones = c.in_ok-closed.field-0.open.items in
      let partway = c.loop-strip.invariant.partway bounds in
      let met = c.in_ok-known.ensures in
      let parted = (rw c.deref.ensures.value at c.in_ok-closed.ensures.parted)
      (partway_directed cuts strip directed waiting known polygons partway met) (partway_noded cuts strip directed waiting known polygons partway met) in
      let found = (rw c.deref-in-loop-strip.ensures.value at c.in_ok-found.ensures)
      (closed_bounds cuts strip directed waiting known polygons partway met closed open_ones parted) in
      rw c.in_ok-append.ensures.items
      (next_partway cuts strip directed waiting known polygons partway met closed open_ones parted c.in-Some.found.items (rw c.in-Some.is at found));
}

pub returns : goal.returns
returns g c = λ bounds. last_partway c.args.cuts.now c.loop-strip.strip c.args.directed.now c.loop-strip.waiting.items c.loop-strip.polygons.items
    (let past = c.loop-strip-test.false in omega arith) (c.loop-strip.invariant.partway bounds)
