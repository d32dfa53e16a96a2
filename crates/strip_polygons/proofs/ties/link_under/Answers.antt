use Rattle.std.proofs.Common.{◌<◌, length, arith}
use Rattle.std.specs.Prelude.{None}
use Rattle.std.proofs.lemmas.List.{get_or_read}
use Rattle.strip_polygons.proofs.TiesLinks.{both_added}
use Rattle.strip_polygons.proofs.TiesRightward.{all_lower_linked, below_inside, below_start, one_lower_linked, starts_are, starts_from_left, starts_in}
use Rattle.strip_polygons.proofs.ties.link_under.Goals as goal

pub edges_below-requires-clause-vertices_in : goal.edges_below-requires-clause-vertices_in
edges_below-requires-clause-vertices_in g c =
    let directed = c.args.directed.now in
    let places = c.in_ok-places.places.items in
    rw (starts_are directed places c.deref.result.now c.in_ok-starts.starts.items c.deref-2.result.now c.deref-2.ensures.value
    c.in_ok-starts.ensures c.deref.ensures.value)
    (starts_in directed places c.in_ok-places.ensures c.requires.in_limit)

pub edges_below-requires-clause-from_left : goal.edges_below-requires-clause-from_left
edges_below-requires-clause-from_left g c =
    let directed = c.args.directed.now in
    let places = c.in_ok-places.places.items in
    rw (starts_are directed places c.deref.result.now c.in_ok-starts.starts.items c.deref-2.result.now c.deref-2.ensures.value
    c.in_ok-starts.ensures c.deref.ensures.value)
    (starts_from_left directed places c.in_ok-places.ensures c.requires.ascending)

pub link_lower-requires-clause-below : goal.link_lower-requires-clause-below
link_lower-requires-clause-below g c =
    let directed = c.args.directed.now in
    let places = c.in_ok-places.places.items in
    let starts = c.deref-2.result.now in
    let below = c.in_ok-below.below.items in
    let n = c.loop-number.number in
    let some = c.loop-number-test.true in
    let same = starts_are directed places c.deref.result.now c.in_ok-starts.starts.items starts c.deref-2.ensures.value c.in_ok-starts.ensures
    c.deref.ensures.value in
    let inside : n < length places = omega (arith, some, c.len-number-end.ensures, c.in_ok-places.places.ok.0) in
    let there : n < length below = below_inside directed places starts below n same c.in_ok-below.ensures inside in
    rw (
      get_or_read places n c.index.result.now inside c.index.ensures 0,
      get_or_read below n c.index-in-loop-number.result.now there
          c.index-in-loop-number.ensures None,
    )
    (below_start directed places starts below n same c.in_ok-below.ensures inside)

pub loop-number-preserved : goal.loop-number-preserved
loop-number-preserved g c =
    let directed = c.args.directed.now in
    let places = c.in_ok-places.places.items in
    let n = c.loop-number.number in
    let some = c.loop-number-test.true in
    let inv = c.loop-number.invariant in
    let inside : n < length places = omega (arith, some, c.len-number-end.ensures, c.in_ok-places.places.ok.0) in (
      both_added directed c.args.links.now.items c.loop-number.links.items c.link_lower.new.links.items inv.0 c.in_ok-link_lower.ensures.added,
      one_lower_linked directed places n c.loop-number.links.items c.link_lower.new.links.items c.in_ok-link_lower.ensures.added
          (rw (get_or_read places n c.index.result.now inside c.index.ensures 0) at c.in_ok-link_lower.ensures.linked) inv.1,
    )

pub returns-clause-each : goal.returns-clause-each
returns-clause-each g c =
    let none = c.loop-number-test.false in
    all_lower_linked c.args.directed.now c.in_ok-places.places.items c.loop-number.links.items c.in_ok-places.ensures
    (λ m h. c.loop-number.invariant.1 m (omega (arith, h, none, c.len-number-end.ensures, c.in_ok-places.places.ok.0)))
