use Rattle.std.proofs.Common.{◌≡◌, Less, inl, inr, length, refl, arith}
use Rattle.std.proofs.lemmas.Option.{slice_get_read}
use Rattle.std.specs.Prelude.{Some, slice_get, slice_range}
use Rattle.linking.specs.Ends.{route_of}
use Rattle.linking.specs.Orders.{record_order}
use Rattle.linking.specs.Shares.{AreInner}
use Rattle.linking.proofs.Covering.{are_covered}
use Rattle.linking.proofs.LinkedLaws.{known_apart, known_tiles, routes_moved}
use Rattle.linking.proofs.RouteLinks.{last_linked, none_linked, own, route_known, route_linked, route_up}
use Rattle.linking.proofs.Slices.{slice_has, slice_pairs}
use Rattle.linking.proofs.linked.link_routes.Goals as goal

pub loop-number-init : goal.loop-number-init
loop-number-init g c = rw c.in_ok-with_capacity.ensures.items (
  none_linked c.args.grid.now g.M.MakesLinks.link_of g.M.MakesLinks.times_of c.args.segments.now c.args.makers.now c.args.first c.args.records.now c.requires.ascending _ c.in_ok-none.ensures.counts (λ k d l. (c.requires.within k d l).0),
  c.in_ok-none.ensures.last,
  inr refl,
)

pub add_route-requires-clause-own : goal.add_route-requires-clause-own
add_route-requires-clause-own g c =
    let next = c.past_number-next.ensures in
    own c.args.grid.now g.M.MakesLinks.link_of g.M.MakesLinks.times_of c.args.segments.now c.args.makers.now c.args.first c.args.records.now c.requires.ascending c.loop-number.number c.loop-number.place c.past_number-next.result _ _ c.loop-number.invariant.0 next.from next.within next.up_to

pub add_route-requires-clause-apart : goal.add_route-requires-clause-apart
add_route-requires-clause-apart g c =
    let segments = c.args.segments.now in
    let records = c.args.records.now in
    let number = c.loop-number.number in
    let s = c.index-segments-number.result in
    let place = c.loop-number.place in
    let to = c.past_number-next.result in
    let next = c.past_number-next.ensures in
    let within = next.within in
    let between = slice_range records place to in
    let at : slice_get segments number ≡ Some s = slice_get_read segments (length segments) number s refl (let l = c.requires.past in let t = c.loop-number-test.true in omega (arith, l, t)) c.index-segments-number.is in
    let known : AreInner segments between = λ r k. c.requires.inner r (slice_has records place to within r k) in
    let mine = own c.args.grid.now g.M.MakesLinks.link_of g.M.MakesLinks.times_of segments c.args.makers.now c.args.first records c.requires.ascending number place to _ _ c.loop-number.invariant.0 next.from within next.up_to in
    known_apart segments (route_of number s between) (route_known segments number s at between known mine) (route_up segments number s at between known mine (slice_pairs records (λ r q. record_order r q ≡ Less) place to c.requires.ascending))

pub add_route-requires-clause-tiles : goal.add_route-requires-clause-tiles
add_route-requires-clause-tiles g c =
    let segments = c.args.segments.now in
    let records = c.args.records.now in
    let number = c.loop-number.number in
    let s = c.index-segments-number.result in
    let place = c.loop-number.place in
    let to = c.past_number-next.result in
    let next = c.past_number-next.ensures in
    let within = next.within in
    let between = slice_range records place to in
    let at : slice_get segments number ≡ Some s = slice_get_read segments (length segments) number s refl (let l = c.requires.past in let t = c.loop-number-test.true in omega (arith, l, t)) c.index-segments-number.is in
    let known : AreInner segments between = λ r k. c.requires.inner r (slice_has records place to within r k) in
    let mine = own c.args.grid.now g.M.MakesLinks.link_of g.M.MakesLinks.times_of segments c.args.makers.now c.args.first records c.requires.ascending number place to _ _ c.loop-number.invariant.0 next.from within next.up_to in
    known_tiles segments (route_of number s between) (route_known segments number s at between known mine) c.args.grid.now (are_covered c.args.grid.now segments c.requires.covered)

pub add_route-requires-clause-size : goal.add_route-requires-clause-size
add_route-requires-clause-size g c = c.loop-number.invariant.0.routes.linked.counts_are.one_each

pub loop-number-preserved : goal.loop-number-preserved
loop-number-preserved g c =
    let segments = c.args.segments.now in
    let number = c.loop-number.number in
    let s = c.index-segments-number.result in
    let next = c.past_number-next.ensures in
    let inside = c.loop-number-test.true in
    let at : slice_get segments number ≡ Some s = slice_get_read segments (length segments) number s refl (let l = c.requires.past in omega (arith, l, inside)) c.index-segments-number.is in (
      route_linked c.args.grid.now g.M.MakesLinks.link_of g.M.MakesLinks.times_of segments c.args.makers.now c.args.first c.args.records.now c.requires.ascending number c.loop-number.place c.past_number-next.result _ _ c.loop-number.invariant.0 next.from next.within next.up_to
          next.next c.requires.inner s at _ _ c.in_ok-add_route.ensures.route,
      c.in_ok-add_route.ensures.last,
      inl (omega (arith, inside)),
    )

pub returns : goal.returns
returns g c =
    let grid = c.args.grid.now in
    let link_of = g.M.MakesLinks.link_of in
    let times_of = g.M.MakesLinks.times_of in
    let segments = c.args.segments.now in
    let makers = c.args.makers.now in
    let records = c.args.records.now in
    let reached = c.loop-number-test.false in
    routes_moved grid link_of times_of makers _ c.of.result.items.items _ c.of.ensures segments c.args.first c.args.past records
    (rw c.into_counts.ensures (last_linked grid link_of times_of segments makers c.args.first records c.requires.ascending c.args.past c.loop-number.number c.loop-number.place _ _ (omega (arith, reached)) c.loop-number.invariant.2
    (λ k d l. (c.requires.within k d l).1) c.loop-number.invariant.0))
