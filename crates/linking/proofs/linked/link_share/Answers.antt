use Rattle.std.proofs.Common.{List, flat_map, length, refl, subst}
use Rattle.routing.specs.declared.record.Record.{Record}
use Rattle.linking.specs.Ends.{AddsEnds}
use Rattle.linking.specs.Orders.{AreSortedOnce}
use Rattle.linking.proofs.EndLaws.{share_whole}
use Rattle.linking.proofs.RouteLinks.{share_inner, share_within}
use Rattle.linking.proofs.linked.link_share.Goals as goal

pub link_routes-requires-clause-inner : goal.link_routes-requires-clause-inner
link_routes-requires-clause-inner g c =
    let segments = c.args.segments.now in
    let found = flat_map (λ p. p.records.items) c.args.pieces.now in
    let records = c.in_order-records.result.items in
    let once = subst (λ (rs : List Record). AreSortedOnce rs records) c.in_ok-found.ensures c.in_order-records.ensures in
    rw c.deref.ensures.value (share_inner segments found records c.args.share.span c.first_of-first.result c.past_of-past.result c.requires.inner c.first_of-first.ensures c.past_of-past.ensures.below once)

pub link_routes-requires-clause-within : goal.link_routes-requires-clause-within
link_routes-requires-clause-within g c =
    let segments = c.args.segments.now in
    let found = flat_map (λ p. p.records.items) c.args.pieces.now in
    let records = c.in_order-records.result.items in
    let once = subst (λ (rs : List Record). AreSortedOnce rs records) c.in_ok-found.ensures c.in_order-records.ensures in
    rw c.deref.ensures.value (share_within segments found records c.args.share.span c.first_of-first.result c.past_of-past.result c.requires.inner c.first_of-first.ensures c.past_of-past.ensures.below once)

pub returns-clause-linked : goal.returns-clause-linked
returns-clause-linked g c =
    let segments = c.args.segments.now in
    let found = flat_map (λ p. p.records.items) c.args.pieces.now in
    let records = c.in_order-records.result.items in
    let first = c.first_of-first.result in
    let past = c.past_of-past.result in
    let once = subst (λ (rs : List Record). AreSortedOnce rs records) c.in_ok-found.ensures c.in_order-records.ensures in
    let routes = c.in_ok-linked.ensures in
    let has = subst (λ (rs : List Record). AddsEnds segments first past rs routes.records) c.deref.ensures.value routes.has in
    record {
      records = routes.records;
      once = share_whole segments found records routes.records c.args.share.span (length segments) first past refl c.first_of-first.ensures c.past_of-past.ensures.below once routes.ascending has;
      linked = routes.linked;
    }
