use Rattle.std.proofs.Common.{◌≡◌, ◌∙◌, ◌+◌, length, refl, ap, subst, sym, arith}
use Rattle.std.proofs.lemmas.Option.{slice_get_read}
use Rattle.std.specs.Prelude.{ℕ}
use Rattle.geom.specs.declared.point.Pt.{Pt}
use Rattle.grid.specs.Tiles.{HasTile}
use Rattle.linking.specs.Ends.{record_of, route_of}
use Rattle.linking.specs.Numbers.{CountsMore}
use Rattle.linking.proofs.RouteLinks.{IsLinkedTo, all_linked_to, counts_size, first_linked, inner_at, last_at, next_linked, on_ok_both, pixels_apart, route_long}
use Rattle.linking.proofs.linked.add_route.Goals as goal

pub add-requires-clause-tile : goal.add-requires-clause-tile
add-requires-clause-tile g c = c.requires.tiles 0 (record_of c.args.number c.args.s c.args.s.a) (omega arith)

pub loop-record-init : goal.loop-record-init
loop-record-init g c =
    let makers = c.args.makers.now in
    let maker = c.index-makers-number.result in
    let one = subst (λ (n : ℕ). CountsMore c.args.grid.now c.args.s.a n c.args.linking.now.counts.counts.items c.add.new.self.counts.items) c.times.ensures c.in_ok-add.ensures.counted in
    let at = slice_get_read makers (length makers) c.args.number maker refl c.requires.number c.index-makers-number.is in (
      refl,
      counts_size c.args.grid.now c.args.s.a _ _ _ one ∙ c.requires.size,
      c.in_ok-add.ensures.last,
      first_linked c.args.grid.now g.M.MakesLinks.link_of g.M.MakesLinks.times_of c.args.makers.now c.args.number c.args.s c.args.inner.now c.requires.own maker at _ _ _ one,
    )

pub add_step-requires-clause-apart : goal.add_step-requires-clause-apart
add_step-requires-clause-apart g c =
    let inner = c.args.inner.now in
    let i = c.loop-record.record-index in
    let within = c.loop-record-test.true in
    let first = record_of c.args.number c.args.s c.args.s.a in
    let long = route_long c.args.number c.args.s inner in
    pixels_apart c.args.grid.now g.M.MakesLinks.link_of g.M.MakesLinks.times_of c.args.makers.now c.args.number c.args.s inner c.requires.own i (omega (arith, within, long)) _ _ c.loop-record.invariant.0
    (ap (λ r. r.pixel) (sym (inner_at c.args.number c.args.s inner i first _ within))) c.requires.apart

pub add_step-requires-clause-tile : goal.add_step-requires-clause-tile
add_step-requires-clause-tile g c =
    let inner = c.args.inner.now in
    let i = c.loop-record.record-index in
    let within = c.loop-record-test.true in
    let first = record_of c.args.number c.args.s c.args.s.a in
    let long = route_long c.args.number c.args.s inner in
    subst (λ (p : Pt). HasTile c.args.grid.now p) (ap (λ r. r.pixel) (inner_at c.args.number c.args.s inner i first _ within)) (c.requires.tiles (i + 1) first (omega (arith, within, long)))

pub loop-record-preserved : goal.loop-record-preserved
loop-record-preserved g c =
    let makers = c.args.makers.now in
    let inner = c.args.inner.now in
    let number = c.args.number in
    let i = c.loop-record.record-index in
    let within = c.loop-record-test.true in
    let first = record_of number c.args.s c.args.s.a in
    let long = route_long number c.args.s inner in
    let inv = c.loop-record.invariant in
    let here = ap (λ r. r.pixel) (sym (inner_at number c.args.s inner i first _ within)) in
    let one = c.in_ok-add_step.ensures.counted in
    let (edge, between, items) = c.in_ok-add_step.ensures.link in
    let at = slice_get_read makers (length makers) number c.index-makers-number.result refl c.requires.number c.index-makers-number.is in (
      here,
      counts_size c.args.grid.now _ _ _ _ one ∙ inv.1,
      c.in_ok-add_step.ensures.last,
      next_linked c.args.grid.now g.M.MakesLinks.link_of g.M.MakesLinks.times_of makers number c.args.s inner c.requires.own i (omega (arith, within, long)) _ _ inv.0 here edge c.index-makers-number.result at between _ _ _ _ _ _ items one inv.3,
    )

pub add_step-requires-2-clause-apart : goal.add_step-requires-2-clause-apart
add_step-requires-2-clause-apart g c =
    let inner = c.args.inner.now in
    let i = c.loop-record.record-index in
    let first = record_of c.args.number c.args.s c.args.s.a in
    let long = route_long c.args.number c.args.s inner in
    let reached = c.loop-record-test.false in
    let end = c.loop-record.auto.record-index-end in
    let last : i ≡ length inner = omega (arith, reached, end) in
    pixels_apart c.args.grid.now g.M.MakesLinks.link_of g.M.MakesLinks.times_of c.args.makers.now c.args.number c.args.s inner c.requires.own i (omega (arith, last, long)) _ _ c.loop-record.invariant.0
    (ap (λ r. r.pixel) (sym (last_at c.args.number c.args.s inner i first last))) c.requires.apart

pub add_step-requires-2-clause-tile : goal.add_step-requires-2-clause-tile
add_step-requires-2-clause-tile g c =
    let inner = c.args.inner.now in
    let i = c.loop-record.record-index in
    let first = record_of c.args.number c.args.s c.args.s.a in
    let long = route_long c.args.number c.args.s inner in
    let reached = c.loop-record-test.false in
    let end = c.loop-record.auto.record-index-end in
    let last : i ≡ length inner = omega (arith, reached, end) in
    subst (λ (p : Pt). HasTile c.args.grid.now p) (ap (λ r. r.pixel) (last_at c.args.number c.args.s inner i first last)) (c.requires.tiles (i + 1) first (omega (arith, last, long)))

pub returns-clause-route : goal.returns-clause-route
returns-clause-route g c =
    let grid = c.args.grid.now in
    let makers = c.args.makers.now in
    let link_of = g.M.MakesLinks.link_of in
    let times_of = g.M.MakesLinks.times_of in
    let inner = c.args.inner.now in
    let number = c.args.number in
    let s = c.args.s in
    let own = c.requires.own in
    let i = c.loop-record.record-index in
    let first = record_of number s s.a in
    let long = route_long number s inner in
    let reached = c.loop-record-test.false in
    let end = c.loop-record.auto.record-index-end in
    let last : i ≡ length inner = omega (arith, reached, end) in
    let whole : i + 1 + 1 ≡ length (route_of number s inner) = omega (arith, last, long) in
    let inv = c.loop-record.invariant in
    let at = slice_get_read makers (length makers) number c.index-makers-number.result refl c.requires.number c.index-makers-number.is in
    let links = c.args.linking.now.links.items in
    let counts = c.args.linking.now.counts.counts.items in
    let new = c.add_step-2.new.linking in
    on_ok_both c.add_step-2.result _ _ _ c.add_step-2.ensures.link c.add_step-2.ensures.counted (λ (edge, between, items) one.
    all_linked_to grid link_of times_of makers number s inner own links new.links.items counts new.counts.counts.items (subst (λ (n : ℕ). IsLinkedTo grid link_of times_of makers number s inner n links counts new.links.items new.counts.counts.items) whole
    (next_linked grid link_of times_of makers number s inner own i (omega (arith, last, long)) _ _ inv.0 (ap (λ r. r.pixel) (sym (last_at number s inner i first last))) edge c.index-makers-number.result at between links _ _ counts _ _ items one inv.3)))
