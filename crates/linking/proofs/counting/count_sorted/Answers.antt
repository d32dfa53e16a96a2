use Rattle.std.proofs.Common.{sym, ◌≡◌}
use Rattle.linking.proofs.Tally.{IsAt, IsTally, ascending_in_order, ne_apart, ne_same, IsTally-none, IsTally-next, IsTally-more, counts_are}
use Rattle.linking.proofs.counting.count_sorted.Goals as goal
use Rattle.linking.proofs.counting.count_sorted.Goals.{then-ne+in_ok-add_counted, else-ne}

pub loop-link-init : goal.loop-link-init
loop-link-init g c =
    let links = c.args.links.now in
    let up = ascending_in_order links c.requires.in_order in
    let first = c.in-Some.ensures.item in
    let at : IsAt links 0 c.in-Some.first.now = record { below = first.3.0; item = sym first.1 } in
    rw c.in_ok-list.ensures.items (IsTally-none links c.in-Some.first.now c.uncounted-current.result up at c.uncounted-current.ensures.edge c.uncounted-current.ensures.in_a c.uncounted-current.ensures.in_b)

pub loop-link-preserved : goal.loop-link-preserved
loop-link-preserved g c =
    let links = c.args.links.now in
    let i = c.loop-link.link-index in
    let x = c.link-item.result in
    let up = ascending_in_order links c.requires.in_order in
    let at : IsAt links i x = record { below = c.loop-link-test.true; item = sym c.link-item.is } in
    let ready : IsTally links i c.if-ne.list.items c.if-ne.current × (c.if-ne.current.edge ≡ x.edge) = elim c.if-ne.branch [
      | then-ne+in_ok-add_counted w ↦ rw (w.list-is, w.current-is, w.in_ok-add_counted.ensures) (
        IsTally-next links i c.loop-link.list.items c.loop-link.current w.uncounted-current-then-ne.result x up at c.loop-link.invariant.0 c.loop-link.invariant.1
            (ne_apart c.loop-link.current.edge x.edge c.ne.result c.ne.ensures w.if-ne.true) w.uncounted-current-then-ne.ensures.edge w.uncounted-current-then-ne.ensures.in_a w.uncounted-current-then-ne.ensures.in_b,
        w.uncounted-current-then-ne.ensures.edge,
      )
      | else-ne w ↦ rw (w.list-is, w.current-is) (c.loop-link.invariant.0, ne_same c.loop-link.current.edge x.edge c.ne.result c.ne.ensures w.if-ne.false)
    ] in
    IsTally-more links i c.if-ne.list.items c.if-ne.current c.in_ok-current.current x c.loop-link-test.true c.link-item.is ready.0 ready.1 c.in_ok-current.ensures.0 c.in_ok-current.ensures.1 c.in_ok-current.ensures.2

pub returns : goal.returns
returns g c =
    let links = c.args.links.now in
    let first = c.in-Some.ensures.item in
    rw c.in_ok-add_counted-2.ensures (counts_are links c.loop-link.link-index c.loop-link.list.items c.loop-link.current c.loop-link-test.false first.3.0 c.loop-link.invariant.0 c.loop-link.invariant.1)
