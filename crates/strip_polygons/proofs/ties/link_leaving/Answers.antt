use Rattle.std.proofs.Common.{◌-◌, arith, sym, ◌∙◌}
use Rattle.std.proofs.lemmas.Bool.{false≢true}
use Rattle.geom.proofs.Points.{same_point_of, same_point_true}
use Rattle.strip_polygons.proofs.TiesLinks.{leaving_apart, leaving_linked, start_at}
use Rattle.strip_polygons.proofs.ties.link_leaving.Goals as goal
use Rattle.strip_polygons.proofs.ties.link_leaving.Goals.{then-eq+in_ok-push, else-eq}

pub loop-place-preserved : goal.loop-place-preserved
loop-place-preserved g c =
    let directed = c.args.directed.now in
    let n = c.loop-place.place in
    let some = c.loop-place.auto.place in
    let u = start_at directed (n - 1) in
    let v = start_at directed n in
    elim c.if-eq.branch [
      | then-eq+in_ok-push w ↦ rw (w.links-is, w.in_ok-push.ensures.items) (leaving_linked directed c.args.links.now.items c.loop-place.links.items
          (n - 1) n (omega arith) c.loop-place-test.true (same_point_true u v (sym c.eq.ensures ∙ w.if-eq.true)) c.loop-place.invariant)
      | else-eq w ↦ rw w.links-is (leaving_apart directed c.args.links.now.items c.loop-place.links.items (n - 1) n (omega arith)
          (λ e. false≢true (sym w.if-eq.false ∙ c.eq.ensures ∙ same_point_of u v e)) c.loop-place.invariant)
    ]
