use Rattle.std.proofs.Common.{arith, sym, ◌∙◌}
use Rattle.std.proofs.lemmas.Bool.{false≢true}
use Rattle.geom.proofs.Points.{same_point_of, same_point_true}
use Rattle.polygonize.specs.Next.{edge_at}
use Rattle.strip_polygons.proofs.TiesLinks.{IsFirstLeaving, following_linked, following_none, start_at}
use Rattle.strip_polygons.proofs.ties.link_following.Goals as goal
use Rattle.strip_polygons.proofs.ties.link_following.Goals.{then-next-directed+then-eq+in_ok-push, else-next-directed, else-next-directed-via-then-next-directed+else-eq, else-next-directed-via-else-next-directed}

pub loop-place-preserved : goal.loop-place-preserved
loop-place-preserved g c =
    let directed = c.args.directed.now in
    let n = c.loop-place.place in
    let m = c.first_leaving-next.result in
    let u = start_at directed m in
    let v = (edge_at directed n).to in
    let first : IsFirstLeaving directed v m = record { before = c.first_leaving-next.ensures.before; from = c.first_leaving-next.ensures.from } in
    elim c.if-next-directed.branch [
      | then-next-directed+then-eq+in_ok-push w ↦ rw (w.links-is, w.in_ok-push.ensures.items)
          (following_linked directed c.args.links.now.items c.loop-place.links.items n m c.loop-place-test.true w.if-next-directed.true
          (same_point_true u v (sym w.eq.ensures ∙ w.if-eq.true)) first c.loop-place.invariant)
      | else-next-directed w ↦ rw w.links-is (elim w.else-next-directed.branch [
        | else-next-directed-via-then-next-directed+else-eq y ↦ following_none directed c.requires c.args.links.now.items c.loop-place.links.items n
            m first (λ e. false≢true (sym y.if-eq.false ∙ y.eq.ensures ∙ same_point_of u v e.1)) c.loop-place.invariant
        | else-next-directed-via-else-next-directed y ↦ following_none directed c.requires c.args.links.now.items c.loop-place.links.items n m first
            (λ e. let l = e.0 in let f = y.if-next-directed.false in omega (arith, l, f)) c.loop-place.invariant
      ])
    ]
