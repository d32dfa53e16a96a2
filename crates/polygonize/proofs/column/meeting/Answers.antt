use Rattle.std.proofs.Common.{ℕ, ◌<◌, ◌++◌, ◌∷◌, [], length, get_or, refl, arith}
use Rattle.std.specs.Prelude.{Contains}
use Rattle.polygonize.specs.Column.{Meets, Spans}
use Rattle.polygonize.specs.Next.{edge_at}
use Rattle.polygonize.proofs.Filtered.{one_kept, one_left}
use Rattle.polygonize.proofs.EdgesBelow.Nearness.{by_number}
use Rattle.polygonize.proofs.column.meeting.Goals as goal
use Rattle.polygonize.proofs.column.meeting.Goals.{then-not-spans+then-meets+in_ok-push, else-not-spans, else-not-spans-via-then-not-spans+else-meets, else-not-spans-via-else-not-spans}

pub loop-number-preserved : goal.loop-number-preserved
loop-number-preserved g c =
    let at : ℕ → ℕ = λ m. get_or c.args.numbers.now m 0 in
    let Fit : ℕ → Type 0 = λ k. k < length c.args.edges.list.now in
    let Wanted : ℕ → Type 0 = λ k. ¬ (Spans (edge_at c.args.edges.list.now k) c.args.all) × Meets (edge_at c.args.edges.list.now k) c.args.part in
    let i = c.loop-number.number-index in
    let found = c.loop-number.found.items in
    elim c.if-not-spans.branch [
      | then-not-spans+then-meets+in_ok-push w ↦ rw (w.found-is, w.in_ok-push.ensures.items) (one_kept at Fit Wanted i (at i) found (found ++ at i ∷ []) refl (c.requires.inside i 0 c.loop-number-test.true) refl c.loop-number.invariant)
      | else-not-spans w ↦ rw w.found-is (elim w.else-not-spans.branch [
        | else-not-spans-via-then-not-spans+else-meets v ↦ one_left at Fit Wanted i found (λ q. let a = v.meets.ensures.1 q.1 in let b = v.if-meets.false in cc) c.loop-number.invariant
        | else-not-spans-via-else-not-spans v ↦ one_left at Fit Wanted i found (λ q. q.0 (c.spans.ensures.0 v.if-not-spans.false)) c.loop-number.invariant
      ])
    ]

pub returns-clause-complete : goal.returns-clause-complete
returns-clause-complete g c = by_number (λ k. ¬ (Spans (edge_at c.args.edges.list.now k) c.args.all) → Meets (edge_at c.args.edges.list.now k) c.args.part → Contains c.loop-number.found.items k) c.args.numbers.now
    (λ m h s t. c.loop-number.invariant.wanted m (let n = c.loop-number-test.false in omega (arith, n, h)) (s, t))
