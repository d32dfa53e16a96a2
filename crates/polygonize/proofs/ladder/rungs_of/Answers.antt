use Rattle.std.proofs.Common.{ℕ, ◌<◌, ◌∷◌, [], length, get_or, map, refl}
use Rattle.std.proofs.lemmas.List.{map-append}
use Rattle.polygonize.specs.Column.{Spans}
use Rattle.polygonize.specs.Next.{edge_at}
use Rattle.polygonize.specs.declared.ladder.Rung.{Rung}
use Rattle.polygonize.proofs.Filtered.{one_kept, one_left}
use Rattle.polygonize.proofs.EdgesBelow.Ladders.{are_spanning}
use Rattle.polygonize.proofs.ladder.rungs_of.Goals as goal
use Rattle.polygonize.proofs.ladder.rungs_of.Goals.{then-spans+in_ok-push, else-spans}

pub loop-number-preserved : goal.loop-number-preserved
loop-number-preserved g c =
    let at : ℕ → ℕ = λ m. get_or c.args.numbers.now m 0 in
    let Fit : ℕ → Type 0 = λ k. (k < length c.args.edges.list.now) × Spans (edge_at c.args.edges.list.now k) c.args.columns in
    let Wanted : ℕ → Type 0 = λ k. Spans (edge_at c.args.edges.list.now k) c.args.columns in
    let i = c.loop-number.number-index in
    let number : Rung → ℕ = λ r. r.number in
    let rungs = c.loop-number.rungs.items in
    elim c.if-spans.branch [
      | then-spans+in_ok-push w ↦ rw (w.rungs-is, w.in_ok-push.ensures.items) (one_kept at Fit Wanted i (at i) (map number rungs) _ refl (c.requires.inside i 0 c.loop-number-test.true, c.spans.ensures.0 w.if-spans.true) (map-append number rungs (record { heights = w.heights_of-heights.result; number = at i } ∷ [])) c.loop-number.invariant)
      | else-spans w ↦ rw w.rungs-is (one_left at Fit Wanted i (map number rungs) (λ q. let a = c.spans.ensures.1 q in let b = w.if-spans.false in cc) c.loop-number.invariant)
    ]

pub returns : goal.returns
returns g c = are_spanning c.args.edges.list.now c.args.columns c.args.numbers.now (map (λ r. r.number) c.loop-number.rungs.items) c.loop-number.number-index c.loop-number-test.false c.loop-number.invariant
