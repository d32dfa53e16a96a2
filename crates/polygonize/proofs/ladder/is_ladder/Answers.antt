use Rattle.std.proofs.Common.{◌≡◌, ℕ, ◌+◌, ◌-◌, inl, inr, sym, subst, get_or, arith}
use Rattle.std.proofs.lemmas.Bool.{cases_lt}
use Rattle.polygonize.specs.Ladder.{AreInOrder}
use Rattle.polygonize.specs.Next.{edge_at}
use Rattle.polygonize.proofs.ladder.is_ladder.Goals as goal

pub loop-place-preserved : goal.loop-place-preserved
loop-place-preserved c = λ i h. elim (cases_lt (i + 1) c.loop-place.place) [
  | inl l ↦ c.loop-place.invariant i l
  | inr l ↦ (let a : i ≡ c.loop-place.place - 1 = omega arith in
      let b : i + 1 ≡ c.loop-place.place = omega arith in
      let P : ℕ → Type 0 = λ t. AreInOrder (edge_at c.args.edges.list.now (get_or c.args.numbers.now t 0)) (edge_at c.args.edges.list.now (get_or c.args.numbers.now (i + 1) 0)) c.args.columns in
      let Q : ℕ → Type 0 = λ t. AreInOrder (edge_at c.args.edges.list.now (get_or c.args.numbers.now (c.loop-place.place - 1) 0)) (edge_at c.args.edges.list.now (get_or c.args.numbers.now t 0)) c.args.columns in
      subst P (sym a) (subst Q (sym b) (c.are_in_order.ensures c.if-not-are_in_order.false)))
]

pub returns : goal.returns
returns c = λ t. record { spans = c.requires.spans; ordered = λ i h. c.loop-place.invariant i (let n = c.loop-place-test.false in omega (arith, n, h)) }
