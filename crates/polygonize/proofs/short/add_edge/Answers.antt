use Rattle.std.proofs.Common.{◌≡◌, ◌+◌, ◌<◌, ◌≤◌, ℕ, pos, inl, inr, length, get_or, subst, sym, arith}
use Rattle.std.proofs.lemmas.Bool.{cases_lt}
use Rattle.box_lanes.specs.Places.{IsPlace}
use Rattle.polygonize.specs.Below.{best_at, floor_at, vertex_at}
use Rattle.polygonize.specs.Next.{edge_at}
use Rattle.polygonize.specs.Reaching.{reaches}
use Rattle.polygonize.proofs.EdgesBelow.Floors.{edges_within}
use Rattle.polygonize.proofs.EdgesBelow.Searching.{near_unreached, reached_or, then_asked}
use Rattle.polygonize.proofs.short.add_edge.Goals as goal

pub add_reached-requires-clause-others : goal.add_reached-requires-clause-others
add_reached-requires-clause-others c = λ k l h.
    let edges = c.args.edges.list.now in
    let number = c.args.number in
    let heights = c.args.heights.now in
    let at = c.loop-at.at in
    let best = c.loop-at.best in
    let floor = floor_at c.loop-at.floors (at + k) in
    let rows = c.rows_of-rows in
    let before : at + k < length c.args.vertices.now = let p = c.requires.part_in in omega (arith, p, h) in
    let within : at + k < length best = let a = c.loop-at.invariant.0.same_length in let b = c.requires.same_length in omega (arith, a, b, before) in
    elim (reached_or (λ j. reaches rows.result (get_or heights j (pos 0)) (floor_at c.loop-at.floors j)) at k l) [
      | inl b ↦ inl (subst (λ (n : ℕ). IsPlace n k) (sym c.reached-near.ensures) b)
      | inr u ↦ inr (near_unreached edges (edge_at edges number) (vertex_at c.args.vertices.now (at + k)) (best_at best (at + k)) rows.result (get_or heights (at + k) (pos 0)) floor
          (edges_within edges number c.args.edges.in_limit c.requires.number_in) (c.loop-at.invariant.0.known (at + k)) (c.loop-at.invariant.1.each (at + k) within)
          rows.ensures.low rows.ensures.high (c.requires.heights.each (at + k) before) u)
    ]

pub loop-at-preserved : goal.loop-at-preserved
loop-at-preserved c =
    let from = c.args.part.from in
    let past = c.args.part.past in
    let at = c.loop-at.at in (
      then_asked c.args.edges.list.now c.args.vertices.now (λ k. k ≡ c.args.number) (λ r. (from ≤ r) × (r < at) × (r < past)) (λ r. (at ≤ r) × (r < at + 16) × (r < past)) _
          c.args.best.now c.loop-at.best c.add_reached.new.best
          (λ r h. elim (cases_lt r at) [
            | inl l ↦ inl (h.0, l, h.2)
            | inr l ↦ inr (l, h.1, h.2)
          ]) c.loop-at.invariant.0 c.add_reached.ensures.nearer,
      c.add_reached.ensures.floors,
    )
