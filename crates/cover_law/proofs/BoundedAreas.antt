-- The area that directed edges bound, as a sum over all edges.
use Rattle.std.proofs.Common.{◌≡◌, inl, inr, ◌<◌, ℕ, List, Bool, true, false, not, refl, sym, ap, ◌∙◌, arith, subst}
use Rattle.std.specs.List.{AllPairs, Contains, count_by}
use Rattle.std.specs.Prelude.{◌&&◌, ◌↔◌}
use Rattle.std.proofs.Math.IntN.{ℤ, pos, ◌+ℤ◌, ◌-ℤ◌, ◌*ℤ◌, neg_ℤ}
use Rattle.std.proofs.lemmas.Int.{ints}
use Rattle.geom.specs.declared.point.Pt.{Pt}
use Rattle.geom.specs.declared.edge.Edge.{Edge}
use Rattle.geom.specs.declared.directed.DirectedEdge.{DirectedEdge}
use Rattle.geom.specs.Directed.{IsDirectedBefore, RunsAlong, from_to}
use Rattle.geom.specs.Pixel.{Point}
use Rattle.geom.specs.ResultEdges.{left_side, right_side}
use Rattle.geom.proofs.Edges.{one_run}
use Rattle.geom.proofs.Integers.{expand, linear}
use Rattle.geom.proofs.Lists.{In, contains_in, counts_some, in_contains, some_passes}
use Rattle.points_law.proofs.Choices.{◌⊕◌, left, right}
use Rattle.points_law.proofs.ResultOfChoices.{Edges}
use Rattle.points_law.proofs.Even.{by_test, clash, not_true}
use Rattle.points_law.proofs.Counts.{left_turned}
use Rattle.points_law.proofs.TextParity.{each_once, goes, goes_is, goes_of, turned_apart}
use Rattle.cover_law.specs.Areas.{side_area, sum_of, twice_area}
use Rattle.cover_law.proofs.IntegerSums.{exchange, sum_add, sum_cong, sum_counts, sum_none, sum_single, when}
use Rattle.cover_law.proofs.Told.{Told}

-- d runs along one of the edges, with points of which I holds on its left, and others on its right
pub record Bounds (es : List Edge) (I : Point → Bool) (d : DirectedEdge) : Type 0 where
  pub edge : Edge
  pub inside : Contains es edge
  pub runs : RunsAlong d edge
  pub bounds : I (left_side d.from d.to) && not (I (right_side d.from d.to)) ≡ true

abbrev pub along : Edge → ℤ
along e = side_area (from_to e.p e.q)

abbrev pub back : Edge → ℤ
back e = side_area (from_to e.q e.p)

back_is : (e : Edge) → back e ≡ neg_ℤ (along e)
back_is e = opposite e.p.x e.p.y e.q.x e.q.y
  where
    opposite : (a b c d : ℤ) → (c *ℤ b) -ℤ (d *ℤ a) ≡ neg_ℤ ((a *ℤ d) -ℤ (b *ℤ c))
    opposite a b c d = simp expand (omega (arith, linear))

-- what an edge adds: x and y are whether I holds on its left and on its right
abbrev pub edge_area : Edge → Bool → Bool → ℤ
edge_area e x y = when x (along e) -ℤ when y (along e)

both_sides : (a b : ℤ) (x y : Bool) → b ≡ neg_ℤ a → when (x && not y) a +ℤ when (y && not x) b ≡ when x a -ℤ when y a
both_sides a b true true h = omega (arith, ints)
both_sides a b true false h = omega (arith, ints)
both_sides a b false true h = omega (arith, ints)
both_sides a b false false h = omega (arith, ints)

when_no : (t : Bool) (c : ℤ) → t ≡ false → when t c ≡ pos 0
when_no true c h = absurd (let k = h in cc)
when_no false c h = refl

when_yes : (t : Bool) (c : ℤ) → t ≡ true → when t c ≡ c
when_yes true c h = refl
when_yes false c h = absurd (let k = h in cc)

only_left : (a b c : ℤ) → a ≡ c → b ≡ pos 0 → a +ℤ b ≡ c
only_left a b c h k = omega (arith, ints)

only_right : (a b c : ℤ) → a ≡ pos 0 → b ≡ c → a +ℤ b ≡ c
only_right a b c h k = omega (arith, ints)

-- what e adds for a side: where it runs along e
abbrev term : DirectedEdge → Edge → ℤ
term d e = when (goes e.p e.q d) (along e) +ℤ when (goes e.q e.p d) (back e)

term_there : (d : DirectedEdge) (e : Edge) → RunsAlong d e → term d e ≡ side_area d
term_there d e (inl h) = only_left (when (goes e.p e.q d) (along e)) (when (goes e.q e.p d) (back e)) (side_area d)
    (when_yes (goes e.p e.q d) (along e) (goes_of e.p e.q d h) ∙ ap side_area (sym h))
    (when_no (goes e.q e.p d) (back e) (not_true (goes e.q e.p d) (λ k. turned_apart e e (sym h ∙ goes_is e.q e.p d k))))
term_there d e (inr h) = only_right (when (goes e.p e.q d) (along e)) (when (goes e.q e.p d) (back e)) (side_area d)
    (when_no (goes e.p e.q d) (along e) (not_true (goes e.p e.q d) (λ k. turned_apart e e (sym (goes_is e.p e.q d k) ∙ h))))
    (when_yes (goes e.q e.p d) (back e) (goes_of e.q e.p d h) ∙ ap side_area (sym h))

term_elsewhere : (d : DirectedEdge) (e f : Edge) → RunsAlong d f → ¬ (e ≡ f) → term d e ≡ pos 0
term_elsewhere d e f r n = only_left (when (goes e.p e.q d) (along e)) (when (goes e.q e.p d) (back e)) (pos 0)
    (when_no (goes e.p e.q d) (along e) (not_true (goes e.p e.q d) (λ k. n (one_run d e f (inl (goes_is e.p e.q d k)) r))))
    (when_no (goes e.q e.p d) (back e) (not_true (goes e.q e.p d) (λ k. n (one_run d e f (inr (goes_is e.q e.p d k)) r))))

module _ (es : List Edge) (E : Edges es) {v : Bool} {I : Point → Bool} (T : Told es v I) (directed : List DirectedEdge) (up : AllPairs IsDirectedBefore directed) (exact : (d : DirectedEdge) → Contains directed d ↔ Bounds es I d) where
  turned : (u w : Pt) → I (left_side w u) ≡ I (right_side u w)
  turned u w = T.told (left_side w u) ∙ ap (λ (t : Bool). v ⊕ t) (left_turned T.choice es u w) ∙ sym (T.told (right_side u w))

  abbrev taken : Pt → Pt → Bool
  taken u w = I (left_side u w) && not (I (right_side u w))

  -- the directed edge from u to w is there once, where it bounds
  one_way : (u w : Pt) (c : ℤ) (e : Edge) → In e es → RunsAlong (from_to u w) e → sum_of (λ d. when (goes u w d) c) directed ≡ when (taken u w) c
  one_way u w c e i r = by_test (taken u w) (sum_of (λ d. when (goes u w d) c) directed ≡ when (taken u w) c)
      (λ t. sum_single (λ d. when (goes u w d) c) directed (each_once directed up) (from_to u w)
      (contains_in directed (from_to u w) ((exact (from_to u w)).1 (record { edge = e; inside = in_contains es e i; runs = r; bounds = t })))
      (λ d j n. when_no (goes u w d) c (not_true (goes u w d) (λ k. n (goes_is u w d k))))
      ∙ when_yes (goes u w (from_to u w)) c (goes_of u w (from_to u w) refl) ∙ sym (when_yes (taken u w) c t))
      (λ f. sum_none (λ d. when (goes u w d) c) directed (λ d j. when_no (goes u w d) c (not_true (goes u w d) (λ k.
      clash (taken u w) f ((exact (from_to u w)).0 (subst (λ (x : DirectedEdge). Contains directed x) (goes_is u w d k) (in_contains directed d j))).bounds)))
      ∙ sym (when_no (taken u w) c f))

  module _ (sides : List DirectedEdge) (each : (test : DirectedEdge → Bool) → count_by test sides ≡ count_by test directed) where
    is_there : (d : DirectedEdge) → In d sides → Bounds es I d
    is_there d i =
        let s = some_passes (goes d.from d.to) directed (subst (λ (n : ℕ). 0 < n) (each (goes d.from d.to)) (counts_some (goes d.from d.to) sides d i (goes_of d.from d.to d refl))) in
        (exact d).0 (subst (λ (x : DirectedEdge). Contains directed x) (goes_is d.from d.to s.0 s.2) (in_contains directed s.0 s.1))

    by_side : (d : DirectedEdge) → In d sides → side_area d ≡ sum_of (term d) es
    by_side d i =
        let b = is_there d i in
        sym (sum_single (term d) es E.distinct b.edge (contains_in es b.edge b.inside) (λ e j n. term_elsewhere d e b.edge b.runs n) ∙ term_there d b.edge b.runs)

    by_edge : (e : Edge) → In e es → sum_of (λ d. term d e) sides ≡ edge_area e (I (left e)) (I (right e))
    by_edge e i =
        sum_add (λ d. when (goes e.p e.q d) (along e)) (λ d. when (goes e.q e.p d) (back e)) sides
        ∙ ap (λ (n : ℤ). n +ℤ sum_of (λ d. when (goes e.q e.p d) (back e)) sides) (sum_counts (goes e.p e.q) (along e) sides directed (each (goes e.p e.q)) ∙ one_way e.p e.q (along e) e i (inl refl))
        ∙ ap (λ (n : ℤ). when (taken e.p e.q) (along e) +ℤ n) (sum_counts (goes e.q e.p) (back e) sides directed (each (goes e.q e.p)) ∙ one_way e.q e.p (back e) e i (inr refl))
        ∙ ap (λ (t : Bool). when (taken e.p e.q) (along e) +ℤ when (t && not (I (right_side e.q e.p))) (back e)) (turned e.p e.q)
        ∙ ap (λ (t : Bool). when (taken e.p e.q) (along e) +ℤ when (I (right e) && not t) (back e)) (sym (turned e.q e.p))
        ∙ both_sides (along e) (back e) (I (left e)) (I (right e)) (back_is e)

    pub bounded_area : twice_area sides ≡ sum_of (λ e. edge_area e (I (left e)) (I (right e))) es
    bounded_area =
        sum_cong side_area (λ d. sum_of (term d) es) sides by_side
        ∙ exchange term sides es
        ∙ sum_cong (λ e. sum_of (λ d. term d e) sides) (λ e. edge_area e (I (left e)) (I (right e))) es by_edge
