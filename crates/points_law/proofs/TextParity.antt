-- The parity of a point over the rings of a text: each side runs along one edge of the result, and each such edge has one side.
use Rattle.std.proofs.Common.{◌≡◌, ◌⊎◌, inl, inr, List, [], ◌∷◌, Bool, true, false, refl, sym, ap, ◌∙◌, arith, subst, ⊎_elim}
use Rattle.std.specs.List.{Contains, AllPairs}
use Rattle.std.specs.Prelude.{◌&&◌, ◌||◌, int_lt, int_le}
use lib.IntN.{ℤ, pos, ◌-ℤ◌, ◌*ℤ◌}
use lib.Signed.{◌<ℤ◌, ◌≤ℤ◌}
use borrow.Author.Differences.{ints}
use Rattle.geom.specs.declared.op.Op.{Op}
use Rattle.geom.specs.declared.point.Pt.{Pt}
use Rattle.geom.specs.declared.edge.Edge.{Edge}
use Rattle.geom.specs.declared.edge.Counted.{Counted}
use Rattle.geom.specs.declared.directed.DirectedEdge.{DirectedEdge}
use Rattle.geom.specs.Canonical.{HaveEachEdge, Shape, written_rings}
use Rattle.geom.specs.Directed.{from_to, IsDirectedBefore, RunsAlong, AreResultEdges}
use Rattle.geom.specs.Parity.{covers, lies_above, parity}
use Rattle.geom.specs.Pixel.{Point}
use Rattle.geom.specs.ResultEdges.{holds_at, is_result_edge, result_edges}
use Rattle.geom.specs.RingParity.{spans, side_above, ring_parity}
use Rattle.geom.specs.Rounded.{edges_of, is_odd}
use Rattle.geom.proofs.Edges.{not_turned, one_run}
use Rattle.geom.proofs.Integers.{linear, expand, mul_nonneg}
use Rattle.geom.proofs.Lists.{In, Distinct, contains_in, in_contains}
use Rattle.geom.proofs.Orders.{directed_before_itself}
use Rattle.geom.proofs.ListOrder.{pairs_tail}
use Rattle.points_law.specs.Law.{AreLayers}
use Rattle.points_law.proofs.Choices.{◌⊕◌, ◌∧∧◌, par, is}
use Rattle.points_law.proofs.Sums.{par_cong, par_same, par_xor, par_and, fubini, and_comm}
use Rattle.points_law.proofs.Even.{both_ways, same, same_is, same_refl, is_same, is_refl, and_left, and_right, by_test, not_true, clash, once}
use Rattle.points_law.proofs.Counts.{par_filter}
use Rattle.points_law.proofs.Layers.{either, odd_is, first_pairs, distinct, result_has_parity}
use Rattle.points_law.proofs.RoundVertex.{closes}
use Rattle.points_law.proofs.Truth.{only_first, only_second}

-- ---- a side lies above a point exactly where the edge that it runs along does
no_turn : (n p q x : ℤ) → pos 0 <ℤ n → p ≤ℤ q → int_le (n *ℤ q) x && int_lt x (n *ℤ p) ≡ false
no_turn n p q x h k = empty (n *ℤ p) (n *ℤ q) x (wider (mul_nonneg n (q -ℤ p) (omega (arith, ints)) (omega (arith, ints))))
  where
    wider : pos 0 ≤ℤ (n *ℤ (q -ℤ p)) → (n *ℤ p) ≤ℤ (n *ℤ q)
    wider m = omega (arith, linear, simp expand at m)

    empty : (a b x : ℤ) → a ≤ℤ b → int_le b x && int_lt x a ≡ false
    empty a b x h = grind (arith, ints)

first_way : (a b c : Bool) → b ≡ false → a || (b && c) ≡ a
first_way a b c h = grind arith

second_way : (a b c : Bool) → b ≡ false → (b && c) || a ≡ a
second_way a b c h = grind arith

-- e lies above z
abbrev over : Point → Edge → Bool
over z e = covers e z && lies_above e z

side_over : (z : Point) (d : DirectedEdge) (e : Edge) → RunsAlong d e → side_above d z ≡ over z e
side_over z d e (inl h) = ap (λ (x : DirectedEdge). side_above x z) h ∙ first_way (over z e) (spans e.q e.p z) _ (no_turn z.n e.p.x e.q.x z.x z.positive e.ordered.column)
side_over z d e (inr h) = ap (λ (x : DirectedEdge). side_above x z) h ∙ second_way (over z e) (spans e.q e.p z) _ (no_turn z.n e.p.x e.q.x z.x z.positive e.ordered.column)

-- ---- whether a side is that from u to v
abbrev pub goes : Pt → Pt → DirectedEdge → Bool
goes u v d = is d.from u ∧∧ is d.to v

pub goes_is : (u v : Pt) (d : DirectedEdge) → goes u v d ≡ true → d ≡ from_to u v
goes_is u v d h = let k = is_same d.from u (and_left (is d.from u) (is d.to v) h) in let l = is_same d.to v (and_right (is d.from u) (is d.to v) h) in λ i. record { from = k i; to = l i }

goes_itself : (u v : Pt) → goes u v (from_to u v) ≡ true
goes_itself u v = ap (λ (t : Bool). t ∧∧ is v v) (is_refl u) ∙ is_refl v

pub goes_of : (u v : Pt) (d : DirectedEdge) → d ≡ from_to u v → goes u v d ≡ true
goes_of u v d h = ap (goes u v) h ∙ goes_itself u v

-- whether it runs along e
abbrev runs : DirectedEdge → Edge → Bool
runs d e = goes e.p e.q d ⊕ goes e.q e.p d

one_of : (a b : Bool) → a ⊕ b ≡ true → (a ≡ true) ⊎ (b ≡ true)
one_of true b h = inl refl
one_of false b h = inr h

pub turned_apart : (e f : Edge) → ¬ (from_to e.p e.q ≡ from_to f.q f.p)
turned_apart e f h = not_turned e f (ap (λ (d : DirectedEdge). d.from) h) (ap (λ (d : DirectedEdge). d.to) h)

runs_of : (d : DirectedEdge) (e : Edge) → RunsAlong d e → runs d e ≡ true
runs_of d e (inl h) = only_first (goes e.p e.q d) (goes e.q e.p d) (goes_of e.p e.q d h) (not_true (goes e.q e.p d) (λ k. turned_apart e e (sym h ∙ goes_is e.q e.p d k)))
runs_of d e (inr h) = only_second (goes e.p e.q d) (goes e.q e.p d) (not_true (goes e.p e.q d) (λ k. turned_apart e e (sym (goes_is e.p e.q d k) ∙ h))) (goes_of e.q e.p d h)

runs_is : (d : DirectedEdge) (e : Edge) → runs d e ≡ true → RunsAlong d e
runs_is d e h = ⊎_elim (λ k. inl (goes_is e.p e.q d k)) (λ k. inr (goes_is e.q e.p d k)) (one_of (goes e.p e.q d) (goes e.q e.p d) h)

runs_same : (d : DirectedEdge) (e f : Edge) → RunsAlong d f → runs d e ≡ same e f
runs_same d e f h = both_ways (runs d e) (same e f)
    (λ k. subst (λ (x : Edge). same x f ≡ true) (sym (one_run d e f (runs_is d e k) h)) (same_refl f))
    (λ k. runs_of d e (subst (λ (x : Edge). RunsAlong d x) (sym (same_is e f k)) h))

-- ---- a side is there once, where it is there
pub each_once : (ds : List DirectedEdge) → AllPairs IsDirectedBefore ds → Distinct ds
each_once [] p = tt
each_once (d ∷ ds) p = (λ i. directed_before_itself d (first_pairs IsDirectedBefore d d ds p (in_contains ds d i)), each_once ds (pairs_tail IsDirectedBefore d ds p))

elsewhere : (a b c : Bool) → a ≡ false → b ≡ c → a ⊕ b ≡ c
elsewhere a b c h k = grind arith

none_goes : (u v : Pt) (ds : List DirectedEdge) → ¬ (In (from_to u v) ds) → par (goes u v) ds ≡ false
none_goes u v [] n = refl
none_goes u v (d ∷ ds) n = elsewhere (goes u v d) (par (goes u v) ds) false (not_true (goes u v d) (λ h. n (inl (goes_is u v d h)))) (none_goes u v ds (λ i. n (inr i)))

one_goes : (u v : Pt) (ds : List DirectedEdge) → Distinct ds → In (from_to u v) ds → par (goes u v) ds ≡ true
one_goes u v [] d i = absurd i
one_goes u v (x ∷ ds) d (inl e) = only_first (goes u v x) (par (goes u v) ds) (goes_of u v x e) (none_goes u v ds (subst (λ (y : DirectedEdge). ¬ (In y ds)) e d.0))
one_goes u v (x ∷ ds) d (inr i) = only_second (goes u v x) (par (goes u v) ds) (not_true (goes u v x) (λ h. d.0 (subst (λ (y : DirectedEdge). In y ds) (sym (goes_is u v x h)) i))) (one_goes u v ds d.1 i)

module _ (op : Op) (cs : List Counted) (h : AreLayers cs) (directed : List DirectedEdge) (R : AreResultEdges op cs directed) where
  -- ---- of the sides an odd number, one, runs along an edge of the result, and none along any other edge
  there : (u v : Pt) (e : Edge) → Contains (edges_of cs) e → RunsAlong (from_to u v) e → is_result_edge op cs u v ≡ true → Contains directed (from_to u v)
  there u v e i k t = (R.exact (from_to u v)).1 (record { edge = e; rounded = i; runs = k; bounds = t })

  goes_there : (u v : Pt) (e : Edge) → Contains (edges_of cs) e → RunsAlong (from_to u v) e → par (goes u v) directed ≡ is_result_edge op cs u v
  goes_there u v e i k = by_test (is_result_edge op cs u v) (par (goes u v) directed ≡ is_result_edge op cs u v)
      (λ t. one_goes u v directed (each_once directed R.ascending) (contains_in directed (from_to u v) (there u v e i k t)) ∙ sym t)
      (λ f. none_goes u v directed (λ j. clash (is_result_edge op cs u v) f ((R.exact (from_to u v)).0 (in_contains directed (from_to u v) j)).bounds) ∙ sym f)

  abbrev taken : Edge → Bool
  taken e = is_result_edge op cs e.p e.q || is_result_edge op cs e.q e.p

  runs_there : (e : Edge) → In e (edges_of cs) → par (λ d. runs d e) directed ≡ taken e
  runs_there e i =
      let c = in_contains (edges_of cs) e i in
      sym (par_xor (goes e.p e.q) (goes e.q e.p) directed)
      ∙ ap (λ (t : Bool). t ⊕ par (goes e.q e.p) directed) (goes_there e.p e.q e c (inl refl))
      ∙ ap (λ (t : Bool). is_result_edge op cs e.p e.q ⊕ t) (goes_there e.q e.p e c (inr refl))
      ∙ sym (either (is_result_edge op cs e.p e.q) (is_result_edge op cs e.q e.p)
      (λ s t. (closes op cs h directed R).are_directed.one_way e.p e.q (there e.p e.q e c (inl refl) s) (there e.q e.p e c (inr refl) t)))

  -- ---- so the sides above z are as many, modulo 2, as the edges of the result above z
  by_edge : (z : Point) (d : DirectedEdge) → In d directed → side_above d z ≡ par (λ e. runs d e ∧∧ over z e) (edges_of cs)
  by_edge z d i =
      let b = (R.exact d).0 (in_contains directed d i) in
      side_over z d b.edge b.runs
      ∙ sym (par_same (λ e. runs d e ∧∧ over z e) (λ e. same e b.edge ∧∧ over z e) (edges_of cs) (λ e. ap (λ (t : Bool). t ∧∧ over z e) (runs_same d e b.edge b.runs))
      ∙ once (edges_of cs) (distinct cs h.ascending) (over z) b.edge (contains_in (edges_of cs) b.edge b.rounded))

  by_side : (z : Point) (e : Edge) → In e (edges_of cs) → par (λ d. runs d e ∧∧ over z e) directed ≡ taken e ∧∧ over z e
  by_side z e i =
      par_same (λ d. runs d e ∧∧ over z e) (λ d. over z e ∧∧ runs d e) directed (λ d. and_comm (runs d e) (over z e))
      ∙ sym (par_and (over z e) (λ d. runs d e) directed)
      ∙ and_comm (over z e) (par (λ d. runs d e) directed)
      ∙ ap (λ (t : Bool). t ∧∧ over z e) (runs_there e i)

  sides_above : (z : Point) → par (λ d. side_above d z) directed ≡ parity (result_edges op cs) z
  sides_above z =
      par_cong (λ d. side_above d z) (λ d. par (λ e. runs d e ∧∧ over z e) (edges_of cs)) directed (by_edge z)
      ∙ fubini (λ d e. runs d e ∧∧ over z e) directed (edges_of cs)
      ∙ par_cong (λ e. par (λ d. runs d e ∧∧ over z e) directed) (λ e. taken e ∧∧ over z e) (edges_of cs) (by_side z)
      ∙ sym (par_filter taken (over z) (edges_of cs))
      ∙ sym (odd_is (over z) (result_edges op cs))

  pub text_has_parity : (polygons : List Shape) → HaveEachEdge directed polygons → (z : Point) → ring_parity (written_rings polygons) z ≡ holds_at op cs z
  text_has_parity polygons each z = ap is_odd (each (λ d. side_above d z)) ∙ odd_is (λ d. side_above d z) directed ∙ sides_above z ∙ result_has_parity op cs h z
