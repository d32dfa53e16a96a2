-- The theorem for the lists of rounded edges: parities over lists of chosen edges as sums over all edges.
use Rattle.std.proofs.Common.{◌≡◌, inl, inr, suc, List, [], ◌∷◌, map, Bool, true, false, not, cond, refl, sym, ap, ◌∙◌, arith, subst, ⊎_elim}
use Rattle.std.specs.List.{Contains, AllPairs, count_by, filter}
use Rattle.std.specs.Ordering.{int_eq}
use Rattle.std.specs.Prelude.{◌&&◌, ◌||◌, int_lt}
use Rattle.std.proofs.Math.IntN.{ℤ, pos, ◌-ℤ◌, ◌*ℤ◌}
use Rattle.std.proofs.Math.Logic.{∥∥₁_elim}
use Rattle.std.proofs.Props.{props}
use Rattle.std.proofs.lemmas.Int.{ints}
use lib.Signed.{lt_z, le_z}
use Rattle.std.proofs.lemmas.List.Elements.{All-contains}
use Rattle.geom.specs.declared.point.Pt.{Pt}
use Rattle.geom.specs.declared.op.Op.{Op}
use Rattle.geom.specs.declared.op.Op.TheVariants.{Union, Intersection, Difference, SymDifference}
use Rattle.geom.specs.declared.segment.Source.TheVariants.{A, B}
use Rattle.geom.specs.declared.edge.Edge.{Edge}
use Rattle.geom.specs.declared.edge.Counted.{Counted}
use Rattle.geom.specs.Limit.{AreInLimit}
use Rattle.geom.specs.Order.{IsBefore}
use Rattle.geom.specs.Pixel.{Point, Coincides}
use Rattle.geom.specs.OnSegment.{IsOn}
use Rattle.geom.specs.Operations.{holds}
use Rattle.geom.specs.Segments.{same_point}
use Rattle.geom.specs.Rounded.{IsEdgeBefore, edges_of, odd_edges, is_odd, degree, HasEvenDegrees}
use Rattle.geom.specs.Parity as geom
use Rattle.geom.specs.Noded as noded
use Rattle.geom.specs.ResultEdges as result
use Rattle.geom.proofs.Edges.{before_cases, before_strict}
use Rattle.geom.proofs.Lists.{In, Distinct, in_contains, in_map, map_in}
use Rattle.geom.proofs.Points.{int_eq_true, int_eq_refl, same_point_true, same_point_refl}
use Rattle.geom.proofs.ListOrder.{pairs_tail}
use Rattle.points_law.specs.Law.{AreLayers}
use Rattle.points_law.proofs.Choices.{◌⊕◌, ◌∧∧◌, par, run, rise, Small, On, IsAt, IsEnd, Noded, Even, is, covers, counted, parity, left, right, holds_at, in_result}
use Rattle.points_law.proofs.ResultOfChoices.{Edges}
use Rattle.points_law.proofs.Sums.{par_cong, par_same}
use Rattle.points_law.proofs.Even.{both_ways, same, same_is, same_refl, is_same, is_refl, by_test, not_true, clash}
use Rattle.points_law.proofs.Counts.{par_is_odd, par_filter, left_back, right_back, holds_is}
use Rattle.points_law.proofs.Result.{result_parity}
use Rattle.points_law.proofs.Turn.{result_even}
use Rattle.points_law.proofs.Truth.{both_true, both_of, cond_no, cond_yes}

-- ---- tests
pub and_is : (a b : Bool) → a && b ≡ a ∧∧ b
and_is true b = refl
and_is false b = refl

pub either : (a b : Bool) → (a ≡ true → b ≡ true → ⊥) → a || b ≡ a ⊕ b
either true true n = absurd (n refl refl)
either true false n = refl
either false b n = refl

pub same_point_is : (u v : Pt) → same_point u v ≡ is v u
same_point_is u v = both_ways (same_point u v) (is v u)
    (λ h. subst (λ w. is v w ≡ true) (sym (same_point_true u v h)) (is_refl v))
    (λ h. subst (λ w. same_point u w ≡ true) (sym (is_same v u h)) (same_point_refl u))

ends_apart : (e : Edge) (v : Pt) → same_point e.p v ≡ true → same_point e.q v ≡ true → ⊥
ends_apart e v h k = let d : e.p ≡ e.q = same_point_true e.p v h ∙ sym (same_point_true e.q v k) in
    let o = subst (λ (w : Pt). IsBefore e.p w) (sym d) e.ordered in before_strict e.p e.p o o

above_is : (a b : ℤ) → int_lt (a -ℤ b) (pos 0) ≡ lt_z a b
above_is a b = grind (arith, ints)

counted_is : (e : Edge) (z : Point) → geom.covers e z && geom.lies_above e z ≡ counted e z
counted_is e z = and_is (geom.covers e z) (geom.lies_above e z)
    ∙ ap (λ (t : Bool). t ∧∧ geom.lies_above e z) (and_is (le_z (z.n *ℤ e.p.x) z.x) (lt_z z.x (z.n *ℤ e.q.x)))
    ∙ ap (λ (t : Bool). covers e z ∧∧ t) (above_is (run e *ℤ (z.y -ℤ (z.n *ℤ e.p.y))) (rise e *ℤ (z.x -ℤ (z.n *ℤ e.p.x))))

pub odd_is : {X : Type 0} (p : X → Bool) (xs : List X) → is_odd (count_by p xs) ≡ par p xs
odd_is p xs = sym (par_is_odd p xs)

pub parity_is : (edges : List Edge) (z : Point) → geom.parity edges z ≡ par (λ e. counted e z) edges
parity_is edges z = odd_is (λ e. geom.covers e z && geom.lies_above e z) edges ∙ par_same (λ e. geom.covers e z && geom.lies_above e z) (λ e. counted e z) edges (λ e. counted_is e z)

end_test : (v : Pt) (e : Edge) → same_point e.p v || same_point e.q v ≡ is v e.p ⊕ is v e.q
end_test v e = either (same_point e.p v) (same_point e.q v) (ends_apart e v)
    ∙ ap (λ (t : Bool). t ⊕ same_point e.q v) (same_point_is e.p v) ∙ ap (λ (t : Bool). is v e.p ⊕ t) (same_point_is e.q v)

pub degree_is : (edges : List Edge) (v : Pt) → is_odd (degree edges v) ≡ par (λ e. is v e.p ⊕ is v e.q) edges
degree_is edges v = odd_is (λ e. same_point e.p v || same_point e.q v) edges ∙ par_same (λ e. same_point e.p v || same_point e.q v) (λ e. is v e.p ⊕ is v e.q) edges (end_test v)

-- ---- lists of chosen edges
pub par_map : {X Y : Type 0} (f : X → Y) (p : Y → Bool) (xs : List X) → par p (map f xs) ≡ par (λ x. p (f x)) xs
par_map f p [] = refl
par_map f p (x ∷ xs) = ap (λ (t : Bool). p (f x) ⊕ t) (par_map f p xs)

abbrev pub edge_of : Counted → Edge
edge_of c = c.edge

-- whether the first of the counted edges that is e passes
pub chosen : (Counted → Bool) → List Counted → Edge → Bool
chosen t [] e = false
chosen t (c ∷ cs) e = cond (same (edge_of c) e) (t c) (chosen t cs e)

pub chosen_at : (t : Counted → Bool) (cs : List Counted) → Distinct (map edge_of cs) → (c : Counted) → In c cs → chosen t cs (edge_of c) ≡ t c
unfolding chosen
chosen_at t [] d c i = absurd i
chosen_at t (b ∷ bs) d c (inl e) = cond_yes (same (edge_of b) (edge_of c)) (t b) (chosen t bs (edge_of c)) (subst (λ (x : Counted). same (edge_of b) (edge_of x) ≡ true) e (same_refl (edge_of b))) ∙ ap t e
chosen_at t (b ∷ bs) d c (inr i) =
    cond_no (same (edge_of b) (edge_of c)) (t b) (chosen t bs (edge_of c))
    (not_true (same (edge_of b) (edge_of c)) (λ h. d.0 (subst (λ (x : Edge). In x (map edge_of bs)) (sym (same_is (edge_of b) (edge_of c) h)) (map_in edge_of bs c i))))
    ∙ chosen_at t bs d.1 c i

-- a sum over the list of the chosen is one over all edges
pub over_all : (t : Counted → Bool) (cs : List Counted) → Distinct (map edge_of cs) → (p : Edge → Bool) → par p (map edge_of (filter t cs)) ≡ par (λ e. chosen t cs e ∧∧ p e) (map edge_of cs)
over_all t cs d p =
    par_map edge_of p (filter t cs)
    ∙ par_filter t (λ c. p (edge_of c)) cs
    ∙ sym (par_cong (λ c. chosen t cs (edge_of c) ∧∧ p (edge_of c)) (λ c. t c ∧∧ p (edge_of c)) cs (λ c i. ap (λ (b : Bool). b ∧∧ p (edge_of c)) (chosen_at t cs d c i)))
    ∙ sym (par_map edge_of (λ e. chosen t cs e ∧∧ p e) cs)

-- ---- what is asked of the edges

pub first_pairs : {X : Type 0} (R : X → X → Type 0) (x y : X) (xs : List X) → AllPairs R (x ∷ xs) → Contains xs y → R x y
first_pairs R x y xs p (k, l, e) = subst (λ z. R x z) e (p 0 (suc k) y (omega arith) (omega arith))

before_itself : (e f : Edge) → e ≡ f → IsEdgeBefore e f → ⊥
before_itself e f h b = strict (subst (λ (g : Edge). IsEdgeBefore g f) h b)
  where
    strict : IsEdgeBefore f f → ⊥
    strict (inl k) = before_strict f.p f.p k k
    strict (inr k) = before_strict f.q f.q k.1 k.1

pub distinct : (cs : List Counted) → AllPairs (λ c d. IsEdgeBefore (edge_of c) (edge_of d)) cs → Distinct (map edge_of cs)
distinct [] p = tt
distinct (c ∷ cs) p = (
  (λ i. let m = in_map edge_of cs (edge_of c) i in before_itself (edge_of c) (edge_of m.0) (sym m.2) (first_pairs (λ c d. IsEdgeBefore (edge_of c) (edge_of d)) c m.0 cs p (in_contains cs m.0 m.1))),
  distinct cs (pairs_tail (λ c d. IsEdgeBefore (edge_of c) (edge_of d)) c cs p),
)

small : (e : Edge) → AreInLimit e.p e.q → Small e
small e h = record { run_low = omega (arith, ints); run_high = omega (arith, ints); rise_low = omega (arith, ints); rise_high = omega (arith, ints) }

Coincides-prop : (v : Pt) (z : Point) → IsProp (Coincides v z)
Coincides-prop v z = hlevel props

at_test : Pt → Point → Bool
at_test v z = int_eq z.x (z.n *ℤ v.x) ∧∧ int_eq z.y (z.n *ℤ v.y)

test_of : (v : Pt) (z : Point) → Coincides v z → at_test v z ≡ true
unfolding at_test
test_of v z h = both_true (int_eq z.x (z.n *ℤ v.x)) (int_eq z.y (z.n *ℤ v.y))
    (subst (λ (t : ℤ). int_eq z.x t ≡ true) h.x_is (int_eq_refl z.x)) (subst (λ (t : ℤ). int_eq z.y t ≡ true) h.y_is (int_eq_refl z.y))

at_of : (v : Pt) (z : Point) → at_test v z ≡ true → IsAt v z
unfolding at_test
at_of v z h = let k = both_of (int_eq z.x (z.n *ℤ v.x)) (int_eq z.y (z.n *ℤ v.y)) h in (int_eq_true z.x (z.n *ℤ v.x) k.0, int_eq_true z.y (z.n *ℤ v.y) k.1)

-- which end it is can be found out
which_end : (e : Edge) (z : Point) → noded.IsEnd e z → IsEnd e z
which_end e z h = by_test (at_test e.p z) (IsEnd e z) (λ t. inl (at_of e.p z t))
    (λ f. let c : Coincides e.q z = ∥∥₁_elim h (Coincides-prop e.q z) (⊎_elim (λ p. clash (at_test e.p z) f (test_of e.p z p)) (λ q. q)) in inr (c.x_is, c.y_is))

on_edge : (e : Edge) (z : Point) → On e z → IsOn e.p e.q z
on_edge e z o = (o.m, o.n, record { ratio = record { positive = o.n_positive; from = o.m_low; to = o.m_high }; x_is = o.at_x; y_is = o.at_y })

noded_in : (edges : List Edge) → noded.IsNoded edges → Noded edges
noded_in edges h e f i j d z o o' = let k = h e f (in_contains edges e i) (in_contains edges f j) d z (on_edge e z o) (on_edge f z o') in (which_end e z k.0, which_end f z k.1)

pub edges_in : (cs : List Counted) → AreLayers cs → Edges (edges_of cs)
edges_in cs h = record {
  distinct = distinct cs h.ascending;
  ordered = λ e i. before_cases e.p e.q e.ordered;
  small = λ e i. small e (All-contains (λ (f : Edge). AreInLimit f.p f.q) (edges_of cs) e h.in_limit (in_contains (edges_of cs) e i));
  noded = noded_in (edges_of cs) h.noded;
}

pub even_in : (t : Counted → Bool) (cs : List Counted) → Distinct (map edge_of cs) → HasEvenDegrees (map edge_of (filter t cs)) → Even (chosen t cs) (map edge_of cs)
even_in t cs d h v = sym (over_all t cs d (λ e. is v e.p ⊕ is v e.q)) ∙ sym (degree_is (map edge_of (filter t cs)) v) ∙ h v

-- ---- the theorem
no_area : (op : Op) → holds op false false ≡ false
no_area Union = refl
no_area Intersection = refl
no_area Difference = refl
no_area SymDifference = refl

one_side : (l r : Bool) → (l && not r) || (r && not l) ≡ l ⊕ r
one_side true true = refl
one_side true false = refl
one_side false true = refl
one_side false false = refl

module _ (op : Op) (cs : List Counted) (h : AreLayers cs) where
  edges : List Edge
  edges = map edge_of cs

  in_a : Edge → Bool
  in_a = chosen (λ c. is_odd c.in_a) cs

  in_b : Edge → Bool
  in_b = chosen (λ c. is_odd c.in_b) cs

  apart : Distinct (map edge_of cs)
  apart = distinct cs h.ascending

  even_a : Even in_a edges
  unfolding edges in_a
  even_a = even_in (λ c. is_odd c.in_a) cs apart h.even_a

  even_b : Even in_b edges
  unfolding edges in_b
  even_b = even_in (λ c. is_odd c.in_b) cs apart h.even_b

  layer_a : (z : Point) → geom.parity (odd_edges A cs) z ≡ parity in_a edges z
  unfolding edges in_a
  layer_a z = parity_is (odd_edges A cs) z ∙ over_all (λ c. is_odd c.in_a) cs apart (λ e. counted e z)

  layer_b : (z : Point) → geom.parity (odd_edges B cs) z ≡ parity in_b edges z
  unfolding edges in_b
  layer_b z = parity_is (odd_edges B cs) z ∙ over_all (λ c. is_odd c.in_b) cs apart (λ e. counted e z)

  at_is : (z : Point) → result.holds_at op cs z ≡ holds_at (holds op) in_a in_b edges z
  at_is z = ap (λ (t : Bool). holds op t (geom.parity (odd_edges B cs) z)) (layer_a z) ∙ ap (λ (t : Bool). holds op (parity in_a edges z) t) (layer_b z)

  one_way : (u v : Pt) → result.is_result_edge op cs u v ≡ holds_at (holds op) in_a in_b edges (result.left_side u v) && not (holds_at (holds op) in_a in_b edges (result.right_side u v))
  one_way u v = ap (λ (t : Bool). t && not (result.holds_at op cs (result.right_side u v))) (at_is (result.left_side u v))
      ∙ ap (λ (t : Bool). holds_at (holds op) in_a in_b edges (result.left_side u v) && not t) (at_is (result.right_side u v))

  other_way : (u v : Pt) → result.is_result_edge op cs v u ≡ holds_at (holds op) in_a in_b edges (result.right_side u v) && not (holds_at (holds op) in_a in_b edges (result.left_side u v))
  other_way u v = one_way v u
      ∙ ap (λ (t : Bool). t && not (holds_at (holds op) in_a in_b edges (result.right_side v u))) (left_back (holds op) in_a in_b edges u v)
      ∙ ap (λ (t : Bool). holds_at (holds op) in_a in_b edges (result.right_side u v) && not t) (right_back (holds op) in_a in_b edges u v)

  test_is : (e : Edge) → result.is_result_edge op cs e.p e.q || result.is_result_edge op cs e.q e.p ≡ in_result (holds op) in_a in_b edges e
  test_is e = ap (λ (t : Bool). t || result.is_result_edge op cs e.q e.p) (one_way e.p e.q)
      ∙ ap (λ (t : Bool). (holds_at (holds op) in_a in_b edges (left e) && not (holds_at (holds op) in_a in_b edges (right e))) || t) (other_way e.p e.q)
      ∙ one_side (holds_at (holds op) in_a in_b edges (left e)) (holds_at (holds op) in_a in_b edges (right e))

  over_result : (p : Edge → Bool) → par p (result.result_edges op cs) ≡ par (λ e. in_result (holds op) in_a in_b edges e ∧∧ p e) edges
  unfolding edges
  over_result p = par_filter (λ e. result.is_result_edge op cs e.p e.q || result.is_result_edge op cs e.q e.p) p (edges_of cs)
      ∙ par_same (λ e. (result.is_result_edge op cs e.p e.q || result.is_result_edge op cs e.q e.p) ∧∧ p e) (λ e. in_result (holds op) in_a in_b (edges_of cs) e ∧∧ p e) (edges_of cs)
      (λ e. ap (λ (t : Bool). t ∧∧ p e) (test_is e))

  all_edges : Edges edges
  unfolding edges
  all_edges = edges_in cs h

  pub result_has_parity : (z : Point) → geom.parity (result.result_edges op cs) z ≡ result.holds_at op cs z
  result_has_parity z = parity_is (result.result_edges op cs) z ∙ over_result (λ e. counted e z)
      ∙ result_parity edges all_edges (holds op) (no_area op) in_a in_b even_a even_b z ∙ sym (at_is z)

  pub result_has_even_degrees : HasEvenDegrees (result.result_edges op cs)
  result_has_even_degrees v = degree_is (result.result_edges op cs) v ∙ over_result (λ e. is v e.p ⊕ is v e.q)
      ∙ result_even edges all_edges (holds op) in_a in_b even_a even_b v

  -- ---- what the laws round a vertex need: the result as a choice of edges
  pub in_result_of : Edge → Bool
  in_result_of e = in_result (holds op) in_a in_b edges e

  pub edges_of_layers : Edges (edges_of cs)
  edges_of_layers = edges_in cs h

  pub result_is_even : Even in_result_of (edges_of cs)
  unfolding edges in_result_of
  result_is_even v = result_even edges all_edges (holds op) in_a in_b even_a even_b v

  -- the operation holds at a point where the parity over the result is odd
  pub holds_where_odd : (z : Point) → result.holds_at op cs z ≡ parity in_result_of (edges_of cs) z
  unfolding edges in_result_of
  holds_where_odd z = at_is z ∙ holds_is edges all_edges (holds op) (no_area op) in_a in_b even_a even_b z
