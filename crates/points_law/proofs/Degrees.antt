-- Where the segments of a layer close, every point is an end of an even number of its rounded edges of odd count.
use Rattle.std.proofs.Common.{◌≡◌, ◌⊎◌, inl, inr, ℕ, suc, ◌+◌, ◌-◌, ◌<◌, List, [], ◌∷◌, ◌++◌, map, Bool, true, false, cond, refl, sym, ap, ◌∙◌, arith, length, get_or, subst}
use Rattle.std.specs.List.{Contains, count_by, filter}
use Rattle.std.specs.Prelude.{◌&&◌, ◌||◌}
use Rattle.geom.specs.declared.point.Pt.{Pt}
use Rattle.geom.specs.declared.segment.Source.{Source}
use Rattle.geom.specs.declared.segment.Source.TheVariants.{A, B}
use Rattle.geom.specs.declared.segment.Seg.{Seg}
use Rattle.geom.specs.declared.edge.Edge.{Edge}
use Rattle.geom.specs.declared.edge.Counted.{Counted}
use Rattle.geom.specs.Segments.{same_point, neighbours}
use Rattle.geom.specs.Route.{IsRoute, AreRoutes}
use Rattle.geom.specs.Route.AreRoutes.{none, next}
use Rattle.geom.specs.Rounded.{AreRounded, joins, route_steps, count, is_odd, odd_edges, degree, HasEvenDegrees}
use Rattle.geom.specs.Segments.{same_source}
use Rattle.geom.specs.Segments.{AreClosed}
use Rattle.geom.proofs.Edges.{edge_path, not_turned, joining}
use Rattle.geom.proofs.Points.{both_and, same_point_of}
use Rattle.geom.proofs.Steps.{joined, step_of, step_apart}
use Rattle.geom.proofs.Lists.{In, contains_in, in_contains, map_in, counts_some}
use Rattle.geom.proofs.RouteLaws.{route_starts, route_ends}
use Rattle.points_law.proofs.Choices.{◌⊕◌, ◌∧∧◌, par, is}
use Rattle.points_law.proofs.Sums.{par_cong, par_same, par_xor, par_and, fubini, and_comm, and_dist, xor_self}
use Rattle.points_law.proofs.Even.{both_ways, same, same_is, same_refl, once}
use Rattle.points_law.proofs.Counts.{par_filter}
use Rattle.points_law.proofs.Layers.{odd_is, degree_is, par_map, distinct, and_is, same_point_is}

-- the ends of a step that are v, modulo 2
abbrev pub at_step : Pt → Pt × Pt → Bool
at_step v step = is v step.0 ⊕ is v step.1

-- ---- along a list of points the steps cancel, but for its ends
last : Pt → List Pt → Pt
last a [] = a
last a (b ∷ ps) = last b ps

cancels : (x y z : Bool) → (x ⊕ y) ⊕ (y ⊕ z) ≡ x ⊕ z
cancels x y z = grind arith

along : (v a : Pt) (ps : List Pt) → par (at_step v) (neighbours (a ∷ ps)) ≡ is v a ⊕ is v (last a ps)
unfolding last
along v a [] = none_left (is v a)
  where
    none_left : (x : Bool) → false ≡ x ⊕ x
    none_left x = grind arith
along v a (b ∷ ps) = ap (λ (t : Bool). (is v a ⊕ is v b) ⊕ t) (along v b ps) ∙ cancels (is v a) (is v b) (is v (last b ps))

last_is : (a d : Pt) (ps : List Pt) → get_or (a ∷ ps) (length (a ∷ ps) - 1) d ≡ last a ps
unfolding last
last_is a d [] = refl
last_is a d (b ∷ ps) =
    ap (λ (k : ℕ). get_or (a ∷ b ∷ ps) k d) (one_less (length ps)) ∙ ap (λ (k : ℕ). get_or (b ∷ ps) k d) (next_less (length ps)) ∙ last_is b d ps
  where
    one_less : (n : ℕ) → suc (suc n) - 1 ≡ suc n
    one_less n = omega arith

    next_less : (n : ℕ) → n ≡ suc n - 1
    next_less n = omega arith

pub route_ends_cancel : (segments : List Seg) (s : Seg) (r : List Pt) (v : Pt) → Contains segments s → IsRoute segments s r → par (at_step v) (neighbours r) ≡ is v s.a ⊕ is v s.b
route_ends_cancel segments s [] v i h = absurd (omega (arith, (route_starts segments s [] i h).0))
route_ends_cancel segments s (a ∷ ps) v i h =
    let e : a ≡ s.a = (route_starts segments s (a ∷ ps) i h).1 in
    let f : last a ps ≡ s.b = sym (last_is a s.b ps) ∙ route_ends segments s (a ∷ ps) i h in
    along v a ps ∙ ap (λ (w : Pt). is v w ⊕ is v (last a ps)) e ∙ ap (λ (w : Pt). is v s.a ⊕ is v w) f

-- ---- over all routes of a layer
pub par-append : {X : Type 0} (p : X → Bool) (xs ys : List X) → par p (xs ++ ys) ≡ par p xs ⊕ par p ys
par-append p [] ys = refl
par-append p (x ∷ xs) ys = ap (λ (t : Bool). p x ⊕ t) (par-append p xs ys) ∙ assoc (p x) (par p xs) (par p ys)
  where
    assoc : (a b c : Bool) → a ⊕ (b ⊕ c) ≡ (a ⊕ b) ⊕ c
    assoc a b c = grind arith

pub par-if : {X : Type 0} (p : X → Bool) (t : Bool) (xs : List X) → par p (cond t xs []) ≡ t ∧∧ par p xs
par-if p true xs = refl
par-if p false xs = refl

over_routes : (segments : List Seg) (layer : Source) (v : Pt) {ss : List Seg} {routes : List (List Pt)} → ((s : Seg) → In s ss → Contains segments s) → AreRoutes segments ss routes
    → par (at_step v) (route_steps layer ss routes) ≡ par (λ s. same_source s.layer layer ∧∧ (is v s.a ⊕ is v s.b)) ss
over_routes segments layer v known none = refl
over_routes segments layer v known (next {s} {route} {ss} {routes} r rs) =
    par-append (at_step v) (cond (same_source s.layer layer) (neighbours route) []) (route_steps layer ss routes)
    ∙ ap (λ (t : Bool). t ⊕ par (at_step v) (route_steps layer ss routes)) (par-if (at_step v) (same_source s.layer layer) (neighbours route) ∙ ap (λ (t : Bool). same_source s.layer layer ∧∧ t) (route_ends_cancel segments s route v (known s (inl refl)) r))
    ∙ ap (λ (t : Bool). (same_source s.layer layer ∧∧ (is v s.a ⊕ is v s.b)) ⊕ t) (over_routes segments layer v (λ u i. known u (inr i)) rs)

-- ---- one edge for each step
-- the ends of e that are v, modulo 2
abbrev pub at_edge : Pt → Edge → Bool
at_edge v e = is v e.p ⊕ is v e.q

either_true : (a b : Bool) → (a ≡ true) ⊎ (b ≡ true) → a || b ≡ true
either_true a b (inl h) = grind arith
either_true a b (inr h) = grind arith

pub joins_its : (e : Edge) (step : Pt × Pt) → ((e.p ≡ step.0) × (e.q ≡ step.1)) ⊎ ((e.p ≡ step.1) × (e.q ≡ step.0)) → joins e step ≡ true
joins_its e step (inl (h, k)) = either_true _ _ (inl (both_and _ _ (same_point_of e.p step.0 h) (same_point_of e.q step.1 k)))
joins_its e step (inr (h, k)) = either_true _ _ (inr (both_and _ _ (same_point_of e.p step.1 h) (same_point_of e.q step.0 k)))

-- what joins a step is the edge of its ends
one_joins : (e f : Edge) (step : Pt × Pt) → ((e.p ≡ step.0) × (e.q ≡ step.1)) ⊎ ((e.p ≡ step.1) × (e.q ≡ step.0)) → ((step.0 ≡ f.p) × (step.1 ≡ f.q)) ⊎ ((step.0 ≡ f.q) × (step.1 ≡ f.p)) → e ≡ f
one_joins e f step (inl (h, k)) (inl (p, q)) = edge_path e f (h ∙ p) (k ∙ q)
one_joins e f step (inl (h, k)) (inr (p, q)) = absurd (not_turned e f (h ∙ p) (k ∙ q))
one_joins e f step (inr (h, k)) (inl (p, q)) = absurd (not_turned e f (h ∙ q) (k ∙ p))
one_joins e f step (inr (h, k)) (inr (p, q)) = edge_path e f (h ∙ q) (k ∙ p)

pub joins_is : (e f : Edge) (step : Pt × Pt) → ((e.p ≡ step.0) × (e.q ≡ step.1)) ⊎ ((e.p ≡ step.1) × (e.q ≡ step.0)) → joins f step ≡ same f e
joins_is e f step h = both_ways (joins f step) (same f e)
    (λ j. subst (λ (g : Edge). same g e ≡ true) (one_joins e f step h (joined f step j)) (same_refl e))
    (λ j. subst (λ (g : Edge). joins g step ≡ true) (sym (same_is f e j)) (joins_its e step h))

pub at_ends : (v : Pt) (e : Edge) (step : Pt × Pt) → ((e.p ≡ step.0) × (e.q ≡ step.1)) ⊎ ((e.p ≡ step.1) × (e.q ≡ step.0)) → at_edge v e ≡ at_step v step
at_ends v e step (inl (h, k)) = ap (λ (w : Pt). is v w ⊕ is v e.q) h ∙ ap (λ (w : Pt). is v step.0 ⊕ is v w) k
at_ends v e step (inr (h, k)) = ap (λ (w : Pt). is v w ⊕ is v e.q) h ∙ ap (λ (w : Pt). is v step.1 ⊕ is v w) k ∙ swapped (is v step.1) (is v step.0)
  where
    swapped : (a b : Bool) → a ⊕ b ≡ b ⊕ a
    swapped a b = grind arith

-- ---- the law, for one layer
abbrev count_of : Source → Counted → ℕ
count_of A c = c.in_a
count_of B c = c.in_b

odd_list : (layer : Source) (counted : List Counted) → odd_edges layer counted ≡ map (λ c. c.edge) (filter (λ c. is_odd (count_of layer c)) counted)
odd_list A counted = refl
odd_list B counted = refl

abbrev pub closing : Source → Pt → Seg → Bool
closing layer v s = same_source s.layer layer ∧∧ (is v s.a ⊕ is v s.b)

module _ (segments : List Seg) (counted : List Counted) (R : AreRounded segments counted) (layer : Source) (v : Pt) where
  steps : List (Pt × Pt)
  steps = route_steps layer segments R.routes

  edges : List Edge
  edges = map (λ (c : Counted). c.edge) counted

  count_is : (l : Source) (c : Counted) → In c counted → count l c.edge segments R.routes ≡ count_of l c
  count_is A c i = ((R.exact c).0 (in_contains counted c i)).0
  count_is B c i = ((R.exact c).0 (in_contains counted c i)).1

  some_count : (l : Source) (e : Edge) → 0 < count l e segments R.routes → 0 < count A e segments R.routes + count B e segments R.routes
  some_count A e h = omega arith
  some_count B e h = omega arith

  edge_there : (step : Pt × Pt) → In step steps → (e : Edge) → joins e step ≡ true → In e edges
  unfolding steps edges
  edge_there step i e j =
      let n = some_count layer e (counts_some (joins e) (route_steps layer segments R.routes) step i j) in
      let k = (R.exact (record { edge = e; in_a = count A e segments R.routes; in_b = count B e segments R.routes })).1 (refl, refl, n) in
      map_in (λ (c : Counted). c.edge) counted (record { edge = e; in_a = count A e segments R.routes; in_b = count B e segments R.routes }) (contains_in counted _ k)

  turn_ends : (step : Pt × Pt) (e : Edge) → ((e.p ≡ step.0) × (e.q ≡ step.1)) ⊎ ((e.p ≡ step.1) × (e.q ≡ step.0)) → In step steps → par (λ f. at_edge v f ∧∧ joins f step) edges ≡ at_step v step
  unfolding edges
  turn_ends step e h i =
      par_same (λ f. at_edge v f ∧∧ joins f step) (λ f. same f e ∧∧ at_edge v f) edges (λ f. and_comm (at_edge v f) (joins f step) ∙ ap (λ (t : Bool). t ∧∧ at_edge v f) (joins_is e f step h))
      ∙ once edges (distinct counted R.ascending) (at_edge v) e (edge_there step i e (joins_its e step h))
      ∙ at_ends v e step h

  one_step : (step : Pt × Pt) → In step steps → par (λ c. at_edge v c.edge ∧∧ joins c.edge step) counted ≡ at_step v step
  unfolding steps edges
  one_step step i =
      let j = joining step.0 step.1 (step_apart segments segments step (step_of segments layer R.are_routes step i)) in
      sym (par_map (λ (c : Counted). c.edge) (λ f. at_edge v f ∧∧ joins f step) counted) ∙ turn_ends step j.edge j.ends i

  each_edge : (c : Counted) → In c counted → is_odd (count_of layer c) ∧∧ at_edge v c.edge ≡ par (λ step. at_edge v c.edge ∧∧ joins c.edge step) steps
  unfolding steps
  each_edge c i =
      ap (λ (n : ℕ). is_odd n ∧∧ at_edge v c.edge) (sym (count_is layer c i))
      ∙ ap (λ (t : Bool). t ∧∧ at_edge v c.edge) (odd_is (joins c.edge) (route_steps layer segments R.routes))
      ∙ and_comm (par (joins c.edge) (route_steps layer segments R.routes)) (at_edge v c.edge)
      ∙ par_and (at_edge v c.edge) (joins c.edge) (route_steps layer segments R.routes)

  -- the odd edges at v are as many, modulo 2, as the ends of the layer's segments there
  pub odd_degree : is_odd (degree (odd_edges layer counted) v) ≡ par (closing layer v) segments
  unfolding steps
  odd_degree =
      degree_is (odd_edges layer counted) v
      ∙ ap (par (at_edge v)) (odd_list layer counted)
      ∙ par_map (λ (c : Counted). c.edge) (at_edge v) (filter (λ c. is_odd (count_of layer c)) counted)
      ∙ par_filter (λ c. is_odd (count_of layer c)) (λ c. at_edge v c.edge) counted
      ∙ par_cong (λ c. is_odd (count_of layer c) ∧∧ at_edge v c.edge) (λ c. par (λ step. at_edge v c.edge ∧∧ joins c.edge step) steps) counted each_edge
      ∙ fubini (λ c step. at_edge v c.edge ∧∧ joins c.edge step) counted steps
      ∙ par_cong (λ step. par (λ c. at_edge v c.edge ∧∧ joins c.edge step) counted) (at_step v) steps one_step
      ∙ over_routes segments layer v (λ s i. in_contains segments s i) R.are_routes

-- ---- closed segments
begun : (layer : Source) (v : Pt) (segments : List Seg) → par (λ s. same_source s.layer layer ∧∧ is v s.a) segments ≡ is_odd (count_by (λ s. same_source s.layer layer && same_point s.a v) segments)
begun layer v segments = sym (odd_is (λ s. same_source s.layer layer && same_point s.a v) segments
    ∙ par_same (λ s. same_source s.layer layer && same_point s.a v) (λ s. same_source s.layer layer ∧∧ is v s.a) segments
    (λ s. and_is (same_source s.layer layer) (same_point s.a v) ∙ ap (λ (t : Bool). same_source s.layer layer ∧∧ t) (same_point_is s.a v)))

ended : (layer : Source) (v : Pt) (segments : List Seg) → par (λ s. same_source s.layer layer ∧∧ is v s.b) segments ≡ is_odd (count_by (λ s. same_source s.layer layer && same_point s.b v) segments)
ended layer v segments = sym (odd_is (λ s. same_source s.layer layer && same_point s.b v) segments
    ∙ par_same (λ s. same_source s.layer layer && same_point s.b v) (λ s. same_source s.layer layer ∧∧ is v s.b) segments
    (λ s. and_is (same_source s.layer layer) (same_point s.b v) ∙ ap (λ (t : Bool). same_source s.layer layer ∧∧ t) (same_point_is s.b v)))

pub closed_even : (segments : List Seg) (counted : List Counted) → AreRounded segments counted → (layer : Source) → AreClosed layer segments → HasEvenDegrees (odd_edges layer counted)
closed_even segments counted R layer h v =
    odd_degree segments counted R layer v
    ∙ par_same (closing layer v) (λ s. (same_source s.layer layer ∧∧ is v s.a) ⊕ (same_source s.layer layer ∧∧ is v s.b)) segments (λ s. sym (and_dist (same_source s.layer layer) (is v s.a) (is v s.b)))
    ∙ sym (par_xor (λ s. same_source s.layer layer ∧∧ is v s.a) (λ s. same_source s.layer layer ∧∧ is v s.b) segments)
    ∙ ap (λ (t : Bool). t ⊕ par (λ s. same_source s.layer layer ∧∧ is v s.b) segments) (begun layer v segments ∙ ap is_odd (h v) ∙ sym (ended layer v segments))
    ∙ xor_self (par (λ s. same_source s.layer layer ∧∧ is v s.b) segments)
