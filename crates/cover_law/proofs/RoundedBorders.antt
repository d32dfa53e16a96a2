-- Rounded edges with the features whose border they are: one list, and of even degrees in each feature whose segments close.
use Rattle.std.proofs.Common.{◌≡◌, ◌⊎◌, inl, inr, ℕ, suc, ◌<◌, List, [], ◌∷◌, Bool, true, false, cond, refl, sym, ap, ◌∙◌, arith, subst, ⊎_elim, eq-eqb, eqb-true, ltb-true, lt-ltb, nat_lt}
use Rattle.std.specs.List.{All, Contains, count_by, filter}
use Rattle.std.specs.Prelude.{◌==◌, ◌||◌, flat_map}
use Rattle.std.proofs.lemmas.List.Elements.{All-contains}
use Rattle.geom.specs.declared.point.Pt.{Pt}
use Rattle.geom.specs.declared.segment.Seg.{Seg}
use Rattle.geom.specs.declared.edge.Edge.{Edge}
use Rattle.geom.specs.EdgeOrder.{IsEdgeBefore}
use Rattle.geom.specs.Limit.{AreInLimit, InLimit, coordinate_limit}
use Rattle.geom.specs.Noded.{IsNoded}
use Rattle.geom.specs.Route.{AreRoutes, IsRoute}
use Rattle.geom.specs.Route.AreRoutes.{none, next}
use Rattle.geom.specs.Rounded.{HasEvenDegrees, degree, is_odd, joins}
use Rattle.geom.specs.Segments.{neighbours, same_point}
use Rattle.geom.proofs.Along.{meets_box}
use Rattle.geom.proofs.Edges.{joining}
use Rattle.geom.proofs.Owners.{all_in}
use Rattle.geom.proofs.Pixels.{piece, meets_in}
use Rattle.geom.proofs.Steps.{StepOf, joined, next_of_neighbours, step_apart}
use Rattle.geom.proofs.Lists.{Distinct, In, contains_in, counts_some, in_append, in_back, in_contains, in_front, in_map, map_in, some_passes}
use Rattle.geom.proofs.ListOrder.{same_ascending}
use Rattle.geom.proofs.Orders.{edge_before_itself, edge_before_trans}
use Rattle.points_law.proofs.Choices.{◌⊕◌, ◌∧∧◌, par, is}
use Rattle.points_law.proofs.Sums.{and_comm, fubini, par_and, par_cong, par_none, par_same, par_xor, xor_self}
use Rattle.points_law.proofs.Degrees.{par-append, par-if, at_step, at_edge, at_ends, joins_is, joins_its, route_ends_cancel}
use Rattle.points_law.proofs.Even.{both_ways, by_test, clash, not_true, once, same}
use Rattle.points_law.proofs.Counts.{par_filter}
use Rattle.points_law.proofs.Layers.{degree_is, odd_is, par_map, same_point_is}
use Rattle.points_law.proofs.RoundedLayers.{between_within}
use Rattle.points_law.proofs.OneResult.{same_routes}
use Rattle.cover_law.specs.Cover.{AreBorders, Bordered, border, edge_in, edges_in, has, numbers_from}
use Rattle.cover_law.specs.Borders.{AreBordered, IsClosedFeature, feature_count, feature_steps, odd_features, own_segments}
use Rattle.cover_law.specs.Laws.{BordersAreOne, RoundedAreBorders}
use Rattle.cover_law.proofs.Covers.{filtered, in_numbers, numbers_in, passes}
use Rattle.cover_law.proofs.Projected.{distinct_in}

-- ---- one list
abbrev IsBordered : ℕ → List ℕ → Bordered → List (List Pt) → Type 0
IsBordered count owners b routes = (b.features ≡ odd_features count b.edge owners routes) × (0 < count_by (joins b.edge) (flat_map neighbours routes))

pub borders_are_one : BordersAreOne
borders_are_one count segments owners bs cs h k = same_ascending (λ (b c : Bordered). IsEdgeBefore b.edge c.edge) (λ b. edge_before_itself b.edge) (λ b c d. edge_before_trans b.edge c.edge d.edge) bs cs h.ascending k.ascending
    (λ b i. (k.exact b).1 (subst (IsBordered count owners b) routes ((h.exact b).0 i)))
    (λ b i. (h.exact b).1 (subst (IsBordered count owners b) (sym routes) ((k.exact b).0 i)))
  where
    routes : h.routes ≡ k.routes
    routes = same_routes h.are_routes k.are_routes refl

-- ---- whether a feature is among the odd ones
either_true : (a b : Bool) → (a ≡ true) ⊎ (b ≡ true) → a || b ≡ true
either_true a b (inl h) = grind arith
either_true a b (inr h) = grind arith

second_true : (a b : Bool) → a ≡ false → a || b ≡ true → b ≡ true
second_true a b h k = grind arith

pub in_has : (f : ℕ) (fs : List ℕ) → In f fs → has f fs ≡ true
in_has f [] i = absurd i
in_has f (g ∷ gs) (inl e) = either_true (f == g) (has f gs) (inl (eq-eqb f g (sym e)))
in_has f (g ∷ gs) (inr i) = either_true (f == g) (has f gs) (inr (in_has f gs i))

pub has_in : (f : ℕ) (fs : List ℕ) → has f fs ≡ true → In f fs
has_in f [] h = absurd (let k = h in cc)
has_in f (g ∷ gs) h = by_test (f == g) (In f (g ∷ gs)) (λ t. inl (sym (eqb-true f g t))) (λ n. inr (has_in f gs (second_true (f == g) (has f gs) n h)))

pub has_odd : (count f : ℕ) → f < count → (p : ℕ → Bool) → has f (filter p (numbers_from 0 count)) ≡ p f
has_odd count f l p = both_ways (has f (filter p (numbers_from 0 count))) (p f)
    (λ t. (filtered p (numbers_from 0 count) f (has_in f (filter p (numbers_from 0 count)) t)).1)
    (λ t. in_has f (filter p (numbers_from 0 count)) (passes p (numbers_from 0 count) f (numbers_in 0 count f (omega arith) (omega arith)) t))

has_none : (count f : ℕ) → ¬ (f < count) → (p : ℕ → Bool) → has f (filter p (numbers_from 0 count)) ≡ false
has_none count f n p = not_true (has f (filter p (numbers_from 0 count)))
    (λ t. let k = (in_numbers 0 count f (filtered p (numbers_from 0 count) f (has_in f (filter p (numbers_from 0 count)) t)).0).1 in n (omega arith))

below_or_not : (f n : ℕ) → (f < n) ⊎ (¬ (f < n))
below_or_not f n = by_test (nat_lt f n) ((f < n) ⊎ (¬ (f < n))) (λ t. inl (ltb-true f n t)) (λ k. inr (λ l. clash (nat_lt f n) k (lt-ltb f n l)))

-- ---- steps
in_if : (t : Bool) (xs : List (Pt × Pt)) (step : Pt × Pt) → In step (cond t xs []) → In step xs
in_if true xs step i = i
in_if false xs step i = absurd i

pub in_all_steps : (f : ℕ) (gs : List ℕ) (routes : List (List Pt)) (step : Pt × Pt) → In step (feature_steps f gs routes) → In step (flat_map neighbours routes)
in_all_steps f [] routes step i = absurd i
in_all_steps f (g ∷ gs) [] step i = absurd i
in_all_steps f (g ∷ gs) (route ∷ routes) step i = ⊎_elim
    (λ j. in_front (neighbours route) (flat_map neighbours routes) step (in_if (f == g) (neighbours route) step j))
    (λ j. in_back (neighbours route) (flat_map neighbours routes) step (in_all_steps f gs routes step j))
    (in_append (cond (f == g) (neighbours route) []) (feature_steps f gs routes) step i)

more_steps : (segments ss : List Seg) (s : Seg) (step : Pt × Pt) → StepOf segments ss step → StepOf segments (s ∷ ss) step
more_steps segments ss s step h = record { s = h.s; inside = inr h.inside; route = h.route; is_route = h.is_route; next = h.next }

pub step_of : (segments : List Seg) {ss : List Seg} {routes : List (List Pt)} → AreRoutes segments ss routes → (step : Pt × Pt) → In step (flat_map neighbours routes) → StepOf segments ss step
step_of segments none step i = absurd i
step_of segments (next {s} {route} {ss} {routes} r rs) step i = ⊎_elim
    (λ j. record { s = s; inside = inl refl; route = route; is_route = r; next = next_of_neighbours route step j })
    (λ j. more_steps segments ss s step (step_of segments rs step j))
    (in_append (neighbours route) (flat_map neighbours routes) step i)

-- the ends of a segment that are v, modulo 2
abbrev at_segment : Pt → Seg → Bool
at_segment v s = is v s.a ⊕ is v s.b

par_one : {X : Type 0} (p : X → Bool) (t : Bool) (x : X) → par p (cond t (x ∷ []) []) ≡ t ∧∧ p x
par_one p true x = alone (p x)
  where
    alone : (a : Bool) → a ⊕ false ≡ a
    alone a = grind arith
par_one p false x = refl

over_routes : (segments : List Seg) (f : ℕ) (v : Pt) {ss : List Seg} {routes : List (List Pt)} (gs : List ℕ) → ((s : Seg) → In s ss → Contains segments s) → AreRoutes segments ss routes
    → par (at_step v) (feature_steps f gs routes) ≡ par (at_segment v) (own_segments f ss gs)
over_routes segments f v [] known none = refl
over_routes segments f v (g ∷ gs) known none = refl
over_routes segments f v [] known (next {s} {route} {ss} {routes} r rs) = refl
over_routes segments f v (g ∷ gs) known (next {s} {route} {ss} {routes} r rs) =
    par-append (at_step v) (cond (f == g) (neighbours route) []) (feature_steps f gs routes)
    ∙ ap (λ (t : Bool). t ⊕ par (at_step v) (feature_steps f gs routes)) (par-if (at_step v) (f == g) (neighbours route) ∙ ap (λ (t : Bool). (f == g) ∧∧ t) (route_ends_cancel segments s route v (known s (inl refl)) r) ∙ sym (par_one (at_segment v) (f == g) s))
    ∙ ap (λ (t : Bool). par (at_segment v) (cond (f == g) (s ∷ []) []) ⊕ t) (over_routes segments f v gs (λ u i. known u (inr i)) rs)
    ∙ sym (par-append (at_segment v) (cond (f == g) (s ∷ []) []) (own_segments f ss gs))

-- ---- degrees
abbrev joined_at : Pt → Bordered → Pt × Pt → Bool
joined_at v b step = at_edge v b.edge ∧∧ joins b.edge step

module _ (count : ℕ) (segments : List Seg) (owners : List ℕ) (bs : List Bordered) (R : AreBordered count segments owners bs) where
  apart : Distinct (edges_in bs)
  apart = distinct_in bs R.ascending

  edge_there : (step : Pt × Pt) → In step (flat_map neighbours R.routes) → (e : Edge) → joins e step ≡ true → In e (edges_in bs)
  edge_there step i e j =
      let b : Bordered = record { edge = e; features = odd_features count e owners R.routes } in
      let k : Contains bs b = (R.exact b).1 (refl, counts_some (joins e) (flat_map neighbours R.routes) step i j) in
      map_in edge_in bs b (contains_in bs b k)

  turn_ends : (v : Pt) (step : Pt × Pt) (e : Edge) → ((e.p ≡ step.0) × (e.q ≡ step.1)) ⊎ ((e.p ≡ step.1) × (e.q ≡ step.0)) → In step (flat_map neighbours R.routes)
      → par (λ f. at_edge v f ∧∧ joins f step) (edges_in bs) ≡ at_step v step
  turn_ends v step e h i =
      par_same (λ f. at_edge v f ∧∧ joins f step) (λ f. same f e ∧∧ at_edge v f) (edges_in bs) (λ f. and_comm (at_edge v f) (joins f step) ∙ ap (λ (t : Bool). t ∧∧ at_edge v f) (joins_is e f step h))
      ∙ once (edges_in bs) apart (at_edge v) e (edge_there step i e (joins_its e step h))
      ∙ at_ends v e step h

  one_step : (v : Pt) (step : Pt × Pt) → In step (flat_map neighbours R.routes) → par (λ b. joined_at v b step) bs ≡ at_step v step
  one_step v step i =
      let j = joining step.0 step.1 (step_apart segments segments step (step_of segments R.are_routes step i)) in
      sym (par_map edge_in (λ f. at_edge v f ∧∧ joins f step) bs) ∙ turn_ends v step j.edge j.ends i

  module _ (f : ℕ) (l : f < count) (v : Pt) where
    steps : List (Pt × Pt)
    steps = feature_steps f owners R.routes

    each_edge : (b : Bordered) → In b bs → has f b.features ∧∧ at_edge v b.edge ≡ par (joined_at v b) steps
    unfolding steps
    each_edge b i =
        ap (λ (fs : List ℕ). has f fs ∧∧ at_edge v b.edge) ((R.exact b).0 (in_contains bs b i)).0
        ∙ ap (λ (t : Bool). t ∧∧ at_edge v b.edge) (has_odd count f l (λ k. is_odd (feature_count k b.edge owners R.routes)))
        ∙ ap (λ (t : Bool). t ∧∧ at_edge v b.edge) (odd_is (joins b.edge) (feature_steps f owners R.routes))
        ∙ and_comm (par (joins b.edge) (feature_steps f owners R.routes)) (at_edge v b.edge)
        ∙ par_and (at_edge v b.edge) (joins b.edge) (feature_steps f owners R.routes)

    one_own_step : (step : Pt × Pt) → In step steps → par (λ b. joined_at v b step) bs ≡ at_step v step
    unfolding steps
    one_own_step step i = one_step v step (in_all_steps f owners R.routes step i)

    odd_degree : is_odd (degree (border f bs) v) ≡ par (at_segment v) (own_segments f segments owners)
    unfolding steps
    odd_degree =
        degree_is (border f bs) v
        ∙ par_map edge_in (at_edge v) (filter (λ b. has f b.features) bs)
        ∙ par_filter (λ b. has f b.features) (λ b. at_edge v b.edge) bs
        ∙ par_cong (λ b. has f b.features ∧∧ at_edge v b.edge) (λ b. par (joined_at v b) steps) bs each_edge
        ∙ fubini (λ b step. joined_at v b step) bs steps
        ∙ par_cong (λ step. par (λ b. joined_at v b step) bs) (at_step v) steps one_own_step
        ∙ over_routes segments f v owners (λ s i. in_contains segments s i) R.are_routes

    begun : (ss : List Seg) → par (λ s. is v s.a) ss ≡ is_odd (count_by (λ s. same_point s.a v) ss)
    begun ss = sym (odd_is (λ s. same_point s.a v) ss ∙ par_same (λ s. same_point s.a v) (λ s. is v s.a) ss (λ s. same_point_is s.a v))

    ended : (ss : List Seg) → par (λ s. is v s.b) ss ≡ is_odd (count_by (λ s. same_point s.b v) ss)
    ended ss = sym (odd_is (λ s. same_point s.b v) ss ∙ par_same (λ s. same_point s.b v) (λ s. is v s.b) ss (λ s. same_point_is s.b v))

    pub closed_even : IsClosedFeature f segments owners → is_odd (degree (border f bs) v) ≡ false
    closed_even h =
        odd_degree
        ∙ sym (par_xor (λ s. is v s.a) (λ s. is v s.b) (own_segments f segments owners))
        ∙ ap (λ (t : Bool). t ⊕ par (λ s. is v s.b) (own_segments f segments owners)) (begun (own_segments f segments owners) ∙ ap is_odd (h v) ∙ sym (ended (own_segments f segments owners)))
        ∙ xor_self (par (λ s. is v s.b) (own_segments f segments owners))

  -- a number that is no feature's has no border
  none_even : (f : ℕ) → ¬ (f < count) → HasEvenDegrees (border f bs)
  none_even f n v =
      degree_is (border f bs) v
      ∙ par_map edge_in (at_edge v) (filter (λ b. has f b.features) bs)
      ∙ par_filter (λ b. has f b.features) (λ b. at_edge v b.edge) bs
      ∙ par_cong (λ b. has f b.features ∧∧ at_edge v b.edge) (λ b. false) bs (λ b i.
      ap (λ (fs : List ℕ). has f fs ∧∧ at_edge v b.edge) ((R.exact b).0 (in_contains bs b i)).0
      ∙ ap (λ (t : Bool). t ∧∧ at_edge v b.edge) (has_none count f n (λ k. is_odd (feature_count k b.edge owners R.routes))))
      ∙ par_none bs

  -- ---- the limit
  module _ (limits : All (λ (s : Seg). AreInLimit s.a s.b) segments) where
    met_in_limit : (s : Seg) (route : List Pt) (c : Pt) → In s segments → IsRoute segments s route → Contains route c → InLimit c
    met_in_limit s route c i r k =
        let l : AreInLimit s.a s.b = All-contains (λ (t : Seg). AreInLimit t.a t.b) segments s limits (in_contains segments s i) in
        let box = meets_box (piece s) c (meets_in s c ((r.exact c).0 k).1) in
        record { x_in = between_within coordinate_limit s.a.x s.b.x c.x l.a_in.x_in l.b_in.x_in box.0; y_in = between_within coordinate_limit s.a.y s.b.y c.y l.a_in.y_in l.b_in.y_in box.1 }

    step_in_limit : (step : Pt × Pt) → In step (flat_map neighbours R.routes) → InLimit step.0 × InLimit step.1
    step_in_limit step i =
        let o = step_of segments R.are_routes step i in
        let n = o.next in
        (met_in_limit o.s o.route step.0 o.inside o.is_route (n.k, (let l = n.inside in omega arith), n.c_is), met_in_limit o.s o.route step.1 o.inside o.is_route (suc n.k, n.inside, n.e_is))

    edge_in_limit : (e : Edge) → In e (edges_in bs) → AreInLimit e.p e.q
    edge_in_limit e i =
        let m = in_map edge_in bs e i in
        let s = some_passes (joins m.0.edge) (flat_map neighbours R.routes) ((R.exact m.0).0 (in_contains bs m.0 m.1)).1 in
        let l = step_in_limit s.0 s.1 in
        subst (λ (f : Edge). AreInLimit f.p f.q) m.2 (⊎_elim
        (λ (p, q). record { a_in = subst InLimit p l.0; b_in = subst InLimit q l.1 })
        (λ (p, q). record { a_in = subst InLimit q l.1; b_in = subst InLimit p l.0 })
        (joined m.0.edge s.0 s.2))

    pub all_borders : ((f : ℕ) → f < count → IsClosedFeature f segments owners) → IsNoded (edges_in bs) → AreBorders bs
    all_borders closed n = record {
      ascending = R.ascending;
      in_limit = all_in (λ (e : Edge). AreInLimit e.p e.q) (edges_in bs) edge_in_limit;
      noded = n;
      even = λ f. ⊎_elim (λ l v. closed_even f l v (closed f l)) (λ k. none_even f k) (below_or_not f count);
    }

pub rounded_are_borders : RoundedAreBorders
rounded_are_borders count segments owners bs R limits closed n = all_borders count segments owners bs R limits closed n
