-- The same by `Contains` and `AllPairs`, and by sides.
use Rattle.std.proofs.Common.{◌≡◌, inl, inr, ⊎_elim, true, false, int_le, int_lt, length, get_or, ◌≤◌, ℕ, ◌<◌, List, [], ◌∷◌, ◌++◌, Bool, refl, sym, ap, ◌∙◌, arith, subst}
use Rattle.std.specs.List.{Contains, AllPairs, All}
use Rattle.std.specs.Prelude.{pos, ◌<ℤ◌}
use Rattle.std.proofs.Math.IntN.{ℤ, ◌+ℤ◌, ◌-ℤ◌, ◌*ℤ◌, neg_ℤ}
use Rattle.std.proofs.lemmas.Int.{ints}
use Rattle.std.proofs.lemmas.List.Elements.{All-contains, All-nil, All-cons}
use Rattle.std.proofs.lemmas.List.Kept.{AllPairs-cons}
use Rattle.geom.specs.declared.point.Pt.{Pt}
use Rattle.geom.specs.declared.segment.Source.{Source}
use Rattle.geom.specs.declared.segment.Source.TheVariants.{A, B}
use Rattle.geom.specs.declared.edge.Edge.{Edge}
use Rattle.geom.specs.declared.edge.Counted.{Counted}
use Rattle.geom.specs.Determinant.{side}
use Rattle.geom.specs.Pixel.{Point}
use Rattle.geom.specs.Rounded.{edges_of, odd_edges, is_odd}
use Rattle.geom.specs.Parity as geom
use Rattle.geom.specs.ResultEdges.{left_side, right_side}
use Rattle.geom.proofs.Integers.{expand, linear}
use Rattle.geom.proofs.Lists.{In, in_contains, contains_in, map_in}
use Rattle.geom.proofs.ListOrder.{pairs_tail}
use Rattle.points_law.proofs.Choices.{◌⊕◌}
use Rattle.points_law.proofs.Turn.{crossing}
use Rattle.label_sweep.specs.Labels.{xor}
use Rattle.points_law.specs.Law.{AreLayers}
use Rattle.points_law.proofs.Choices.{run, rise, Even, parity, counted}
use Rattle.points_law.proofs.Vertex.{over_pt, Vertex}
use Rattle.points_law.proofs.Layers.{chosen, parity_is, over_all, even_in, edges_in, chosen_at, distinct, first_pairs}
use Rattle.label_sweep.specs.Status.{IsUnder, Reaches, GoesOn, AreStanding, AreSpokes, IsSteeper, IsVertexOf}
use Rattle.label_sweep.specs.Laws.{StandingStays, FirstLeft, LeftOfFirst, LeftOfNext, SearchIsMonotone, EndsAreLevel, StandingReaches, RightIsBeyond}
use Rattle.label_sweep.proofs.Ends.{le_cases}
use Rattle.label_sweep.proofs.Order.{below_too, above_too}
use Rattle.label_sweep.proofs.Step.{Pairs, StandingEdge, Comes, Goes, step, lowest_above, none_above, comes_common, comes_run, comes_end, carried}
use Rattle.label_sweep.proofs.West.{west_lowest, west_none}
use Rattle.label_sweep.proofs.Around.{Spokes, Steeper, first_left, next_left}

-- ---- pairs
pub pairs_from : (R : Edge → Edge → Type 0) (xs : List Edge) → AllPairs R xs → Pairs R xs
pairs_from R [] p = tt
pairs_from R (x ∷ xs) p = ((λ y i. first_pairs R x y xs p (in_contains xs y i)), pairs_from R xs (pairs_tail R x xs p))

all_in : (P : Edge → Type 0) (xs : List Edge) → ((x : Edge) → In x xs → P x) → All P xs
all_in P [] h = All-nil P
all_in P (x ∷ xs) h = All-cons P x xs (h x (inl refl)) (all_in P xs (λ y i. h y (inr i)))

pub pairs_to : (R : Edge → Edge → Type 0) (xs : List Edge) → Pairs R xs → AllPairs R xs
pairs_to R [] p = λ i j d h k. absurd (omega arith)
pairs_to R (x ∷ xs) p = AllPairs-cons R x xs (all_in (λ y. R x y) xs p.0) (pairs_to R xs p.1)

-- ---- sides
side_flip : (px py qx qy x y : ℤ) → ((qy -ℤ py) *ℤ x +ℤ (py *ℤ (qx -ℤ px) -ℤ px *ℤ (qy -ℤ py))) -ℤ (qx -ℤ px) *ℤ y ≡ neg_ℤ ((qx -ℤ px) *ℤ (y -ℤ py) -ℤ (qy -ℤ py) *ℤ (x -ℤ px))
side_flip px py qx qy x y = simp expand (omega (arith, linear))

over_is : (e : Edge) (v : Pt) → over_pt e v ≡ neg_ℤ (side e.p e.q v)
over_is e v = side_flip e.p.x e.p.y e.q.x e.q.y v.x v.y

below_of : (x y : ℤ) → x ≡ neg_ℤ y → pos 0 <ℤ y → x <ℤ pos 0
below_of x y e h = omega (arith, ints)

on_of : (x y : ℤ) → x ≡ neg_ℤ y → y ≡ pos 0 → x ≡ pos 0
on_of x y e h = omega (arith, ints)

above_of : (x y : ℤ) → x ≡ neg_ℤ y → y <ℤ pos 0 → pos 0 <ℤ x
above_of x y e h = omega (arith, ints)

-- ---- what stands
comes_of : (es : List Edge) (v : Pt) (e : Edge) → Reaches es v e → Comes es v e
comes_of es v e r = record { inside = contains_in es e r.inside; slopes = r.slopes; begun = r.begun; lasts = r.lasts }

reaches_of : (es : List Edge) (v : Pt) (e : Edge) → Comes es v e → Reaches es v e
reaches_of es v e r = record { inside = in_contains es e r.inside; slopes = r.slopes; begun = r.begun; lasts = r.lasts }

goes_on : (es : List Edge) (v : Pt) (e : Edge) → Goes es v e → GoesOn es v e
goes_on es v e r = record { inside = in_contains es e r.inside; slopes = r.slopes; begun = r.begun; lasts = r.lasts }

goes_of : (es : List Edge) (v : Pt) (e : Edge) → GoesOn es v e → Goes es v e
goes_of es v e r = record { inside = contains_in es e r.inside; slopes = r.slopes; begun = r.begun; lasts = r.lasts }

standing_of : (es : List Edge) (v : Pt) (s : List Edge) → AreStanding (Reaches es v) s → StandingEdge (Comes es v) s
standing_of es v s h = record {
  sound = λ e i. comes_of es v e ((h.exact e).0 (in_contains s e i));
  complete = λ e c. contains_in s e ((h.exact e).1 (reaches_of es v e c));
  order = pairs_from IsUnder s h.order;
}

standing_to : (es : List Edge) (v : Pt) (s : List Edge) → StandingEdge (Goes es v) s → AreStanding (GoesOn es v) s
standing_to es v s h = record {
  exact = λ e. ((λ c. goes_on es v e (h.sound e (contains_in s e c))), (λ g. in_contains s e (h.complete e (goes_of es v e g))));
  order = pairs_to IsUnder s h.order;
}

pub vertex_of : (es : List Edge) (v : Pt) → IsVertexOf es v → Vertex es v
vertex_of es v h = record { edge = h.edge; inside = contains_in es h.edge h.inside; ends = h.ends }

all_of : (P : Edge → Type 0) (xs : List Edge) → All P xs → (x : Edge) → In x xs → P x
all_of P xs h x i = All-contains P xs x h (in_contains xs x i)

pub standing_stays : StandingStays
standing_stays cs h v x low mid high fresh s l m u f =
    standing_to (edges_of cs) v (low ++ (fresh ++ high))
    (step (edges_of cs) (edges_in cs h) v (vertex_of (edges_of cs) v x) low mid high fresh (standing_of (edges_of cs) v (low ++ (mid ++ high)) s)
    (λ e i. below_of (over_pt e v) (side e.p e.q v) (over_is e v) (all_of (λ e. pos 0 <ℤ side e.p e.q v) low l e i))
    (λ e i. on_of (over_pt e v) (side e.p e.q v) (over_is e v) (all_of (λ e. side e.p e.q v ≡ pos 0) mid m e i))
    (λ e i. above_of (over_pt e v) (side e.p e.q v) (over_is e v) (all_of (λ e. side e.p e.q v <ℤ pos 0) high u e i))
    (λ e i. let k = (f.exact e).0 (in_contains fresh e i) in (contains_in (edges_of cs) e k.0, k.1, k.2))
    (λ e i t b. contains_in fresh e ((f.exact e).1 (in_contains (edges_of cs) e i, t, b)))
    (pairs_from IsUnder fresh f.order))

-- ---- the parities in a layer
module _ (cs : List Counted) (h : AreLayers cs) where
  test : Source → Counted → Bool
  test A c = is_odd c.in_a
  test B c = is_odd c.in_b

  pub choice : Source → Edge → Bool
  choice l e = chosen (test l) cs e

  pub even : (l : Source) → Even (choice l) (edges_of cs)
  unfolding choice test
  even A = even_in (λ c. is_odd c.in_a) cs (distinct cs h.ascending) h.even_a
  even B = even_in (λ c. is_odd c.in_b) cs (distinct cs h.ascending) h.even_b

  pub layer : (l : Source) (z : Point) → geom.parity (odd_edges l cs) z ≡ parity (choice l) (edges_of cs) z
  unfolding choice test
  layer A z = parity_is (odd_edges A cs) z ∙ over_all (λ c. is_odd c.in_a) cs (distinct cs h.ascending) (λ e. counted e z)
  layer B z = parity_is (odd_edges B cs) z ∙ over_all (λ c. is_odd c.in_b) cs (distinct cs h.ascending) (λ e. counted e z)

pub pairs_map : (R T : Edge → Edge → Type 0) → ((x y : Edge) → R x y → T x y) → (xs : List Edge) → Pairs R xs → Pairs T xs
pairs_map R T f [] p = tt
pairs_map R T f (x ∷ xs) p = ((λ y i. f x y (p.0 y i)), pairs_map R T f xs p.1)

pub turn_is : (rf sf rg sg : ℤ) → rg *ℤ sf -ℤ sg *ℤ rf ≡ rg *ℤ sf -ℤ rf *ℤ sg
turn_is rf sf rg sg = simp expand (omega (arith, linear))

pub steeper_of : (f g : Edge) → IsSteeper f g → Steeper f g
steeper_of f g h = subst (λ (t : ℤ). pos 0 <ℤ t) (turn_is (run f) (rise f) (run g) (rise g)) h

pub spokes_of : (es : List Edge) (v : Pt) (s : List Edge) → AreSpokes es v s → Spokes es v s
spokes_of es v s h = record {
  sound = λ e i. let k = (h.exact e).0 (in_contains s e i) in (contains_in es e k.0, k.1);
  complete = λ e i b. contains_in s e ((h.exact e).1 (in_contains es e i, b));
  order = pairs_map IsSteeper Steeper steeper_of s (pairs_from IsSteeper s h.order);
}

pub left_of_first : LeftOfFirst
left_of_first cs h v x low mid f high s l m u k rest t src =
    layer cs h src (left_side k.p k.q)
    ∙ first_left (edges_of cs) (edges_in cs h) (choice cs h src) (even cs h src) v k rest (spokes_of (edges_of cs) v (k ∷ rest) t)
    ∙ west_lowest (edges_of cs) (edges_in cs h) (choice cs h src) (even cs h src) v f
    (lowest_above (edges_of cs) (edges_in cs h) v (vertex_of (edges_of cs) v x) low mid (f ∷ high) [] (standing_of (edges_of cs) v (low ++ (mid ++ (f ∷ high))) s)
    (λ e i. below_of (over_pt e v) (side e.p e.q v) (over_is e v) (all_of (λ e. pos 0 <ℤ side e.p e.q v) low l e i))
    (λ e i. on_of (over_pt e v) (side e.p e.q v) (over_is e v) (all_of (λ e. side e.p e.q v ≡ pos 0) mid m e i))
    (λ e i. above_of (over_pt e v) (side e.p e.q v) (over_is e v) (all_of (λ e. side e.p e.q v <ℤ pos 0) (f ∷ high) u e i))
    f high refl)
    ∙ sym (layer cs h src (right_side f.p f.q))

pub first_left_none : FirstLeft
first_left_none cs h v x low mid s l m k rest t src =
    layer cs h src (left_side k.p k.q)
    ∙ first_left (edges_of cs) (edges_in cs h) (choice cs h src) (even cs h src) v k rest (spokes_of (edges_of cs) v (k ∷ rest) t)
    ∙ west_none (edges_of cs) (choice cs h src) v
    (none_above (edges_of cs) (edges_in cs h) v (vertex_of (edges_of cs) v x) low mid [] [] (standing_of (edges_of cs) v (low ++ (mid ++ [])) s)
    (λ e i. below_of (over_pt e v) (side e.p e.q v) (over_is e v) (all_of (λ e. pos 0 <ℤ side e.p e.q v) low l e i))
    (λ e i. on_of (over_pt e v) (side e.p e.q v) (over_is e v) (all_of (λ e. side e.p e.q v ≡ pos 0) mid m e i))
    (λ e i. absurd i)
    refl)

pub left_of_next : LeftOfNext
left_of_next cs h v before g k rest t src =
    layer cs h src (left_side k.p k.q)
    ∙ next_left (edges_of cs) (edges_in cs h) v before g k rest (spokes_of (edges_of cs) v (before ++ (g ∷ (k ∷ rest))) t) (choice cs h src) (even cs h src)
    ∙ sym (layer cs h src (right_side g.p g.q))

-- ---- the search
passes_lt : (x y : ℤ) → x ≡ neg_ℤ y → x <ℤ pos 0 → int_lt (pos 0) y ≡ true
passes_lt x y e h = grind (arith, ints)

passed_lt : (x y : ℤ) → x ≡ neg_ℤ y → int_lt (pos 0) y ≡ true → x <ℤ pos 0
passed_lt x y e h = omega (arith, ints)

passes_le : (x y : ℤ) → x ≡ neg_ℤ y → (pos 0 <ℤ x → ⊥) → int_le (pos 0) y ≡ true
passes_le x y e h = grind (arith, ints)

passed_le : (x y : ℤ) → x ≡ neg_ℤ y → int_le (pos 0) y ≡ true → pos 0 <ℤ x → ⊥
passed_le x y e h k = omega (arith, ints)

below_first : (es : List Edge) (v : Pt) (e f : Edge) → Reaches es v e → Reaches es v f → IsUnder e f → int_lt (pos 0) (side f.p f.q v) ≡ true → int_lt (pos 0) (side e.p e.q v) ≡ true
below_first es v e f a b u t = let c = comes_of es v e a in let d = comes_of es v f b in
    passes_lt (over_pt e v) (side e.p e.q v) (over_is e v) (below_too e f v (comes_run es v e c) (comes_run es v f d) (comes_common es v e f c d) u (passed_lt (over_pt f v) (side f.p f.q v) (over_is f v) t))

up_to_first : (es : List Edge) (v : Pt) (e f : Edge) → Reaches es v e → Reaches es v f → IsUnder e f → int_le (pos 0) (side f.p f.q v) ≡ true → int_le (pos 0) (side e.p e.q v) ≡ true
up_to_first es v e f a b u t = let c = comes_of es v e a in let d = comes_of es v f b in
    passes_le (over_pt e v) (side e.p e.q v) (over_is e v) (λ h. passed_le (over_pt f v) (side f.p f.q v) (over_is f v) t (above_too e f v (comes_run es v e c) (comes_run es v f d) (comes_common es v e f c d) u h))

less : (i j n : ℕ) → i ≤ j → j < n → i < n
less i j n h k = omega arith

pub search_is_monotone : SearchIsMonotone
search_is_monotone es v xs o r = (
  (λ i j d l m t. ⊎_elim (λ k. below_first es v (get_or xs i d).spoke.one.edge (get_or xs j d).spoke.one.edge (r i d (less i j (length xs) l m)) (r j d m) (o i j d k m) t)
      (λ e. subst (λ n. int_lt (pos 0) (side (get_or xs n d).spoke.one.edge.p (get_or xs n d).spoke.one.edge.q v) ≡ true) (sym e) t) (le_cases i j l)),
  (λ i j d l m t. ⊎_elim (λ k. up_to_first es v (get_or xs i d).spoke.one.edge (get_or xs j d).spoke.one.edge (r i d (less i j (length xs) l m)) (r j d m) (o i j d k m) t)
      (λ e. subst (λ n. int_le (pos 0) (side (get_or xs n d).spoke.one.edge.p (get_or xs n d).spoke.one.edge.q v) ≡ true) (sym e) t) (le_cases i j l)),
)

pub ends_are_level : EndsAreLevel
ends_are_level cs h v x e r z = comes_end (edges_of cs) (edges_in cs h).noded v (vertex_of (edges_of cs) v x) e (comes_of (edges_of cs) v e r) (on_of (over_pt e v) (side e.p e.q v) (over_is e v) z)

pub standing_reaches : StandingReaches
standing_reaches es v w b n s h =
    let t = carried es v w s b (λ e i u k l m. n u (record { edge = e; inside = in_contains es e i; ends = k }) l m)
    (record { sound = λ e i. goes_of es v e ((h.exact e).0 (in_contains s e i)); complete = λ e g. contains_in s e ((h.exact e).1 (goes_on es v e g)); order = pairs_from IsUnder s h.order }) in
    record {
      exact = λ e. ((λ c. reaches_of es w e (t.sound e (contains_in s e c))), (λ g. in_contains s e (t.complete e (comes_of es w e g))));
      order = h.order;
    }

-- ---- across an edge
xor_is : (a b : Bool) → a ⊕ b ≡ xor a b
xor_is true b = refl
xor_is false b = refl

crossed : (cs : List Counted) (h : AreLayers cs) (l : Source) (c : Counted) → Contains cs c → (t : Bool) → choice cs h l c.edge ≡ t
    → geom.parity (odd_edges l cs) (right_side c.edge.p c.edge.q) ≡ xor (geom.parity (odd_edges l cs) (left_side c.edge.p c.edge.q)) t
crossed cs h l c i t e = layer cs h l (right_side c.edge.p c.edge.q)
    ∙ crossing (edges_of cs) (edges_in cs h) (choice cs h l) (even cs h l) c.edge (map_in (λ c. c.edge) cs c (contains_in cs c i))
    ∙ ap (λ (b : Bool). parity (choice cs h l) (edges_of cs) (left_side c.edge.p c.edge.q) ⊕ b) e
    ∙ ap (λ (b : Bool). b ⊕ t) (sym (layer cs h l (left_side c.edge.p c.edge.q)))
    ∙ xor_is (geom.parity (odd_edges l cs) (left_side c.edge.p c.edge.q)) t

chosen_a : (cs : List Counted) (h : AreLayers cs) (c : Counted) → Contains cs c → choice cs h A c.edge ≡ is_odd c.in_a
unfolding choice test
chosen_a cs h c i = chosen_at (λ c. is_odd c.in_a) cs (distinct cs h.ascending) c (contains_in cs c i)

chosen_b : (cs : List Counted) (h : AreLayers cs) (c : Counted) → Contains cs c → choice cs h B c.edge ≡ is_odd c.in_b
unfolding choice test
chosen_b cs h c i = chosen_at (λ c. is_odd c.in_b) cs (distinct cs h.ascending) c (contains_in cs c i)

pub right_is_beyond : RightIsBeyond
right_is_beyond cs h c i = λ j. record { a = crossed cs h A c i (is_odd c.in_a) (chosen_a cs h c i) j; b = crossed cs h B c i (is_odd c.in_b) (chosen_b cs h c i) j }
