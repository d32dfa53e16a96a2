-- The cycles of the next edge are the rings.
use Rattle.std.proofs.Common.{◌≡◌, ◌≢◌, ℕ, zero, suc, ◌<◌, ◌≤◌, List, [], ◌∷◌, ◌++◌, length, map, get_or, take, drop, refl, sym, ◌∙◌, ap, subst, inl, inr, arith}
use Rattle.std.specs.Prelude.{All, AllPairs, Contains, flat_map, IsPermutation}
use Rattle.std.specs.List.{take-map, drop-map}
use Rattle.std.proofs.lemmas.List.{append-nil, map-append, take-append-drop, get_or-map, length-map}
use Rattle.std.proofs.Math.Seq.{take-suc, take-length, take-append_seam, drop-append_seam}
use Rattle.std.proofs.lemmas.List.Elements.{All-nil, All-cons, All-head, All-tail, All-map, Contains-get_or}
use Rattle.std.proofs.lemmas.List.Sorted.{IsPermutation-refl, IsPermutation-trans, IsPermutation-cons, IsPermutation-to_front, IsPermutation-map, IsPermutation-append_comm, All-permutation}
use Rattle.geom.specs.declared.point.Pt.{Pt}
use Rattle.geom.specs.declared.directed.DirectedEdge.{DirectedEdge}
use Rattle.geom.specs.Order.{IsBefore}
use Rattle.geom.proofs.Edges.{before_strict}
use Rattle.geom.proofs.RingEdges.{same_order, around-rotation}
use Rattle.geom.specs.ListOrder.{IsListBefore, IsLeastRotation}
use Rattle.geom.specs.Rings.{along, around, ring_edges, corner, ring_corners, Follows, AreRings}
use Rattle.geom.specs.Directed.{from_to}
use Rattle.polygonize.specs.Cycle.{pair, Leads, IsCycle, Member, NoTwice, IsLeastFirst, Begins, members, below, AreCycles}
use Rattle.geom.specs.Directed.{IsDirectedBefore, AreDirected}
use Rattle.polygonize.specs.Next.{nothing, edge_at, AreNext, ring_of}

-- ---- the edges of a ring are those at its cycle's places
edge_in : (ds : List DirectedEdge) (next : List ℕ) → AreNext ds next → (x : ℕ) → x < length next → x < length ds
edge_in ds next n x h = omega (arith, h, len)
  where
    len : length next ≡ length ds
    len = n.same_length

one_dart : (ds : List DirectedEdge) (next : List ℕ) → AreNext ds next → (x z : ℕ) → x < length next → Leads next (x, z) → from_to (edge_at ds x).from (edge_at ds z).from ≡ edge_at ds x
one_dart ds next n x z h e = ap (λ t. from_to (edge_at ds x).from t) (ap (λ k. (edge_at ds k).from) (sym e) ∙ n.joins x (edge_in ds next n x h))

edges_along : (ds : List DirectedEdge) (next : List ℕ) → AreNext ds next → (x : ℕ) (ys : List ℕ) (z : ℕ) → All (λ i. i < length next) (x ∷ ys) → All (Leads next) (along pair x ys z)
    → along from_to (edge_at ds x).from (ring_of ds ys) (edge_at ds z).from ≡ map (edge_at ds) (x ∷ ys)
edges_along ds next n x [] z h l = ap (λ t. t ∷ []) (one_dart ds next n x z (All-head (λ i. i < length next) x [] h) (All-head (Leads next) (x, z) [] l))
edges_along ds next n x (y ∷ ys) z h l =
    ap (λ t. t ∷ along from_to (edge_at ds y).from (ring_of ds ys) (edge_at ds z).from) (one_dart ds next n x y (All-head (λ i. i < length next) x (y ∷ ys) h) (All-head (Leads next) (x, y) (along pair y ys z) l))
    ∙ ap (λ t. edge_at ds x ∷ t) (edges_along ds next n y ys z (All-tail (λ i. i < length next) x (y ∷ ys) h) (All-tail (Leads next) (x, y) (along pair y ys z) l))

pub edges_of_cycle : (ds : List DirectedEdge) (next : List ℕ) → AreNext ds next → (cycle : List ℕ) → IsCycle next cycle → ring_edges (ring_of ds cycle) ≡ map (edge_at ds) cycle
edges_of_cycle ds next n [] c = refl
edges_of_cycle ds next n (x ∷ ys) c = edges_along ds next n x ys x c.inside c.leads

-- ---- together they are all edges
front_places : (ds : List DirectedEdge) (k : ℕ) → k ≤ length ds → IsPermutation (take k ds) (map (edge_at ds) (below k))
front_places ds zero h = IsPermutation-refl []
front_places ds (suc k) h = IsPermutation-trans _ _ _ (same_order (take (suc k) ds) (take k ds ++ edge_at ds k ∷ []) (take-suc ds k nothing h))
    (IsPermutation-trans _ _ _ (IsPermutation-to_front (take k ds) (edge_at ds k)) (IsPermutation-cons (edge_at ds k) (take k ds) (map (edge_at ds) (below k)) (front_places ds k (omega arith))))

all_places : (ds : List DirectedEdge) → IsPermutation ds (map (edge_at ds) (below (length ds)))
all_places ds = IsPermutation-trans _ _ _ (same_order ds (take (length ds) ds) (sym (take-length ds))) (front_places ds (length ds) (same (length ds)))
  where
    same : (n : ℕ) → n ≤ n
    same n = omega arith

all_edges : (ds : List DirectedEdge) (next : List ℕ) → AreNext ds next → (cycles : List (List ℕ)) → All (IsCycle next) cycles → flat_map ring_edges (map (ring_of ds) cycles) ≡ map (edge_at ds) (members cycles)
all_edges ds next n [] h = refl
all_edges ds next n (c ∷ cs) h = ap (λ t. t ++ flat_map ring_edges (map (ring_of ds) cs)) (edges_of_cycle ds next n c (All-head (IsCycle next) c cs h))
    ∙ ap (λ t. map (edge_at ds) c ++ t) (all_edges ds next n cs (All-tail (IsCycle next) c cs h))
    ∙ sym (map-append (edge_at ds) c (members cs))

pub together : (ds : List DirectedEdge) (next : List ℕ) → AreNext ds next → (cycles : List (List ℕ)) → AreCycles next cycles → IsPermutation ds (flat_map ring_edges (map (ring_of ds) cycles))
together ds next n cycles c = IsPermutation-trans _ _ _ (all_places ds)
    (IsPermutation-trans _ _ _ (same_order _ _ (ap (λ k. map (edge_at ds) (below k)) (sym n.same_length)))
    (IsPermutation-trans _ _ _ (IsPermutation-map (edge_at ds) (below (length next)) (members cycles) c.together) (same_order _ _ (sym (all_edges ds next n cycles c.are_cycles)))))

-- ---- they follow the rule
one_corner : (ds : List DirectedEdge) (next : List ℕ) → AreNext ds next → (x z : ℕ) → x < length next → Leads next (x, z) → Follows ds (corner (edge_at ds x) (edge_at ds z))
one_corner ds next n x z h e = let P : ℕ → Type 0 = λ k. Follows ds (corner (edge_at ds x) (edge_at ds k)) in subst P e (n.follows x (edge_in ds next n x h))

corners_along : (ds : List DirectedEdge) (next : List ℕ) → AreNext ds next → (x : ℕ) (ys : List ℕ) (z : ℕ) → All (λ i. i < length next) (x ∷ ys) → All (Leads next) (along pair x ys z)
    → All (Follows ds) (along corner (edge_at ds x) (map (edge_at ds) ys) (edge_at ds z))
corners_along ds next n x [] z h l = All-cons (Follows ds) (corner (edge_at ds x) (edge_at ds z)) [] (one_corner ds next n x z (All-head (λ i. i < length next) x [] h) (All-head (Leads next) (x, z) [] l)) (All-nil (Follows ds))
corners_along ds next n x (y ∷ ys) z h l = All-cons (Follows ds) (corner (edge_at ds x) (edge_at ds y)) (along corner (edge_at ds y) (map (edge_at ds) ys) (edge_at ds z))
    (one_corner ds next n x y (All-head (λ i. i < length next) x (y ∷ ys) h) (All-head (Leads next) (x, y) (along pair y ys z) l))
    (corners_along ds next n y ys z (All-tail (λ i. i < length next) x (y ∷ ys) h) (All-tail (Leads next) (x, y) (along pair y ys z) l))

pub follow : (ds : List DirectedEdge) (next : List ℕ) → AreNext ds next → (cycle : List ℕ) → IsCycle next cycle → All (Follows ds) (ring_corners (ring_of ds cycle))
follow ds next n cycle c = let P : List DirectedEdge → Type 0 = λ t. All (Follows ds) (around corner t) in subst P (sym (edges_of_cycle ds next n cycle c)) (round cycle c)
  where
    round : (cycle : List ℕ) → IsCycle next cycle → All (Follows ds) (around corner (map (edge_at ds) cycle))
    round [] c = All-nil (Follows ds)
    round (x ∷ ys) c = corners_along ds next n x ys x c.inside c.leads

-- ---- order
pub less_not : (p q : Pt) → IsBefore p q → ¬ (IsBefore q p)
less_not p q h k = before_strict p q h k

pub less_apart : (p q : Pt) → IsBefore p q → p ≢ q
less_apart p q h e = let P : Pt → Type 0 = λ t. IsBefore t q in let k = subst P e h in less_not q q k k

lists_less : (d e : DirectedEdge) (r s : List Pt) → IsDirectedBefore d e → IsListBefore (d.from ∷ d.to ∷ r) (e.from ∷ e.to ∷ s)
lists_less d e r s (inl h) = inl h
lists_less d e r s (inr h) = inr (h.0, inl h.1)

lists_not : (d e : DirectedEdge) (r s : List Pt) → IsDirectedBefore d e → ¬ (IsListBefore (e.from ∷ e.to ∷ s) (d.from ∷ d.to ∷ r))
lists_not d e r s (inl h) (inl k) = less_not d.from e.from h k
lists_not d e r s (inl h) (inr k) = less_apart d.from e.from h (sym k.0)
lists_not d e r s (inr h) (inl k) = less_apart e.from d.from k (sym h.0)
lists_not d e r s (inr h) (inr k) = elim k.1 [ inl m ↦ less_not d.to e.to h.1 m | inr m ↦ less_apart d.to e.to h.1 (sym m.0) ]

pub list_irreflexive : (ps : List Pt) → ¬ (IsListBefore ps ps)
list_irreflexive [] h = h
list_irreflexive (p ∷ ps) (inl h) = less_not p p h h
list_irreflexive (p ∷ ps) (inr h) = list_irreflexive ps h.1

-- a ring begins with the two ends of its first edge
record Opens (d : DirectedEdge) (ring : List Pt) : Type 0 where
  pub rest : List Pt
  pub is : ring ≡ d.from ∷ d.to ∷ rest

proper : (ds : List DirectedEdge) → AreDirected ds → (i : ℕ) → i < length ds → (edge_at ds i).from ≢ (edge_at ds i).to
proper ds a i h e = a.one_way (edge_at ds i).to (edge_at ds i).to loop loop
  where
    loop : Contains ds (from_to (edge_at ds i).to (edge_at ds i).to)
    loop = let P : Pt → Type 0 = λ t. Contains ds (from_to t (edge_at ds i).to) in subst P e (Contains-get_or ds i nothing h)

opens : (ds : List DirectedEdge) (next : List ℕ) → AreDirected ds → AreNext ds next → (i : ℕ) (is : List ℕ) → All (λ k. k < length next) (i ∷ is) → All (Leads next) (around pair (i ∷ is)) → Opens (edge_at ds i) (ring_of ds (i ∷ is))
opens ds next a n i [] h l = absurd (proper ds a i (inside (All-head (λ k. k < length next) i [] h)) (ap (λ k. (edge_at ds k).from) (sym (All-head (Leads next) (i, i) [] l)) ∙ n.joins i (inside (All-head (λ k. k < length next) i [] h))))
  where
    len : length next ≡ length ds
    len = n.same_length

    inside : i < length next → i < length ds
    inside k = omega (arith, k, len)
opens ds next a n i (k ∷ ks) h l = record {
  rest = ring_of ds ks;
  is = ap (λ t. (edge_at ds i).from ∷ t ∷ ring_of ds ks) (ap (λ t. (edge_at ds t).from) (sym (All-head (Leads next) (i, k) (along pair k ks i) l)) ∙ n.joins i (inside (All-head (λ k. k < length next) i (k ∷ ks) h)));
}
  where
    len : length next ≡ length ds
    len = n.same_length

    inside : i < length next → i < length ds
    inside k = omega (arith, k, len)

edge_less : (ds : List DirectedEdge) → AreDirected ds → (i j : ℕ) → i < j → j < length ds → IsDirectedBefore (edge_at ds i) (edge_at ds j)
edge_less ds a i j h k = a.ascending i j nothing h k

opens_not : (d e : DirectedEdge) (r s : List Pt) → IsDirectedBefore d e → Opens d r → Opens e s → ¬ (IsListBefore s r)
opens_not d e r s h o p k = lists_not d e o.rest p.rest h (let P : List Pt → Type 0 = λ t. IsListBefore t (d.from ∷ d.to ∷ o.rest) in subst P p.is (let Q : List Pt → Type 0 = λ t. IsListBefore s t in subst Q o.is k))

opens_less : (d e : DirectedEdge) (r s : List Pt) → IsDirectedBefore d e → Opens d r → Opens e s → IsListBefore r s
opens_less d e r s h o p = let P : List Pt → Type 0 = λ t. IsListBefore r t in subst P (sym p.is) (let Q : List Pt → Type 0 = λ t. IsListBefore t (e.from ∷ e.to ∷ p.rest) in subst Q (sym o.is) (lists_less d e o.rest p.rest h))

-- ---- the least rotation
member_middle : (is : List ℕ) (j : ℕ) (js : List ℕ) → Member (is ++ j ∷ js) j
member_middle [] j js = inl refl
member_middle (i ∷ is) j js = inr (member_middle is j js)

all_member : (P : ℕ → Type 0) (is : List ℕ) → All P is → (j : ℕ) → Member is j → P j
all_member P [] h j m = absurd m
all_member P (i ∷ is) h j (inl e) = subst P e (All-head P i is h)
all_member P (i ∷ is) h j (inr m) = all_member P is (All-tail P i is h) j m

none_less : (ds : List DirectedEdge) (next : List ℕ) → AreDirected ds → AreNext ds next → (front back : List ℕ) → IsCycle next (front ++ back) → NoTwice (front ++ back) → IsLeastFirst (front ++ back) → ¬ (IsListBefore (ring_of ds (back ++ front)) (ring_of ds (front ++ back)))
none_less ds next a n [] back c d f h = list_irreflexive (ring_of ds back) (let P : List ℕ → Type 0 = λ t. IsListBefore (ring_of ds t) (ring_of ds back) in subst P (append-nil back) h)
none_less ds next a n (i ∷ is) [] c d f h = list_irreflexive (ring_of ds (i ∷ is)) (let P : List ℕ → Type 0 = λ t. IsListBefore (ring_of ds (i ∷ is)) (ring_of ds t) in subst P (append-nil (i ∷ is)) h)
none_less ds next a n (i ∷ is) (j ∷ js) c d f h = opens_not (edge_at ds i) (edge_at ds j) (ring_of ds (i ∷ is ++ j ∷ js)) (ring_of ds ((j ∷ js) ++ i ∷ is)) (edge_less ds a i j before below_j)
    (opens ds next a n i (is ++ j ∷ js) c.inside c.leads)
    (opens ds next a n j (js ++ i ∷ is) (All-permutation (λ k. k < length next) ((i ∷ is) ++ j ∷ js) ((j ∷ js) ++ i ∷ is) (turned (i ∷ is) (j ∷ js)) c.inside)
    (All-permutation (Leads next) (around pair ((i ∷ is) ++ j ∷ js)) (around pair ((j ∷ js) ++ i ∷ is)) (around-rotation pair (i ∷ is) (j ∷ js)) c.leads)) h
  where
    turned : (xs ys : List ℕ) → IsPermutation (xs ++ ys) (ys ++ xs)
    turned xs ys = IsPermutation-append_comm xs ys

    at_most : i ≤ j
    at_most = all_member (λ k. i ≤ k) (is ++ j ∷ js) f j (member_middle is j js)

    apart : i ≢ j
    apart e = d.0 (let P : ℕ → Type 0 = Member (is ++ j ∷ js) in subst P (sym e) (member_middle is j js))

    before : i < j
    before = omega (arith, at_most, apart)

    len : length next ≡ length ds
    len = n.same_length

    in_next : j < length next
    in_next = all_member (λ k. k < length next) ((i ∷ is) ++ j ∷ js) c.inside j (inr (member_middle is j js))

    below_j : j < length ds
    below_j = omega (arith, in_next, len)

pub least : (ds : List DirectedEdge) (next : List ℕ) → AreDirected ds → AreNext ds next → (cycle : List ℕ) → IsCycle next cycle → NoTwice cycle → IsLeastFirst cycle → IsLeastRotation (ring_of ds cycle) (ring_of ds cycle)
least ds next a n cycle c d f = record {
  rotation = record { front = []; back = ring_of ds cycle; was = refl; is = sym (append-nil (ring_of ds cycle)) };
  none_less = λ turned r h. less_at (length r.front) r.front r.back turned r.was r.is refl h;
}
  where
    less_at : (k : ℕ) (front back turned : List Pt) → ring_of ds cycle ≡ front ++ back → turned ≡ back ++ front → length front ≡ k → ¬ (IsListBefore turned (ring_of ds cycle))
    less_at k front back turned was is len h = none_less ds next a n (take k cycle) (drop k cycle)
        (let P : List ℕ → Type 0 = IsCycle next in subst P (sym (take-append-drop k cycle)) c)
        (let P : List ℕ → Type 0 = NoTwice in subst P (sym (take-append-drop k cycle)) d)
        (let P : List ℕ → Type 0 = IsLeastFirst in subst P (sym (take-append-drop k cycle)) f)
        (let P : List Pt → Type 0 = λ t. IsListBefore t (ring_of ds (take k cycle ++ drop k cycle)) in subst P (is ∙ sym whole) (let Q : List ℕ → Type 0 = λ t. IsListBefore turned (ring_of ds t) in subst Q (sym (take-append-drop k cycle)) h))
      where
        front_is : ring_of ds (take k cycle) ≡ front
        front_is = sym (take-map (λ i. (edge_at ds i).from) k cycle) ∙ ap (take k) was ∙ ap (λ t. take t (front ++ back)) (sym len) ∙ take-append_seam front back

        back_is : ring_of ds (drop k cycle) ≡ back
        back_is = sym (drop-map (λ i. (edge_at ds i).from) k cycle) ∙ ap (drop k) was ∙ ap (λ t. drop t (front ++ back)) (sym len) ∙ drop-append_seam front back

        whole : ring_of ds (drop k cycle ++ take k cycle) ≡ back ++ front
        whole = map-append (λ i. (edge_at ds i).from) (drop k cycle) (take k cycle) ∙ ap (λ t. t ++ ring_of ds (take k cycle)) back_is ∙ ap (λ t. back ++ t) front_is

-- ---- the order of the rings
two_less : (ds : List DirectedEdge) (next : List ℕ) → AreDirected ds → AreNext ds next → (c d : List ℕ) → IsCycle next c → IsCycle next d → Begins c d → IsListBefore (ring_of ds c) (ring_of ds d)
two_less ds next a n [] d c e b = absurd b
two_less ds next a n (i ∷ is) [] c e b = absurd b
two_less ds next a n (i ∷ is) (j ∷ js) c e b = opens_less (edge_at ds i) (edge_at ds j) (ring_of ds (i ∷ is)) (ring_of ds (j ∷ js)) (edge_less ds a i j b below_j) (opens ds next a n i is c.inside c.leads) (opens ds next a n j js e.inside e.leads)
  where
    len : length next ≡ length ds
    len = n.same_length

    in_next : j < length next
    in_next = All-head (λ k. k < length next) j js e.inside

    below_j : j < length ds
    below_j = omega (arith, in_next, len)

ascending : (ds : List DirectedEdge) (next : List ℕ) → AreDirected ds → AreNext ds next → (cycles : List (List ℕ)) → AreCycles next cycles → AllPairs IsListBefore (map (ring_of ds) cycles)
ascending ds next a n cycles c i j d h k = two (get_or-map (ring_of ds) cycles i [] d first) (get_or-map (ring_of ds) cycles j [] d second)
    (two_less ds next a n (get_or cycles i []) (get_or cycles j []) (c.are_cycles i [] first) (c.are_cycles j [] second) (c.ascending i j [] h second))
  where
    len : length (map (ring_of ds) cycles) ≡ length cycles
    len = length-map cycles (ring_of ds)

    second : j < length cycles
    second = omega (arith, k, len)

    first : i < length cycles
    first = omega (arith, h, second)

    two : {p q r s : List Pt} → p ≡ r → q ≡ s → IsListBefore r s → IsListBefore p q
    two {p} {q} {r} {s} e f h = let P : List Pt → Type 0 = λ t. IsListBefore t q in subst P (sym e) (let Q : List Pt → Type 0 = IsListBefore r in subst Q (sym f) h)

pub are_rings : (ds : List DirectedEdge) (next : List ℕ) → AreDirected ds → AreNext ds next → (cycles : List (List ℕ)) → AreCycles next cycles → AreRings ds (map (ring_of ds) cycles)
are_rings ds next a n cycles c = record {
  follow = All-map (λ ring. All (Follows ds) (ring_corners ring)) (ring_of ds) cycles (λ k d h. follow ds next n (get_or cycles k d) (c.are_cycles k d h));
  together = together ds next n cycles c;
  least = All-map (λ ring. IsLeastRotation ring ring) (ring_of ds) cycles (λ k d h. least ds next a n (get_or cycles k d) (c.are_cycles k d h) (c.no_twice k d h) (c.least_first k d h));
  ascending = ascending ds next a n cycles c;
}
