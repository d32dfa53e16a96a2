-- The rings of directed edges are one list: each edge is followed by one edge, so two rings with a common edge are one.
use Rattle.std.proofs.Common.{◌≡◌, ◌⊎◌, inl, inr, List, [], ◌∷◌, ◌++◌, map, refl, sym, ◌∙◌, ap, subst, ⊎_elim, arith}
use Rattle.std.specs.Prelude.{◌≢◌, All, AllPairs, Contains, flat_map, IsPermutation}
use Rattle.std.proofs.lemmas.List.{map-append}
use Rattle.std.proofs.lemmas.List.Elements.{All-nil, All-cons, All-head, All-tail, All-contains}
use Rattle.std.proofs.lemmas.List.Sorted.{IsPermutation-sym, All-permutation}
use lib.IntN.{ℤ, pos, neg_ℤ}
use lib.Signed.{◌<ℤ◌}
use borrow.Author.Differences.{ints}
use Rattle.geom.specs.declared.point.Pt.{Pt}
use Rattle.geom.specs.declared.directed.DirectedEdge.{DirectedEdge}
use Rattle.geom.specs.Order.{IsBefore}
use Rattle.geom.specs.Determinant.{side}
use Rattle.geom.specs.Directed.{from_to, IsDirectedBefore}
use Rattle.geom.specs.ListOrder.{IsListBefore, IsRotation, IsLeastRotation}
use Rattle.geom.specs.Rings.{IsSooner, IsMetBefore, IsNext, along, around, ring_edges, Corner, corner, ring_corners, Follows, AreRings}
use Rattle.geom.proofs.Edges.{PtOrder, pt_order, before_strict}
use Rattle.geom.proofs.Edges.PtOrder.{before, equal, after}
use Rattle.geom.proofs.Lists.{In, Distinct, contains_in, in_contains}
use Rattle.geom.proofs.Orders.{before_itself}
use Rattle.geom.proofs.ListOrder.{list_before_itself, list_before_trans, neither_list_before, same_ascending}
use Rattle.geom.proofs.OneCut.{simple_distinct}
use Rattle.geom.proofs.OneRotation.{rotation_back, rotation_trans}
use Rattle.geom.proofs.OneRing.{opposite, some_edge, ring_simple}
use Rattle.geom.proofs.RingEdges.{around-rotation, in_permutation, in_flat, flat_in}

-- ---- the next vertex is one
not_both : (a b : ℤ) → a ≡ neg_ℤ b → a <ℤ pos 0 → b <ℤ pos 0 → ⊥
not_both a b h i j = omega (arith, ints)

-- no two points are each met sooner than the other
pub not_sooner : (v a b : Pt) → IsSooner v a b → IsSooner v b a → ⊥
not_sooner v a b (inl (h, k)) (inl (l, m)) = before_strict v a h m
not_sooner v a b (inl (h, k)) (inr (inl (l, m), n)) = before_strict b v k l
not_sooner v a b (inl (h, k)) (inr (inr (l, m), n)) = before_strict v a h m
not_sooner v a b (inr (inl (h, k), n)) (inl (l, m)) = before_strict v a h m
not_sooner v a b (inr (inr (h, k), n)) (inl (l, m)) = before_strict b v k l
not_sooner v a b (inr (s, n)) (inr (t, m)) = not_both (side v a b) (side v b a) (opposite v a b) n m

-- no two points are each met before the other
pub not_met : (v u a b : Pt) → IsMetBefore v u a b → IsMetBefore v u b a → ⊥
not_met v u a b (inl (ua, ab)) (inl (ub, ba)) = not_sooner v a b ab ba
not_met v u a b (inl (ua, ab)) (inr (inl (ba, au))) = not_sooner v a b ab ba
not_met v u a b (inl (ua, ab)) (inr (inr (au, ub))) = not_sooner v u a ua au
not_met v u a b (inr (inl (ab, bu))) (inl (ub, ba)) = not_sooner v a b ab ba
not_met v u a b (inr (inl (ab, bu))) (inr (inl (ba, au))) = not_sooner v a b ab ba
not_met v u a b (inr (inl (ab, bu))) (inr (inr (au, ub))) = not_sooner v b u bu ub
not_met v u a b (inr (inr (bu, ua))) (inl (ub, ba)) = not_sooner v b u bu ub
not_met v u a b (inr (inr (bu, ua))) (inr (inl (ba, au))) = not_sooner v u a ua au
not_met v u a b (inr (inr (bu, ua))) (inr (inr (au, ub))) = not_sooner v b u bu ub

-- which of three points is called the first is no matter
pub met_turned : (v u a b : Pt) → IsMetBefore v u a b → IsMetBefore v b u a
met_turned v u a b (inl (ua, ab)) = inr (inl (ua, ab))
met_turned v u a b (inr (inl (ab, bu))) = inr (inr (ab, bu))
met_turned v u a b (inr (inr (bu, ua))) = inl (bu, ua)

apart : (p q : Pt) → IsBefore p q → p ≢ q
apart p q h e = before_itself p (subst (IsBefore p) (sym e) h)

pub one_next : (directed : List DirectedEdge) (u v w x : Pt) → IsNext directed u v w → IsNext directed u v x → w ≡ x
one_next directed u v w x m n = by_order (pt_order w x)
  where
    never : w ≢ x → x ≢ w → ⊥
    never d e = not_met v u w x (m.first x n.near n.other e) (n.first w m.near m.other d)

    by_order : PtOrder w x → w ≡ x
    by_order (before h) = absurd (never (apart w x h) (λ e. apart w x h (sym e)))
    by_order (equal e) = e
    by_order (after h) = absurd (never (λ e. apart x w h (sym e)) (apart x w h))

-- ---- round a ring, each edge begins where the one before it ends
abbrev Meets : Corner → Type 0
Meets c = c.comes.to ≡ c.goes.from

meet_along : (x y : Pt) (ys : List Pt) (z w : Pt) → All Meets (along corner (from_to x y) (along from_to y ys z) (from_to z w))
meet_along x y [] z w = All-cons Meets (corner (from_to x y) (from_to y z)) (corner (from_to y z) (from_to z w) ∷ []) refl (All-cons Meets (corner (from_to y z) (from_to z w)) [] refl (All-nil Meets))
meet_along x y (t ∷ ys) z w = All-cons Meets (corner (from_to x y) (from_to y t)) (along corner (from_to y t) (along from_to t ys z) (from_to z w)) refl (meet_along y t ys z w)

corners_meet : (ring : List Pt) → All Meets (ring_corners ring)
corners_meet [] = All-nil Meets
corners_meet (x ∷ []) = All-cons Meets (corner (from_to x x) (from_to x x)) [] refl (All-nil Meets)
corners_meet (x ∷ y ∷ ys) = meet_along x y ys x y

-- ---- a walk is one
module _ (directed : List DirectedEdge) where
  abbrev Steps : Corner → Type 0
  Steps c = Meets c × Follows directed c

  both : (cs : List Corner) → All Meets cs → All (Follows directed) cs → All Steps cs
  both cs m f k d l = (m k d l, f k d l)

  one_step : (x d e : DirectedEdge) → Steps (corner x d) → Steps (corner x e) → d ≡ e
  one_step x d e s t = joined (sym s.0 ∙ t.0) (one_next directed x.from x.to d.to e.to s.1 t.1)
    where
      joined : d.from ≡ e.from → d.to ≡ e.to → d ≡ e
      joined h k i = record { from = h i; to = k i }

  -- from x on, two walks that reach d at their ends, and not before
  same_walk : (d x : DirectedEdge) (ds es : List DirectedEdge) → All Steps (along corner x ds d) → All Steps (along corner x es d) → ¬ (In d ds) → ¬ (In d es) → ds ≡ es
  same_walk d x [] [] s t n m = refl
  same_walk d x [] (e ∷ es) s t n m = absurd (m (inl (one_step x e d (All-head Steps (corner x e) (along corner e es d) t) (All-head Steps (corner x d) [] s))))
  same_walk d x (c ∷ ds) [] s t n m = absurd (n (inl (one_step x c d (All-head Steps (corner x c) (along corner c ds d) s) (All-head Steps (corner x d) [] t))))
  same_walk d x (c ∷ ds) (e ∷ es) s t n m =
      let q : c ≡ e = one_step x c e (All-head Steps (corner x c) (along corner c ds d) s) (All-head Steps (corner x e) (along corner e es d) t) in
      let r : ds ≡ es = same_walk d c ds es (All-tail Steps (corner x c) (along corner c ds d) s) (subst (λ (y : DirectedEdge). All Steps (along corner y es d)) (sym q) (All-tail Steps (corner x e) (along corner e es d) t)) (λ i. n (inr i)) (λ i. m (inr i)) in
      ap (λ y. y ∷ ds) q ∙ ap (λ ys. e ∷ ys) r

-- ---- a ring begun at one of its edges
starts_along : (x : Pt) (ys : List Pt) (z : Pt) → map (λ (e : DirectedEdge). e.from) (along from_to x ys z) ≡ x ∷ ys
starts_along x [] z = refl
starts_along x (y ∷ ys) z = ap (λ t. x ∷ t) (starts_along y ys z)

starts : (ring : List Pt) → map (λ (e : DirectedEdge). e.from) (ring_edges ring) ≡ ring
starts [] = refl
starts (x ∷ xs) = starts_along x xs x

pub record Split {X : Type 0} (x : X) (xs : List X) : Type 0 where
  pub front : List X
  pub back : List X
  pub is : xs ≡ front ++ x ∷ back

pub split_at : {X : Type 0} (x : X) (xs : List X) → In x xs → Split x xs
split_at x [] i = absurd i
split_at x (y ∷ ys) (inl e) = record { front = []; back = ys; is = ap (λ t. t ∷ ys) e }
split_at x (y ∷ ys) (inr i) = let s = split_at x ys i in record { front = y ∷ s.front; back = s.back; is = ap (λ t. y ∷ t) s.is }

once : {X : Type 0} (front : List X) (x : X) (back : List X) → Distinct (front ++ x ∷ back) → In x (back ++ front) → ⊥
once {X} front x back d i = by_side (either back front i)
  where
    either : (ys zs : List X) → In x (ys ++ zs) → In x ys ⊎ In x zs
    either [] zs i = inr i
    either (y ∷ ys) zs (inl e) = inl (inl e)
    either (y ∷ ys) zs (inr i) = ⊎_elim (λ j. inl (inr j)) (λ j. inr j) (either ys zs i)

    late : (ys : List X) → Distinct (ys ++ x ∷ back) → In x back → ⊥
    late [] d i = d.0 i
    late (y ∷ ys) d i = late ys d.1 i

    middle : (ys : List X) → In x (ys ++ x ∷ back)
    middle [] = inl refl
    middle (y ∷ ys) = inr (middle ys)

    early : (ys : List X) → Distinct (ys ++ x ∷ back) → In x ys → ⊥
    early [] d i = i
    early (y ∷ ys) d (inl e) = d.0 (subst (λ t. In t (ys ++ x ∷ back)) (sym e) (middle ys))
    early (y ∷ ys) d (inr i) = early ys d.1 i

    by_side : In x back ⊎ In x front → ⊥
    by_side (inl i) = late front d i
    by_side (inr i) = early front d i

-- a ring that follows the rule, begun at d: rest are its other edges
record Begun (directed : List DirectedEdge) (ring : List Pt) (d : DirectedEdge) (rest : List DirectedEdge) : Type 0 where
  steps : All (Steps directed) (along corner d rest d)
  fresh : ¬ (In d rest)
  rotation : IsRotation ring (map (λ (e : DirectedEdge). e.from) (d ∷ rest))

begun : (directed : List DirectedEdge) (ring : List Pt) (d : DirectedEdge) → All (Follows directed) (ring_corners ring) → Distinct (ring_edges ring) → In d (ring_edges ring) → (rest : List DirectedEdge) × Begun directed ring d rest
begun directed ring d f u i = (
  s.back ++ s.front,
  record {
    steps = All-permutation (Steps directed) (ring_corners ring) (around corner ((d ∷ s.back) ++ s.front)) turned (both directed (ring_corners ring) (corners_meet ring) f);
    fresh = once s.front d s.back (subst Distinct s.is u);
    rotation = record {
      front = map (λ (e : DirectedEdge). e.from) s.front;
      back = map (λ (e : DirectedEdge). e.from) (d ∷ s.back);
      was = sym (starts ring) ∙ ap (map (λ (e : DirectedEdge). e.from)) s.is ∙ map-append (λ (e : DirectedEdge). e.from) s.front (d ∷ s.back);
      is = map-append (λ (e : DirectedEdge). e.from) (d ∷ s.back) s.front;
    };
  },
)
  where
    s : Split d (ring_edges ring)
    s = split_at d (ring_edges ring) i

    turned : IsPermutation (ring_corners ring) (around corner ((d ∷ s.back) ++ s.front))
    turned = subst (λ (es : List DirectedEdge). IsPermutation (around corner es) (around corner ((d ∷ s.back) ++ s.front))) (sym s.is) (around-rotation corner s.front (d ∷ s.back))

same_begun : (directed : List DirectedEdge) (r s : List Pt) (d : DirectedEdge) (ds es : List DirectedEdge) → Begun directed r d ds → Begun directed s d es → IsRotation r s
same_begun directed r s d ds es b c = rotation_trans r (map (λ (e : DirectedEdge). e.from) (d ∷ es)) s
    (subst (λ (l : List DirectedEdge). IsRotation r (map (λ (e : DirectedEdge). e.from) (d ∷ l))) (same_walk directed d d ds es b.steps c.steps b.fresh c.fresh) b.rotation)
    (rotation_back s (map (λ (e : DirectedEdge). e.from) (d ∷ es)) c.rotation)

-- ---- the rings
module _ (directed : List DirectedEdge) (asc : AllPairs IsDirectedBefore directed) where
  same_ring : (rs ts : List (List Pt)) → AreRings directed rs → AreRings directed ts → (r s : List Pt) (d : DirectedEdge) → Contains rs r → Contains ts s → In d (ring_edges r) → In d (ring_edges s) → r ≡ s
  same_ring rs ts ar at r s d i j k l =
      let b = begun directed r d (All-contains (λ ring. All (Follows directed) (ring_corners ring)) rs r ar.follow i) (simple_distinct (ring_edges r) (ring_simple directed rs asc ar r i)) k in
      let c = begun directed s d (All-contains (λ ring. All (Follows directed) (ring_corners ring)) ts s at.follow j) (simple_distinct (ring_edges s) (ring_simple directed ts asc at s j)) l in
      let turned : IsRotation r s = same_begun directed r s d b.0 c.0 b.1 c.1 in
      neither_list_before r s (λ h. (All-contains (λ ring. IsLeastRotation ring ring) ts s at.least j).none_less r (rotation_back r s turned) h)
      (λ h. (All-contains (λ ring. IsLeastRotation ring ring) rs r ar.least i).none_less s turned h)

  -- a ring of the one list is in the other
  also_in : (rs ts : List (List Pt)) → AreRings directed rs → AreRings directed ts → (r : List Pt) → ¬ (r ≡ []) → Contains rs r → Contains ts r
  also_in rs ts ar at r n i =
      let e = some_edge r n in
      let m = flat_in ring_edges ts e.0 (in_permutation directed (flat_map ring_edges ts) e.0 at.together (in_permutation (flat_map ring_edges rs) directed e.0 (IsPermutation-sym directed (flat_map ring_edges rs) ar.together) (in_flat ring_edges rs r e.0 (contains_in rs r i) e.1))) in
      subst (Contains ts) (sym (same_ring rs ts ar at r m.0 e.0 i (in_contains ts m.0 m.1) e.1 m.2)) (in_contains ts m.0 m.1)

  pub same_rings : (rs ts : List (List Pt)) → AreRings directed rs → AreRings directed ts → ¬ (Contains rs []) → ¬ (Contains ts []) → rs ≡ ts
  same_rings rs ts ar at n m = same_ascending IsListBefore list_before_itself list_before_trans rs ts ar.ascending at.ascending
      (λ r i. also_in rs ts ar at r (λ e. n (subst (Contains rs) e i)) i) (λ r i. also_in ts rs at ar r (λ e. m (subst (Contains ts) e i)) i)
