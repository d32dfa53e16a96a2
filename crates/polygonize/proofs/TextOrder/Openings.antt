-- Written rings are told apart by their openings, which stand in the order of the rings.
use Rattle.std.proofs.Common.{◌≡◌, ◌≢◌, ◌⊎◌, ℕ, ◌+◌, ◌<◌, ◌≤◌, Bool, true, false, cond, List, [], ◌∷◌, length, map, refl, sym, ◌∙◌, ap, subst, inl, inr, arith}
use Rattle.std.specs.Prelude.{◌&&◌, All, IsPermutation, count_by, flat_map, sum_by}
use Rattle.std.specs.List.Sorted.{IsSortedByKey}
use Rattle.std.proofs.lemmas.Bool.{cases_lt}
use Rattle.std.proofs.lemmas.List.Elements.{All-head, All-tail}
use Rattle.std.proofs.lemmas.List.Sums.{sum_by-append, sum_by-cons}
use Rattle.std.proofs.lemmas.List.Sorted.{IsPermutation-map, sum_by-IsPermutation}
use Rattle.geom.specs.declared.directed.DirectedEdge.{DirectedEdge}
use Rattle.geom.specs.Directed.{from_to, IsDirectedBefore, AreDirected}
use Rattle.geom.specs.ListOrder.{IsListBefore}
use Rattle.geom.specs.Rings.{ring_edges}
use Rattle.geom.specs.Segments.{same_point}
use Rattle.geom.proofs.Lists.{In, count-cons, counts_some, in_map, some_passes}
use Rattle.geom.proofs.Points.{and_both, both_and, same_point_refl, same_point_true}
use Rattle.polygonize.specs.declared.written.Opening.{Opening}
use Rattle.polygonize.specs.Next.{edge_at, ring_of}
use Rattle.polygonize.specs.Number.{IsVertex}
use Rattle.polygonize.specs.Placed.{PlacedRing, opening_of}
use Rattle.polygonize.specs.Written.{HaveEdges, IsCanonical, IsSound}
use Rattle.polygonize.proofs.Least.{vertex_order}
use Rattle.polygonize.proofs.Numbers.{same_vertex}
use Rattle.polygonize.proofs.TextOrder.Places.{OpeningLess, PlaceLess, pairs_ascend, place_cmp, sorted_places}
use Rattle.polygonize.proofs.CycleRings.{less_not}
use Rattle.polygonize.proofs.Sorted.{Ascend}

-- ---- each edge once
same_edge : DirectedEdge → DirectedEdge → Bool
same_edge d e = same_point e.from d.from && same_point e.to d.to

is_same : (d e : DirectedEdge) → same_edge d e ≡ true → e ≡ d
unfolding same_edge
is_same d e h = let b = and_both (same_point e.from d.from) (same_point e.to d.to) h in λ i. record { from = same_point_true e.from d.from b.0 i; to = same_point_true e.to d.to b.1 i }

same_itself : (d : DirectedEdge) → same_edge d d ≡ true
unfolding same_edge
same_itself d = both_and (same_point d.from d.from) (same_point d.to d.to) (same_point_refl d.from) (same_point_refl d.to)

never_itself : (d : DirectedEdge) → ¬ (IsDirectedBefore d d)
never_itself d (inl h) = less_not d.from d.from h h
never_itself d (inr h) = less_not d.to d.to h.1 h.1

once : (x : DirectedEdge) (ds : List DirectedEdge) → Ascend IsDirectedBefore ds → count_by (same_edge x) ds ≤ 1
once x [] a = omega arith
once x (d ∷ ds) a = let P : ℕ → Type 0 = λ n. n ≤ 1 in subst P (sym (count-cons (same_edge x) d ds)) (by_test (same_edge x d) refl (once x ds a.1))
  where
    at_most : (n : ℕ) → ¬ (0 < n) → 1 + n ≤ 1
    at_most n h = elim (cases_lt 0 n) [ inl k ↦ absurd (h k) | inr k ↦ omega (arith, k) ]

    none : d ≡ x → ¬ (0 < count_by (same_edge x) ds)
    none e h = let p = some_passes (same_edge x) ds h in let P : DirectedEdge → Type 0 = λ t. IsDirectedBefore d t in never_itself d (subst P (is_same x p.0 p.2 ∙ sym e) (a.0 p.0 p.1))

    by_test : (t : Bool) → same_edge x d ≡ t → count_by (same_edge x) ds ≤ 1 → cond t 1 0 + count_by (same_edge x) ds ≤ 1
    by_test true e n = at_most (count_by (same_edge x) ds) (none (is_same x d e))
    by_test false e n = omega (arith, n)

-- the edges of the rings
abbrev edges_of : List DirectedEdge → List (List ℕ) → List DirectedEdge
edges_of ds rings = flat_map ring_edges (map (ring_of ds) rings)

count_flat : {X Y Z : Type 0} (test : Z → Bool) (f : Y → List Z) (g : X → Y) (xs : List X) → count_by test (flat_map f (map g xs)) ≡ sum_by (λ x. count_by test (f (g x))) xs
count_flat test f g [] = refl
count_flat test f g (x ∷ xs) = sum_by-append (λ y. cond (test y) 1 0) (f (g x)) (flat_map f (map g xs)) ∙ ap (λ n. count_by test (f (g x)) + n) (count_flat test f g xs) ∙ sym (sum_by-cons (λ x. count_by test (f (g x))) x xs)

-- in whatever order they stand
each_once : (ds : List DirectedEdge) → AreDirected ds → (rings sorted : List (List ℕ)) → HaveEdges ds rings → IsPermutation rings sorted → (x : DirectedEdge) → count_by (same_edge x) (edges_of ds sorted) ≤ 1
each_once ds a rings sorted h p x = let P : ℕ → Type 0 = λ n. n ≤ 1 in subst P (sym same) (once x ds (pairs_ascend IsDirectedBefore ds a.ascending))
  where
    same : count_by (same_edge x) (edges_of ds sorted) ≡ count_by (same_edge x) ds
    same = count_flat (same_edge x) ring_edges (ring_of ds) sorted ∙ sum_by-IsPermutation (λ r. count_by (same_edge x) (ring_edges (ring_of ds r))) rings sorted p ∙ sym (count_flat (same_edge x) ring_edges (ring_of ds) rings)
        ∙ sum_by-IsPermutation (λ y. cond (same_edge x y) 1 0) ds (edges_of ds rings) h

-- ---- the first edge of a ring, by its opening
pub first_edge : List DirectedEdge → Opening → DirectedEdge
first_edge ds o = from_to (edge_at ds o.first).from (edge_at ds o.second).from

pub first_inside : (ds : List DirectedEdge) (ring : List ℕ) → 3 ≤ length ring → In (first_edge ds (opening_of ring)) (ring_edges (ring_of ds ring))
unfolding first_edge
first_inside ds [] h = absurd (omega arith)
first_inside ds (a ∷ []) h = absurd (omega arith)
first_inside ds (a ∷ b ∷ rest) h = inl refl

in_edges : (ds : List DirectedEdge) (rings : List (List ℕ)) (ring : List ℕ) (x : DirectedEdge) → In ring rings → In x (ring_edges (ring_of ds ring)) → 0 < count_by (same_edge x) (edges_of ds rings)
in_edges ds [] ring x i j = absurd i
in_edges ds (r ∷ rs) ring x (inl e) j = let c = sum_by-append (λ y. cond (same_edge x y) 1 0) (ring_edges (ring_of ds r)) (edges_of ds rs) in
    let P : List ℕ → Type 0 = λ t. In x (ring_edges (ring_of ds t)) in let n = counts_some (same_edge x) (ring_edges (ring_of ds r)) x (subst P (sym e) j) (same_itself x) in omega (arith, c, n)
in_edges ds (r ∷ rs) ring x (inr i) j = let c = sum_by-append (λ y. cond (same_edge x y) 1 0) (ring_edges (ring_of ds r)) (edges_of ds rs) in let n = in_edges ds rs ring x i j in omega (arith, c, n)

-- no two rings have one opening
apart : (ds : List DirectedEdge) (rings : List (List ℕ)) → ((x : DirectedEdge) → count_by (same_edge x) (edges_of ds rings) ≤ 1) → ((ring : List ℕ) → In ring rings → 3 ≤ length ring) → Ascend (λ r s. opening_of r ≢ opening_of s) rings
apart ds [] h l = tt
apart ds (r ∷ rs) h l = (
  (λ s i e. two s i e),
  apart ds rs (λ x. let c = sum_by-append (λ y. cond (same_edge x y) 1 0) (ring_edges (ring_of ds r)) (edges_of ds rs) in let n = h x in omega (arith, c, n)) (λ s i. l s (inr i)),
)
  where
    two : (s : List ℕ) → In s rs → opening_of r ≡ opening_of s → ⊥
    two s i e =
        let x = first_edge ds (opening_of r) in
        let P : Opening → Type 0 = λ t. In (first_edge ds t) (ring_edges (ring_of ds s)) in
        let j : In x (ring_edges (ring_of ds s)) = subst P (sym e) (first_inside ds s (l s (inr i))) in
        let here = counts_some (same_edge x) (ring_edges (ring_of ds r)) x (first_inside ds r (l r (inl refl))) (same_itself x) in
        let there = in_edges ds rs s x i j in
        let c = sum_by-append (λ y. cond (same_edge x y) 1 0) (ring_edges (ring_of ds r)) (edges_of ds rs) in
        let n = h x in
        omega (arith, here, there, c, n)

-- ---- in the order of openings
pub opening_before : (ds : List DirectedEdge) → AreDirected ds → (r s : List ℕ) → IsSound ds r → IsSound ds s → OpeningLess (opening_of r) (opening_of s) → IsListBefore (ring_of ds r) (ring_of ds s)
opening_before ds a [] s v w h = absurd (let l = v.long in omega arith)
opening_before ds a (i ∷ []) s v w h = absurd (let l = v.long in omega arith)
opening_before ds a (i ∷ j ∷ is) [] v w h = absurd (let l = w.long in omega arith)
opening_before ds a (i ∷ j ∷ is) (k ∷ []) v w h = absurd (let l = w.long in omega arith)
opening_before ds a (i ∷ j ∷ is) (k ∷ m ∷ ks) v w (inl h) = inl (vertex_order ds a i k (All-head (IsVertex ds) k (m ∷ ks) w.vertices) h)
opening_before ds a (i ∷ j ∷ is) (k ∷ m ∷ ks) v w (inr h) = inr (ap (λ n. (edge_at ds n).from) h.0, inl (vertex_order ds a j m (All-head (IsVertex ds) m ks (All-tail (IsVertex ds) k (m ∷ ks) w.vertices)) h.1))

-- the numbers of a ring are those of its points
pub same_numbers : (ds : List DirectedEdge) (xs ys : List ℕ) → All (IsVertex ds) xs → All (IsVertex ds) ys → ring_of ds xs ≡ ring_of ds ys → xs ≡ ys
same_numbers ds [] [] v w e = refl
same_numbers ds [] (y ∷ ys) v w e = cc
same_numbers ds (x ∷ xs) [] v w e = cc
same_numbers ds (x ∷ xs) (y ∷ ys) v w e =
    let h : (edge_at ds x).from ≡ (edge_at ds y).from = cc in
    let t : ring_of ds xs ≡ ring_of ds ys = cc in
    let p = same_vertex ds x y (All-head (IsVertex ds) x xs v) (All-head (IsVertex ds) y ys w) h in
    let q = same_numbers ds xs ys (All-tail (IsVertex ds) x xs v) (All-tail (IsVertex ds) y ys w) t in
    λ i. p i ∷ q i

-- ---- sorted by place
both : {X : Type 0} (R S T : X → X → Type 0) (xs : List X) → ((x y : X) → In x xs → In y xs → R x y → S x y → T x y) → Ascend R xs → Ascend S xs → Ascend T xs
both R S T [] f a b = tt
both R S T (x ∷ xs) f a b = ((λ y i. f x y (inl refl) (inr i) (a.0 y i) (b.0 y i)), both R S T xs (λ y z i j. f y z (inr i) (inr j)) a.1 b.1)

of_map : {X Y : Type 0} (S : Y → Y → Type 0) (f : X → Y) (xs : List X) → Ascend S (map f xs) → Ascend (λ x y. S (f x) (f y)) xs
of_map S f [] a = tt
of_map {X} S f (x ∷ xs) a = ((λ y i. a.0 (f y) (images xs y i)), of_map S f xs a.1)
  where
    images : (xs : List X) (y : X) → In y xs → In (f y) (map f xs)
    images [] y i = absurd i
    images (z ∷ xs) y (inl e) = inl (ap f e)
    images (z ∷ xs) y (inr i) = inr (images xs y i)

-- the places of written rings ascend strictly after the sort
pub strictly_sorted : (ds : List DirectedEdge) → AreDirected ds → (written ws : List PlacedRing) → HaveEdges ds (map (λ w. w.ring) written) → IsPermutation written ws → ((w : PlacedRing) → In w ws → IsCanonical ds w.ring) → ((w : PlacedRing) → In w ws → w.place.opening ≡ opening_of w.ring)
    → IsSortedByKey (λ w. w.place) place_cmp ws → Ascend (λ v w. PlaceLess v.place w.place) ws
strictly_sorted ds a written ws h p c o s = both (λ v w. (v.place ≡ w.place) ⊎ PlaceLess v.place w.place) (λ v w. opening_of v.ring ≢ opening_of w.ring) (λ v w. PlaceLess v.place w.place) ws strict
    (sorted_places (λ w. w.place) ws s)
    (of_map (λ r t. opening_of r ≢ opening_of t) (λ w. w.ring) ws (apart ds (map (λ w. w.ring) ws) (each_once ds a (map (λ w. w.ring) written) (map (λ w. w.ring) ws) h (IsPermutation-map (λ w. w.ring) written ws p)) long))
  where
    long : (ring : List ℕ) → In ring (map (λ w. w.ring) ws) → 3 ≤ length ring
    long ring i = let m = in_map (λ (w : PlacedRing). w.ring) ws ring i in let P : List ℕ → Type 0 = λ t. 3 ≤ length t in subst P m.2 (c m.0 m.1).sound.long

    strict : (v w : PlacedRing) → In v ws → In w ws → (v.place ≡ w.place) ⊎ PlaceLess v.place w.place → opening_of v.ring ≢ opening_of w.ring → PlaceLess v.place w.place
    strict v w i j (inl e) n = absurd (n (sym (o v i) ∙ ap (λ p. p.opening) e ∙ o w j))
    strict v w i j (inr l) n = l
