-- The edges that cross a column, sorted by height.
use Rattle.std.proofs.Common.{◌≡◌, inl, inr, ℕ, ◌<◌, Bool, true, false, not, cond, List, [], ◌∷◌, map, length, get_or, refl, sym, ap, ◌∙◌, subst, arith}
use Rattle.std.specs.List.{All, AllPairs, Contains, IsDistinct, filter}
use Rattle.std.specs.List.Sorted.{IsPermutation, IsSortedBy, ties}
use Rattle.std.specs.Prelude.{◌&&◌, ◌<ℤ◌, ◌≤ℤ◌, int_lt, int_le}
use Rattle.std.proofs.Math.IntN.{ℤ}
use Rattle.std.proofs.lemmas.Int.{ints}
use Rattle.std.proofs.lemmas.List.{get_or_default}
use Rattle.std.proofs.lemmas.List.Elements.{All-contains, All-contains_itself, All-filter}
use Rattle.std.proofs.lemmas.List.Kept.{AllPairs-filter}
use Rattle.std.proofs.lemmas.List.Sorted.{Contains-permutation, IsPermutation-sym, sorted_far}
use Rattle.std.proofs.lemmas.Map.Keys.{IsDistinct-IsPermutation, IsDistinct-from_apart, apart_from_distinct}
use Rattle.geom.specs.declared.edge.Edge.{Edge}
use Rattle.geom.specs.declared.edge.Counted.{Counted}
use Rattle.geom.specs.EdgeOrder.{IsEdgeBefore}
use Rattle.geom.specs.Rounded.{edges_of}
use Rattle.geom.proofs.Lists.{In, in_contains, contains_in, in_map, map_in}
use Rattle.geom.proofs.Orders.{edge_before_itself}
use Rattle.points_law.specs.Law.{AreLayers}
use Rattle.points_law.proofs.Layers.{edges_in}
use Rattle.label_sweep.specs.declared.column.CrossingEdge.{CrossingEdge}
use Rattle.label_sweep.specs.declared.standing.Spoke.{Spoke}
use Rattle.label_sweep.specs.Column.{AreCrossing, Crosses, HaveCrossing}
use Rattle.label_sweep.specs.Heights.{crosses}
use Rattle.label_sweep.specs.Status.{IsUnder}
use Rattle.label_sweep.proofs.Heights.{AtHeight, by_height, edge_of, higher_differs, is_higher, lower_is_under, one_higher}
use Rattle.label_sweep.proofs.Members.{all_of_in, in_of_all, map_pairs, pairs_of_map}
use Rattle.label_sweep.proofs.Turning.{flipped, no_tie, second}

abbrev pub one_of : CrossingEdge → Counted
one_of c = c.spoke.one

abbrev pub spoke_of : CrossingEdge → Spoke
spoke_of c = c.spoke

-- ---- those that pass a test
pub in_filter : {X : Type 0} (p : X → Bool) (xs : List X) (x : X) → In x xs → p x ≡ true → In x (filter p xs)
in_filter {X} p [] x i h = absurd i
in_filter {X} p (y ∷ ys) x (inl e) h = subst (λ (b : Bool). In x (cond b (y ∷ filter p ys) (filter p ys))) (sym (ap p e ∙ h)) (inl e)
in_filter {X} p (y ∷ ys) x (inr i) h = with_more (p y) (in_filter p ys x i h)
  where
    with_more : (b : Bool) → In x (filter p ys) → In x (cond b (y ∷ filter p ys) (filter p ys))
    with_more true i = inr i
    with_more false i = i

passes : (p q x : ℤ) → p <ℤ x → x ≤ℤ q → int_lt p x && int_le x q ≡ true
passes p q x h i = grind (arith, ints)

edges_are : (cs : List CrossingEdge) → map (λ (s : Spoke). s.one.edge) (map spoke_of cs) ≡ map edge_of cs
edges_are [] = refl
edges_are (c ∷ cs) = ap (λ (t : List Edge). edge_of c ∷ t) (edges_are cs)

ties_flip : (s t : CrossingEdge) → ties is_higher s t ≡ ties is_higher t s
ties_flip s t = flipped (not (is_higher s t)) (not (is_higher t s))

-- ---- the edges that cross, as they are listed
module _ (some : List Counted) (x : ℤ) (found : List CrossingEdge) (e : map one_of found ≡ filter (crosses x) some) (m : All (AtHeight x) found) where
  measured : (c : CrossingEdge) → In c found → AtHeight x c
  measured = in_of_all (AtHeight x) found m

  listed : (c : CrossingEdge) → In c found → Contains some (one_of c)
  listed c i = let P : List Counted → Type 0 = λ t. In (one_of c) t in
      in_of_all (Contains some) (filter (crosses x) some) (All-filter (crosses x) (Contains some) some (All-contains_itself some)) (one_of c) (subst P e (map_in one_of found c i))

  pub spokes_inside : (sorted : List CrossingEdge) → IsPermutation found sorted → (spokes : List Spoke) → spokes ≡ map spoke_of sorted → All (λ s. Contains some s.one) spokes
  spokes_inside sorted p spokes q = subst (All (λ (s : Spoke). Contains some s.one)) (sym q) (all_of_in (λ s. Contains some s.one) (map spoke_of sorted) (λ s i. let k = in_map spoke_of sorted s i in
      subst (λ (s : Spoke). Contains some s.one) k.2 (listed k.0 (contains_in found k.0 (Contains-permutation sorted found k.0 (IsPermutation-sym found sorted p) (in_contains sorted k.0 k.1))))))

  -- ---- of edges that have all that cross
  module _ (cs : List Counted) (h : AreLayers cs) (b : HaveCrossing cs x some) where
    edge_in : (c : CrossingEdge) → In c found → In (edge_of c) (edges_of cs)
    edge_in c i = map_in (λ c. c.edge) cs (one_of c) (contains_in cs (one_of c) (All-contains (Contains cs) some (one_of c) b.inside (listed c i)))

    inside : (k : ℕ) (d : CrossingEdge) → k < length found → In (get_or found k d) found
    inside k d l = contains_in found (get_or found k d) (k, l, get_or_default found k (get_or found k d) d l)

    ascending : AllPairs (λ c d. IsEdgeBefore (edge_of c) (edge_of d)) found
    ascending = pairs_of_map (λ c d. IsEdgeBefore c.edge d.edge) one_of found
        (subst (AllPairs (λ (c d : Counted). IsEdgeBefore c.edge d.edge)) (sym e) (AllPairs-filter (λ (c d : Counted). IsEdgeBefore c.edge d.edge) (crosses x) some b.ascending))

    apart : (i j : ℕ) (d : CrossingEdge) → i < j → j < length found → ties is_higher (get_or found i d) (get_or found j d) ≡ false
    apart i j d l k =
        let s = get_or found i d in
        let t = get_or found j d in
        let u = inside i d (omega arith) in
        let v = inside j d k in
        let P : Edge → Type 0 = λ g. IsEdgeBefore (edge_of s) g in
        no_tie (is_higher s t) (is_higher t s) (one_higher x t s (measured t v) (measured s u)
        ((edges_in cs h).noded (edge_of t) (edge_of s) (edge_in t v) (edge_in s u) (λ q. edge_before_itself (edge_of s) (subst P q (ascending i j d l k)))))

    -- ---- and sorted
    module _ (sorted : List CrossingEdge) (p : IsPermutation found sorted) (o : IsSortedBy is_higher sorted) where
      was : (c : CrossingEdge) → In c sorted → In c found
      was c i = contains_in found c (Contains-permutation sorted found c (IsPermutation-sym found sorted p) (in_contains sorted c i))

      stays : (c : CrossingEdge) → In c found → In c sorted
      stays c i = contains_in sorted c (Contains-permutation found sorted c p (in_contains found c i))

      still_apart : IsDistinct (ties is_higher) sorted
      still_apart = IsDistinct-IsPermutation (ties is_higher) ties_flip found sorted p (IsDistinct-from_apart (ties is_higher) found apart)

      higher_first : (i j : ℕ) (d : CrossingEdge) → i < j → j < length sorted → is_higher (get_or sorted i d) (get_or sorted j d) ≡ true
      higher_first i j d l k = second (is_higher (get_or sorted i d) (get_or sorted j d)) (is_higher (get_or sorted j d) (get_or sorted i d))
          (sorted_far is_higher by_height sorted o i j d (omega arith) k) (apart_from_distinct (ties is_higher) sorted i j d still_apart l k)

      at : (k : ℕ) (d : CrossingEdge) → k < length sorted → In (get_or sorted k d) found
      at k d l = was (get_or sorted k d) (contains_in sorted (get_or sorted k d) (k, l, get_or_default sorted k (get_or sorted k d) d l))

      differ : (i j : ℕ) (d : CrossingEdge) → i < j → j < length sorted → ¬ (edge_of (get_or sorted j d) ≡ edge_of (get_or sorted i d))
      differ i j d l k = higher_differs x (get_or sorted j d) (get_or sorted i d) (measured (get_or sorted j d) (at j d k)) (measured (get_or sorted i d) (at i d (omega arith))) (higher_first i j d l k)

      under : (i j : ℕ) (d : CrossingEdge) → i < j → j < length sorted → IsUnder (edge_of (get_or sorted j d)) (edge_of (get_or sorted i d))
      under i j d l k =
          let s = get_or sorted i d in
          let t = get_or sorted j d in
          let u = at i d (omega arith) in
          let v = at j d k in
          lower_is_under x t s (measured t v) (measured s u) ((edges_in cs h).noded (edge_of t) (edge_of s) (edge_in t v) (edge_in s u) (differ i j d l k)) (higher_first i j d l k)

      sound : (f : Edge) → Contains (map edge_of sorted) f → Crosses (edges_of cs) x f
      sound f j = let k = in_map edge_of sorted f (contains_in (map edge_of sorted) f j) in let i = was k.0 k.1 in let a = measured k.0 i in
          subst (Crosses (edges_of cs) x) k.2 (record { inside = in_contains (edges_of cs) (edge_of k.0) (edge_in k.0 i); begun = a.begun; lasts = a.lasts })

      found_at : (c : Counted) → In c cs → Crosses (edges_of cs) x c.edge → In c (map one_of found)
      found_at c i k = let P : List Counted → Type 0 = λ t. In c t in
          subst P (sym e) (in_filter (crosses x) some c (contains_in some c (b.all c (in_contains cs c i) k.begun k.lasts)) (passes c.edge.p.x c.edge.q.x x k.begun k.lasts))

      complete : (f : Edge) → Crosses (edges_of cs) x f → Contains (map edge_of sorted) f
      complete f k = let c = in_map (λ c. c.edge) cs f (contains_in (edges_of cs) f k.inside) in
          let i = in_map one_of found c.0 (found_at c.0 c.1 (subst (Crosses (edges_of cs) x) (sym c.2) k)) in
          subst (Contains (map edge_of sorted)) (ap (λ (c : Counted). c.edge) i.2 ∙ c.2) (in_contains (map edge_of sorted) (edge_of i.0) (map_in edge_of sorted i.0 (stays i.0 i.1)))

      are_crossing : AreCrossing (edges_of cs) x (map edge_of sorted)
      are_crossing = record {
        exact = λ f. ((λ j. sound f j), (λ k. complete f k));
        order = map_pairs (λ f g. IsUnder g f) edge_of sorted under;
        distinct = map_pairs (λ f g. ¬ (f ≡ g)) edge_of sorted (λ i j d l k e. differ i j d l k (sym e));
      }

      pub spokes_cross : (spokes : List Spoke) → spokes ≡ map spoke_of sorted → AreCrossing (edges_of cs) x (map (λ s. s.one.edge) spokes)
      spokes_cross spokes q = subst (AreCrossing (edges_of cs) x) (sym (ap (map (λ (s : Spoke). s.one.edge)) q ∙ edges_are sorted)) are_crossing
