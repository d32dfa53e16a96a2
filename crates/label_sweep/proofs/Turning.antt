-- The edges that begin at a vertex, sorted by steepness.
use Rattle.std.proofs.Common.{◌≡◌, ℕ, ◌+◌, ◌-◌, ◌<◌, Bool, true, false, not, List, map, length, get_or, drop, refl, sym, ap, ◌∙◌, subst, arith}
use Rattle.std.specs.List.{All, AllPairs, Contains, IsDistinct}
use Rattle.std.specs.List.Sorted.{IsPermutation, IsSortedBy, ties}
use Rattle.std.specs.Prelude.{◌&&◌, pos, slice_range}
use Rattle.std.proofs.Math.IntN.{ℤ}
use Rattle.std.proofs.lemmas.List.Elements.{All-contains}
use Rattle.std.proofs.lemmas.List.{get_or_default, get_or-drop, get_or-map, get_or-take, length-drop, length-map, length-take-le}
use Rattle.std.proofs.lemmas.List.Sorted.{Contains-permutation, IsPermutation-sym, sorted_far}
use Rattle.std.proofs.lemmas.Map.Keys.{IsDistinct-IsPermutation, IsDistinct-from_apart, apart_from_distinct}
use lib.Signed.{lt_z}
use Rattle.geom.specs.declared.point.Pt.{Pt}
use Rattle.geom.specs.declared.edge.Edge.{Edge}
use Rattle.geom.specs.declared.edge.Counted.{Counted}
use Rattle.geom.specs.EdgeOrder.{IsEdgeBefore}
use Rattle.geom.specs.Limit.{AreInLimit}
use Rattle.geom.specs.Rounded.{edges_of}
use Rattle.geom.proofs.Lists.{In, in_contains, contains_in, in_map, map_in}
use Rattle.geom.proofs.Orders.{edge_before_itself}
use Rattle.points_law.specs.Law.{AreLayers}
use Rattle.points_law.proofs.Choices.{◌⊕◌, run, rise}
use Rattle.points_law.proofs.Layers.{edges_in}
use Rattle.points_law.proofs.Meet.{slope}
use Rattle.points_law.proofs.Turn.{steep_p}
use Rattle.points_law.proofs.Vertex.{slopes}
use Rattle.label_sweep.specs.declared.standing.Spoke.{Spoke}
use Rattle.label_sweep.specs.Status.{AreSpokes, IsRangeAt, IsSteeper, is_steeper}
use Rattle.label_sweep.proofs.Members.{all_of_in, map_pairs}
use Rattle.label_sweep.proofs.Steepness.{comes_first, passed, steepness}
use Rattle.label_sweep.proofs.Words.{turn_is}

abbrev pub edge_at : Spoke → Edge
edge_at s = s.one.edge

-- ---- of two that begin at one vertex one is steeper
pub no_tie : (x y : Bool) → x ⊕ y ≡ true → not x && not y ≡ false
no_tie x y h = grind arith

pub flipped : (x y : Bool) → x && y ≡ y && x
flipped x y = grind arith

pub second : (x y : Bool) → y ≡ false → not x && not y ≡ false → x ≡ true
second x y h i = grind arith

ties_flip : (s t : Spoke) → ties comes_first s t ≡ ties comes_first t s
ties_flip s t = flipped (not (comes_first s t)) (not (comes_first t s))

tests_as : (f g : Edge) → lt_z (pos 0) (slope f g) ≡ is_steeper f g
tests_as f g = ap (λ (t : ℤ). lt_z (pos 0) t) (sym (turn_is (run f) (rise f) (run g) (rise g)))

-- ---- the edges that begin at a vertex, as they are listed
-- those of a range
pub spokes_inside : (own : List Counted) (from next : ℕ) (ss sorted : List Spoke) → map (λ (s : Spoke). s.one) ss ≡ slice_range own from next → IsPermutation ss sorted
    → All (λ s. Contains (slice_range own from next) s.one) sorted
spokes_inside own from next ss sorted e p = let P : List Counted → Type 0 = λ t. (c : Counted) → In c t → Contains (slice_range own from next) c in
    all_of_in (λ s. Contains (slice_range own from next) s.one) sorted (λ s i. subst P (sym e) (λ c j. in_contains (slice_range own from next) c j) s.one
    (map_in (λ (s : Spoke). s.one) ss s (contains_in ss s (Contains-permutation sorted ss s (IsPermutation-sym ss sorted p) (in_contains sorted s i)))))

module _ (cs own : List Counted) (h : AreLayers cs) (v : Pt) (from next : ℕ) (r : IsRangeAt cs own v from next) (ss : List Spoke) (e : map (λ (s : Spoke). s.one) ss ≡ slice_range own from next) where
  begins : (s : Spoke) → In s ss → Contains cs s.one × (s.one.edge.p ≡ v)
  begins s i = let P : List Counted → Type 0 = λ t. In s.one t in
      (r.exact s.one).0 (in_contains (slice_range own from next) s.one (subst P e (map_in (λ (s : Spoke). s.one) ss s i)))

  edge_in : (c : Counted) → Contains cs c → In c.edge (edges_of cs)
  edge_in c k = map_in (λ c. c.edge) cs c (contains_in cs c k)

  inside : (k : ℕ) (d : Spoke) → k < length ss → In (get_or ss k d) ss
  inside k d l = contains_in ss (get_or ss k d) (k, l, get_or_default ss k (get_or ss k d) d l)

  length_is : length ss ≡ next - from
  length_is = sym (length-map ss (λ (s : Spoke). s.one)) ∙ ap length e ∙ length-take-le (next - from) (drop from own) (omega (arith, length-drop from own, r.within))

  one_at : (k : ℕ) (d : Spoke) → k < length ss → (get_or ss k d).one ≡ get_or own (from + k) d.one
  one_at k d l = sym (get_or-map (λ (s : Spoke). s.one) ss k d d.one l) ∙ ap (λ (t : List Counted). get_or t k d.one) e
      ∙ get_or-take (next - from) (drop from own) k d.one (omega (arith, length_is)) ∙ get_or-drop from own k d.one

  differs : (i j : ℕ) (d : Spoke) → i < j → j < length ss → ¬ ((get_or ss i d).one.edge ≡ (get_or ss j d).one.edge)
  differs i j d l m k =
      let b : IsEdgeBefore (get_or own (from + i) d.one).edge (get_or own (from + j) d.one).edge = r.ascending (from + i) (from + j) d.one (omega arith) (omega (arith, length_is, r.order, r.within)) in
      let P : Counted → Type 0 = λ c. IsEdgeBefore c.edge (get_or own (from + j) d.one).edge in
      let Q : Counted → Type 0 = λ c. IsEdgeBefore (get_or ss i d).one.edge c.edge in
      let R : Edge → Type 0 = λ g. IsEdgeBefore g (get_or ss j d).one.edge in
      edge_before_itself (get_or ss j d).one.edge (subst R k (subst Q (sym (one_at j d m)) (subst P (sym (one_at i d (omega arith))) b)))

  apart : (i j : ℕ) (d : Spoke) → i < j → j < length ss → ties comes_first (get_or ss i d) (get_or ss j d) ≡ false
  apart i j d l m =
      let s = get_or ss i d in
      let t = get_or ss j d in
      let b = begins s (inside i d (omega arith)) in
      let c = begins t (inside j d m) in
      let x : lt_z (pos 0) (slope s.one.edge t.one.edge) ⊕ lt_z (pos 0) (slope t.one.edge s.one.edge) ≡ true
      = steep_p (edges_of cs) (edges_in cs h) s.one.edge t.one.edge (edge_in s.one b.0) (edge_in t.one c.0) (differs i j d l m) (b.1 ∙ sym c.1) (slopes s.one.edge) (slopes t.one.edge) refl refl in
      no_tie (comes_first s t) (comes_first t s) (sym ((λ i. tests_as s.one.edge t.one.edge i ⊕ tests_as t.one.edge s.one.edge i)) ∙ x)

  -- ---- and sorted
  module _ (sorted : List Spoke) (p : IsPermutation ss sorted) (o : IsSortedBy comes_first sorted) where
    was : (s : Spoke) → In s sorted → In s ss
    was s i = contains_in ss s (Contains-permutation sorted ss s (IsPermutation-sym ss sorted p) (in_contains sorted s i))

    stays : (s : Spoke) → In s ss → In s sorted
    stays s i = contains_in sorted s (Contains-permutation ss sorted s p (in_contains ss s i))

    still_apart : IsDistinct (ties comes_first) sorted
    still_apart = IsDistinct-IsPermutation (ties comes_first) ties_flip ss sorted p (IsDistinct-from_apart (ties comes_first) ss apart)

    steeper_first : (i j : ℕ) (d : Spoke) → i < j → j < length sorted → IsSteeper (get_or sorted i d).one.edge (get_or sorted j d).one.edge
    steeper_first i j d l m = passed _ (second (comes_first (get_or sorted i d) (get_or sorted j d)) (comes_first (get_or sorted j d) (get_or sorted i d))
        (sorted_far comes_first steepness sorted o i j d (omega arith) m) (apart_from_distinct (ties comes_first) sorted i j d still_apart l m))

    in_order : AllPairs IsSteeper (map edge_at sorted)
    in_order = map_pairs IsSteeper edge_at sorted steeper_first

    spoke_of : (c : Counted) → Contains cs c → c.edge.p ≡ v → In c (map (λ (s : Spoke). s.one) ss)
    spoke_of c i b = let P : List Counted → Type 0 = λ t. In c t in subst P (sym e) (contains_in (slice_range own from next) c ((r.exact c).1 (i, b)))

    sound_after : (f : Edge) → Contains (map edge_at sorted) f → Contains (edges_of cs) f × (f.p ≡ v)
    sound_after f j = let k = in_map edge_at sorted f (contains_in (map edge_at sorted) f j) in let b = begins k.0 (was k.0 k.1) in
        subst (λ (f : Edge). Contains (edges_of cs) f × (f.p ≡ v)) k.2 (in_contains (edges_of cs) k.0.one.edge (edge_in k.0.one b.0), b.1)

    complete_after : (f : Edge) → Contains (edges_of cs) f → f.p ≡ v → Contains (map edge_at sorted) f
    complete_after f j b = let k = in_map (λ c. c.edge) cs f (contains_in (edges_of cs) f j) in
        let m = in_map (λ (s : Spoke). s.one) ss k.0 (spoke_of k.0 (in_contains cs k.0 k.1) (ap (λ (f : Edge). f.p) k.2 ∙ b)) in
        subst (λ (f : Edge). Contains (map edge_at sorted) f) (ap (λ (c : Counted). c.edge) m.2 ∙ k.2) (in_contains (map edge_at sorted) m.0.one.edge (map_in edge_at sorted m.0 (stays m.0 m.1)))

    pub are_spokes : AreSpokes (edges_of cs) v (map edge_at sorted)
    are_spokes = record { exact = λ f. ((λ j. sound_after f j), (λ k. complete_after f k.0 k.1)); order = in_order }

-- ---- each of those that are listed
pub limit_at : (cs : List Counted) → All (λ (e : Edge). AreInLimit e.p e.q) (edges_of cs) → (i : ℕ) (r : Counted) → i < length cs → r ≡ get_or cs i r → AreInLimit r.edge.p r.edge.q
limit_at cs h i r l e = All-contains (λ f. AreInLimit f.p f.q) (edges_of cs) r.edge h (in_contains (edges_of cs) r.edge (map_in (λ c. c.edge) cs r (contains_in cs r (i, l, sym e))))
