-- The places of edges that go to the right, and the nearest edges below their starts.
use Rattle.std.proofs.Common.{◌≡◌, inl, inr, ℕ, ◌+◌, ◌<◌, List, [], ◌∷◌, ◌++◌, length, get_or, subst, ap, ◌∙◌, arith}
use Rattle.std.specs.Prelude.{◌≤ℤ◌, All, AllPairs, Contains, Option, None}
use Rattle.std.proofs.lemmas.Bool.{cases_eq, cases_lt}
use Rattle.std.proofs.lemmas.Int.{ints}
use Rattle.std.proofs.lemmas.List.{get_or-map, get_or_default, length-map}
use Rattle.std.proofs.lemmas.List.Elements.{All-map, All-push, All-weaker, Contains-append_left, Contains-push}
use Rattle.std.proofs.lemmas.List.Quantifiers.{all_pairs_push}
use Rattle.geom.specs.declared.directed.DirectedEdge.{DirectedEdge}
use Rattle.geom.specs.declared.point.Pt.{Pt}
use Rattle.geom.specs.Directed.{IsDirectedBefore}
use Rattle.geom.specs.Limit.{AreInLimit, InLimit}
use Rattle.parts_law.specs.Bounds.{GoesRight}
use Rattle.polygonize.specs.Below.{AreEdgesBelow, IsEdgeBelow, vertex_at}
use Rattle.polygonize.specs.Column.{StandFromLeft}
use Rattle.polygonize.specs.Next.{edge_at, nothing, ring_of}
use Rattle.strip_polygons.specs.declared.classes.Link.{Link}
use Rattle.strip_polygons.specs.Parting.{AddsTies, AreRightward, LinkUnder, LinksLower}

module _ (directed : List DirectedEdge) where
  abbrev IsRightwardBelow : ℕ → ℕ → Type 0
  IsRightwardBelow n k = (k < n) × GoesRight (edge_at directed k)

  -- ---- one edge after another
  more : (n : ℕ) (places : List ℕ) → AreRightward directed n places → All (IsRightwardBelow (n + 1)) places
  more n places h = All-weaker (IsRightwardBelow n) (IsRightwardBelow (n + 1)) (λ k g. (let l = g.0 in omega arith, g.1)) places h.sound

  pub one_rightward : (n : ℕ) (places : List ℕ) → GoesRight (edge_at directed n) → AreRightward directed n places
      → AreRightward directed (n + 1) (places ++ n ∷ [])
  one_rightward n places goes h = record {
    sound = All-push (IsRightwardBelow (n + 1)) places n (more n places h) (omega arith, goes);
    each = λ k below right. elim (cases_lt k n) [
      | inl b ↦ Contains-append_left places (n ∷ []) k (h.each k b right)
      | inr b ↦ (let s : n ≡ k = omega arith in let P : ℕ → Type 0 = Contains (places ++ n ∷ []) in subst P s (Contains-push places n))
    ];
    ascending = all_pairs_push (λ j k. j < k) places n h.ascending (λ k d i. (h.sound k d i).0);
  }

  pub none_rightward : (n : ℕ) (places : List ℕ) → ¬ (GoesRight (edge_at directed n)) → AreRightward directed n places
      → AreRightward directed (n + 1) places
  none_rightward n places left h = record {
    sound = more n places h;
    each = λ k below right. elim (cases_lt k n) [
      | inl b ↦ h.each k b right
      | inr b ↦ (let s : k ≡ n = omega arith in let P : ℕ → Type 0 = λ t. GoesRight (edge_at directed t) in absurd (left (subst P s right)))
    ];
    ascending = h.ascending;
  }

  -- ---- their starts
  pub starts_in : (places : List ℕ) → AreRightward directed (length directed) places → All (λ d. AreInLimit d.from d.to) directed
      → All InLimit (ring_of directed places)
  starts_in places h in_limit = All-map InLimit (λ k. (edge_at directed k).from) places
      (λ k d i. (in_limit (get_or places k d) nothing (h.sound k d i).0).a_in)

  pub start_is : (places : List ℕ) (k : ℕ) (v : Pt) → k < length places
      → get_or (ring_of directed places) k v ≡ (edge_at directed (get_or places k 0)).from
  start_is places k v h = get_or-map (λ k. (edge_at directed k).from) places k 0 v h

  not_left : (d e : DirectedEdge) → IsDirectedBefore d e → d.from.x ≤ℤ e.from.x
  not_left d e (inl h) = h.column
  not_left d e (inr h) = let s = ap (λ (p : Pt). p.x) h.0 in omega (arith, ints)

  pub starts_from_left : (places : List ℕ) → AreRightward directed (length directed) places → AllPairs IsDirectedBefore directed
      → StandFromLeft (ring_of directed places)
  starts_from_left places h ascending i j low high = elim (cases_eq i j) [
    | inl e ↦ (let P : ℕ → Type 0 = λ t. (vertex_at (ring_of directed places) i).x ≤ℤ (vertex_at (ring_of directed places) t).x in
        subst P e (omega (arith, ints)))
    | inr o ↦ (let many = length-map places (λ k. (edge_at directed k).from) in
        let inside : j < length places = omega (arith, many, high) in
        let before = h.ascending i j 0 (omega (arith, low, o)) inside in
        let columns = not_left (edge_at directed (get_or places i 0)) (edge_at directed (get_or places j 0))
        (ascending (get_or places i 0) (get_or places j 0) nothing before (h.sound j 0 inside).0) in
        rw (start_is places i nothing.from (omega (arith, low, inside)), start_is places j nothing.from inside) columns)
  ]

  pub starts_are : (places found : List ℕ) (starts given : List Pt) → given ≡ starts → starts ≡ ring_of directed found → found ≡ places
      → given ≡ ring_of directed places
  starts_are places found starts given g s f = g ∙ s ∙ ap (ring_of directed) f

  -- ---- the edges below them
  pub below_inside : (places : List ℕ) (starts : List Pt) (below : List (Option ℕ)) (n : ℕ) → starts ≡ ring_of directed places
      → AreEdgesBelow directed starts below → n < length places → n < length below
  below_inside places starts below n same are h = let many = ap (λ (vs : List Pt). length vs) same in
      omega (arith, h, many, are.same_length, length-map places (λ k. (edge_at directed k).from))

  pub below_start : (places : List ℕ) (starts : List Pt) (below : List (Option ℕ)) (n : ℕ) → starts ≡ ring_of directed places
      → AreEdgesBelow directed starts below → n < length places
      → IsEdgeBelow directed (edge_at directed (get_or places n 0)).from (get_or below n None)
  below_start places starts below n same are h = let P : Pt → Type 0 = λ v. IsEdgeBelow directed v (get_or below n None) in
      subst P (ap (λ (vs : List Pt). vertex_at vs n) same ∙ start_is places n nothing.from h)
      (are.each n (rw same (omega (arith, length-map places (λ k. (edge_at directed k).from), h))))

  pub lower_kept : (old new : List Link) (j : ℕ) → AddsTies directed old new → LinksLower directed old j → LinksLower directed new j
  lower_kept old new j a (inl h) = inl h
  lower_kept old new j a (inr h) = inr (record { place = h.place; inside = h.inside; nearest = h.nearest; linked = λ g. a.kept _ (h.linked g) })

  -- the first n of the edges at the places are linked to the ones below them
  abbrev pub AreLowerLinked : List ℕ → ℕ → List Link → Type 0
  AreLowerLinked places n links = (m : ℕ) → m < n → LinksLower directed links (get_or places m 0)

  pub one_lower_linked : (places : List ℕ) (n : ℕ) (old new : List Link) → AddsTies directed old new → LinksLower directed new (get_or places n 0)
      → AreLowerLinked places n old → AreLowerLinked places (n + 1) new
  one_lower_linked places n old new a here h m below = elim (cases_lt m n) [
    | inl b ↦ lower_kept old new (get_or places m 0) a (h m b)
    | inr b ↦ (let s : n ≡ m = omega arith in let P : ℕ → Type 0 = λ t. LinksLower directed new (get_or places t 0) in subst P s here)
  ]

  pub all_lower_linked : (places : List ℕ) (links : List Link) → AreRightward directed (length directed) places
      → AreLowerLinked places (length places) links → LinkUnder directed links
  all_lower_linked places links are h j inside right = by_place (are.each j inside right)
    where
      by_place : Contains places j → LinksLower directed links j
      by_place (m, below, is) = subst (LinksLower directed links) (get_or_default places m 0 j below ∙ is) (h m below)
