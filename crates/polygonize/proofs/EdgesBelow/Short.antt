-- The edges that few vertices stand over: which places these have, and what is left.
use Rattle.std.proofs.Common.{◌≡◌, ℕ, ◌+◌, ◌<◌, ◌≤◌, inl, inr, refl, sym, ◌∙◌, subst, Option, List, [], ◌∷◌, ◌++◌, length, get_or, map, true, arith, int_le}
use Rattle.std.specs.Prelude.{All, AllPairs, Contains, ℤ, ◌≤ℤ◌, ◌<ℤ◌}
use Rattle.std.specs.Int.{int_max, int_min}
use Rattle.std.specs.List.Sorted.{IsPartitionedBy}
use Rattle.std.proofs.lemmas.Bool.{cases_lt}
use Rattle.std.proofs.lemmas.Int.{by_lt_z, int_max_is, int_min_is}
use Rattle.std.proofs.lemmas.List.{get_or_default, get_or-map, length-map}
use Rattle.std.proofs.lemmas.List.Elements.{Contains-append_left, Contains-push}
use Rattle.geom.specs.declared.point.Pt.{Pt}
use Rattle.geom.specs.declared.directed.DirectedEdge.{DirectedEdge}
use Rattle.geom.specs.Directed.{AreDirected}
use Rattle.geom.specs.Limit.{IsWithin, coordinate_limit}
use Rattle.geom.specs.Order.{IsBefore}
use Rattle.geom.proofs.Edges.{before_by_cases}
use Rattle.geom.proofs.Integers.{linear}
use Rattle.geom.proofs.Numbers.{itself, le_le, lt_le}
use Rattle.geom.proofs.Tests.{le_told, le_yes}
use Rattle.polygonize.specs.Below.{AreKnown, AreNearerWithin, AreTakenBut, IsAsNear, best_at, vertex_at}
use Rattle.polygonize.specs.Column.{IsIn, Meets, StandFromLeft, StandsOver, column_of}
use Rattle.polygonize.specs.Cycle.{Begins}
use Rattle.polygonize.specs.CutRing.{Ascend}
use Rattle.polygonize.specs.Next.{edge_at, first_vertex, nothing}
use Rattle.polygonize.specs.Written.{ArePlaces}
use Rattle.polygonize.specs.declared.below.Gap.{Gap}
use Rattle.polygonize.specs.declared.column.Columns.{Columns}
use Rattle.polygonize.proofs.EdgesBelow.Columns.{below_meets, meets_or_not}
use Rattle.polygonize.proofs.EdgesBelow.Nearness.{nothing_below}
use Rattle.polygonize.proofs.Numbers.{start_order}

-- ---- the places of vertices that stand from left to right

pub parted : (vertices : List Pt) → StandFromLeft vertices → (column : ℤ) → IsPartitionedBy (λ v. int_le v.x column) vertices
parted vertices f column i j d l m h =
    let b : (vertex_at vertices j).x ≤ℤ column = subst (λ (v : Pt). v.x ≤ℤ column) (get_or_default vertices j d nothing.from m) (le_told _ column h) in
    subst (λ (v : Pt). int_le v.x column ≡ true) (sym (get_or_default vertices i d nothing.from (omega (arith, l, m)))) (le_yes _ column (le_le _ _ column (f i j l m) b))

pub least_within : (a b m : ℤ) → m ≡ int_min a b → IsWithin coordinate_limit a → IsWithin coordinate_limit b → IsWithin coordinate_limit m
least_within a b m e h k = record { low = omega (arith, linear, int_min_is a b, e, h.low, k.low); high = omega (arith, linear, int_min_is a b, e, h.high, k.high) }

pub greatest_within : (a b m : ℤ) → m ≡ int_max a b → IsWithin coordinate_limit a → IsWithin coordinate_limit b → IsWithin coordinate_limit m
greatest_within a b m e h k = record { low = omega (arith, linear, int_max_is a b, e, h.low, k.low); high = omega (arith, linear, int_max_is a b, e, h.high, k.high) }

-- the columns between an edge's ends
between : (d : DirectedEdge) (v : Pt) (low high : ℤ) → low ≡ int_min d.from.x d.to.x → high ≡ int_max d.from.x d.to.x → Meets d (column_of v) → (low <ℤ v.x) × (v.x ≤ℤ high)
between d v low high e f (inl m) = (omega (arith, linear, int_min_is d.from.x d.to.x, e, m.0), omega (arith, linear, int_max_is d.from.x d.to.x, f, m.1))
between d v low high e f (inr m) = (omega (arith, linear, int_min_is d.from.x d.to.x, e, m.0), omega (arith, linear, int_max_is d.from.x d.to.x, f, m.1))

not_both : (a b : ℤ) → a <ℤ b → b ≤ℤ a → ⊥
not_both a b h k = omega (arith, linear)

pub stands_over : (d : DirectedEdge) (vertices : List Pt) (from past : ℕ) (low high : ℤ) → low ≡ int_min d.from.x d.to.x → high ≡ int_max d.from.x d.to.x → (from ≤ past) × (past ≤ length vertices) → ((r : ℕ) → r < from → (vertex_at vertices r).x ≤ℤ low)
    → ((r : ℕ) → past ≤ r → r < length vertices → high <ℤ (vertex_at vertices r).x) → StandsOver d vertices from past
stands_over d vertices from past low high e f o before after = record {
  ordered = o.0;
  inside = o.1;
  each = λ r i m. let b = between d (vertex_at vertices r) low high e f m in (
    elim (cases_lt r from) [ inl h ↦ absurd (not_both low _ b.0 (before r h)) | inr h ↦ h ],
    elim (cases_lt r past) [ inl h ↦ h | inr h ↦ absurd (not_both high _ (after r h i) b.1) ],
  );
}

-- an edge that doesn't meet the columns of all vertices lies over none
pub stands_over_none : (d : DirectedEdge) (vertices : List Pt) (all : Columns) → ((r : ℕ) → r < length vertices → IsIn all (vertex_at vertices r)) → ¬ (Meets d all) → StandsOver d vertices 0 0
stands_over_none d vertices all each n = record {
  ordered = omega arith;
  inside = omega arith;
  each = λ r i m. absurd (n (wider (vertex_at vertices r) (each r i) m));
}
  where
    wider : (v : Pt) → IsIn all v → Meets d (column_of v) → Meets d all
    wider v h (inl m) = inl (lt_le d.from.x v.x all.high m.0 h.1, le_le all.low v.x d.to.x h.0 m.1)
    wider v h (inr m) = inr (lt_le d.to.x v.x all.high m.0 h.1, le_le all.low v.x d.from.x h.0 m.1)

-- ---- one edge after another

pub none_taken : (ds : List DirectedEdge) (vertices : List Pt) (old : List (Option Gap)) → AreKnown ds vertices old → AreTakenBut ds vertices 0 [] old old
none_taken ds vertices old k = record { same_length = refl; known = k; each = λ k h. absurd (omega (arith, h)) }

module _ (ds : List DirectedEdge) (vertices : List Pt) (n : ℕ) (left : List ℕ) (old best : List (Option Gap)) (t : AreTakenBut ds vertices n left old best) where
  pub one_taken : (from past : ℕ) (now : List (Option Gap)) → StandsOver (edge_at ds n) vertices from past → AreNearerWithin ds vertices n from past best now → AreTakenBut ds vertices (n + 1) left old now
  one_taken from past now o w = record {
    same_length = w.same_length ∙ t.same_length;
    known = w.known;
    each = λ k h. elim (cases_lt k n) [
      | inl l ↦ elim (t.each k l) [
        | inl c ↦ inl c
        | inr q ↦ inr (λ r i. w.kept r (edge_at ds k) (q r i))
      ]
      | inr l ↦ inr (λ r i. let same : k ≡ n = omega (arith, h, l) in let P : ℕ → Type 0 = λ m. IsAsNear (edge_at ds m) (vertex_at vertices r) (best_at now r) in subst P (sym same) (this r i))
    ];
  }
    where
      this : (r : ℕ) → r < length vertices → IsAsNear (edge_at ds n) (vertex_at vertices r) (best_at now r)
      this r i = let v = vertex_at vertices r in elim (meets_or_not (edge_at ds n) (column_of v)) [
        | inl m ↦ w.near r (o.each r i m) n refl
        | inr m ↦ nothing_below (edge_at ds n) v (best_at now r) (λ f b. m (below_meets (edge_at ds n) (column_of v) v (itself v.x, itself v.x) f b))
      ]

  pub one_left : AreTakenBut ds vertices (n + 1) (left ++ n ∷ []) old best
  one_left = record {
    same_length = t.same_length;
    known = t.known;
    each = λ k h. elim (cases_lt k n) [
      | inl l ↦ elim (t.each k l) [
        | inl c ↦ inl (Contains-append_left left (n ∷ []) k c)
        | inr q ↦ inr q
      ]
      | inr l ↦ inl (let same : k ≡ n = omega (arith, h, l) in let P : ℕ → Type 0 = Contains (left ++ n ∷ []) in subst P (sym same) (Contains-push left n))
    ];
  }

-- ---- the vertices where holes begin stand from left to right

less_first : (a b : List ℕ) → Begins a b → get_or a 0 0 < get_or b 0 0
less_first [] b h = absurd h
less_first (i ∷ is) [] h = absurd h
less_first (i ∷ is) (j ∷ js) h = h

not_right : (p q : Pt) → ¬ (IsBefore q p) → p.x ≤ℤ q.x
not_right p q n = by_lt_z q.x p.x (λ h. absurd (n (before_by_cases q p (inl h)))) (λ h. h)

pub begin_from_left : (ds : List DirectedEdge) (cycles : List (List ℕ)) (holes : List ℕ) → AreDirected ds → All (ArePlaces ds) cycles → AllPairs Begins cycles → Ascend holes → All (λ r. r < length cycles) holes → StandFromLeft (map (first_vertex ds cycles) holes)
begin_from_left ds cycles holes directed places begins ascend inside i j l m = elim (cases_lt i j) [
  | inl h ↦ (let P : Pt → Type 0 = λ p. p.x ≤ℤ (vertex_at all j).x in subst P (sym (here i (omega (arith, h, there)))) (let Q : Pt → Type 0 = λ q. (first_vertex ds cycles (get_or holes i 0)).x ≤ℤ q.x in subst Q (sym (here j there)) (apart h)))
  | inr h ↦ (let same : i ≡ j = omega (arith, l, h) in let P : ℕ → Type 0 = λ k. (vertex_at all k).x ≤ℤ (vertex_at all j).x in subst P (sym same) (itself (vertex_at all j).x))
]
  where
    all : List Pt
    all = map (first_vertex ds cycles) holes

    there : j < length holes
    there = let e = length-map holes (first_vertex ds cycles) in omega (arith, e, m)

    here : (k : ℕ) → k < length holes → vertex_at all k ≡ first_vertex ds cycles (get_or holes k 0)
    here k h = get_or-map (first_vertex ds cycles) holes k 0 nothing.from h

    apart : i < j → (first_vertex ds cycles (get_or holes i 0)).x ≤ℤ (first_vertex ds cycles (get_or holes j 0)).x
    apart h =
        let a = get_or holes i 0 in
        let b = get_or holes j 0 in
        let p = places b [] (inside j 0 there) in
        not_right (first_vertex ds cycles a) (first_vertex ds cycles b) (start_order ds directed (get_or (get_or cycles a []) 0 0) (get_or (get_or cycles b []) 0 0) (less_first (get_or cycles a []) (get_or cycles b []) (begins a b [] (ascend i j h there) (inside j 0 there))) (p.inside 0 0 p.some))
