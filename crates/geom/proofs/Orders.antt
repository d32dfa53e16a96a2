-- The orders of points, edges and directed edges: those of the program are those of the definitions, and they are strict; and lists that are sorted by them and rid of repeats.
use Rattle.std.proofs.Common.{◌≡◌, ◌⊎◌, inl, inr, List, [], Bool, true, Ordering, Less, Equal, Greater, sym, ◌∙◌, subst, arith, rules, get_or, ◌↔◌}
use Rattle.std.proofs.Math.IntN.{ℤ}
use Rattle.std.specs.Prelude.{AllPairs, Contains, ◌<ℤ◌, ◌≤ℤ◌, ◌&&◌}
use Rattle.std.specs.Cmp.{IsTotalOrder, IsEquivalence, int_ranks}
use Rattle.std.specs.Cmp.Rules.{comparing}
use Rattle.std.specs.Ordering.{eq_by_cmp, int_cmp, ordering_then, MatchOrdering}
use Rattle.std.specs.List.{dedup}
use Rattle.std.specs.List.Sorted.{IsPermutation, IsSorted}
use Rattle.std.specs.List.Retain.{IsFiltered, DiffersFromLast}
use Rattle.std.proofs.lemmas.List.Sorted.{Contains-permutation, IsPermutation-sym}
use Rattle.std.proofs.lemmas.List.Kept.{IsStrictlySortedBy-dedup, Contains-dedup, Contains-from_dedup}
use Rattle.std.proofs.lemmas.List.Filters.{dedup_is}
use Rattle.std.proofs.lemmas.Map.Keys.{Less-from_sorted}
use Rattle.std.proofs.lemmas.Cmp.{then_total, on_total, and_equiv, on_equiv, int_cmp_total, int_eq_equiv}
use Rattle.geom.specs.declared.point.Pt.{Pt}
use Rattle.geom.specs.declared.edge.Edge.{Edge}
use Rattle.geom.specs.declared.directed.DirectedEdge.{DirectedEdge}
use Rattle.geom.specs.Order.{IsBefore}
use Rattle.geom.specs.EdgeOrder.{IsEdgeBefore}
use Rattle.geom.specs.Directed.{IsDirectedBefore}
use Rattle.geom.specs.Segments.{same_point}
use Rattle.geom.proofs.Integers.{linear}
use Rattle.geom.proofs.Edges.{edge_path, before_strict}
use Rattle.geom.proofs.Points.{and_both, same_point_true}

-- ---- any order

-- zs has the items of xs, each once and ascending
pub record IsSortedOnce {X : Type 0} (R : X → X → Ordering) (xs zs : List X) : Type 0 where
  pub ascending : AllPairs (λ x y. R x y ≡ Less) zs
  pub same : (x : X) → Contains zs x ↔ Contains xs x

pub sorted_once : {X : Type 0} {R : X → X → Ordering} {E : X → X → Bool} (total : IsTotalOrder R) (equivalence : IsEquivalence E) (ties : (x y : X) → E x y ≡ eq_by_cmp R x y) (exact : (x y : X) → E x y ≡ true → x ≡ y)
    (xs ys zs : List X) → IsPermutation xs ys → IsSorted R ys → IsFiltered (DiffersFromLast E) [] ys zs → IsSortedOnce R xs zs
sorted_once {R = R} {E = E} total equivalence ties exact xs ys zs moved sorted kept = record {
  ascending = λ i j d a b. Less-from_sorted R zs i j d (rw is (IsStrictlySortedBy-dedup total ties ys sorted)) a b;
  same = λ x. (
    (λ h. Contains-permutation ys xs x (IsPermutation-sym xs ys moved) (Contains-from_dedup E ys x (rw is at h))),
    (λ h. rw is (Contains-dedup equivalence exact ys x (Contains-permutation xs ys x moved h))),
  );
}
  where
    is : zs ≡ dedup E ys
    is = dedup_is E ys zs kept

told : (A B C : Type 0) (o : Ordering) → MatchOrdering o A B C → o ≡ Less → A
told A B C Less h e = h
told A B C Equal h e = absurd (cc)
told A B C Greater h e = absurd (cc)

-- what is sorted by the program's order is in that of the definitions
ascending_by : {X : Type 0} (R : X → X → Ordering) (B : X → X → Type 0) → ((x y : X) → MatchOrdering (R x y) (B x y) (x ≡ y) (B y x)) → (xs : List X) → AllPairs (λ x y. R x y ≡ Less) xs → AllPairs B xs
ascending_by R B ranks xs h = λ i j d a b. told (B (get_or xs i d) (get_or xs j d)) (get_or xs i d ≡ get_or xs j d) (B (get_or xs j d) (get_or xs i d)) (R (get_or xs i d) (get_or xs j d)) (ranks (get_or xs i d) (get_or xs j d)) (h i j d a b)

-- ---- points

-- what the derived order of points computes
abbrev pub pt_cmp : Pt → Pt → Ordering
pt_cmp p q = ordering_then (int_cmp p.x q.x) (int_cmp p.y q.y)

pub pt_total : IsTotalOrder pt_cmp
pt_total = then_total (on_total (λ (p : Pt). p.x) int_cmp_total) (on_total (λ (p : Pt). p.y) int_cmp_total)

pub pt_equivalence : IsEquivalence same_point
pt_equivalence = and_equiv (on_equiv (λ (p : Pt). p.x) int_eq_equiv) (on_equiv (λ (p : Pt). p.y) int_eq_equiv)

pt_ties : (p q : Pt) → same_point p q ≡ eq_by_cmp pt_cmp p q
pt_ties = search (comparing, rules)

weak : {x y : ℤ} → x <ℤ y → x ≤ℤ y
weak {x} {y} h = omega (arith, linear)

pub clash_same : {x y : ℤ} → x <ℤ y → x ≡ y → ⊥
clash_same {x} {y} h e = omega (arith, linear)

same_le : {x y : ℤ} → x ≡ y → x ≤ℤ y
same_le {x} {y} h = omega (arith, linear)

first_column : (p q : Pt) → p.x <ℤ q.x → IsBefore p q
first_column p q h = record { column = weak h; row = λ e. absurd (clash_same h e) }

-- the derived order of points is by column, then by row
pub pt_ranks : (p q : Pt) → MatchOrdering (pt_cmp p q) (IsBefore p q) (p ≡ q) (IsBefore q p)
pt_ranks p q = columns (int_cmp p.x q.x) (int_cmp p.y q.y) (int_ranks p.x q.x) (int_ranks p.y q.y)
  where
    columns : (o u : Ordering) → MatchOrdering o (p.x <ℤ q.x) (p.x ≡ q.x) (q.x <ℤ p.x) → MatchOrdering u (p.y <ℤ q.y) (p.y ≡ q.y) (q.y <ℤ p.y) → MatchOrdering (ordering_then o u) (IsBefore p q) (p ≡ q) (IsBefore q p)
    columns Less u h k = first_column p q h
    columns Greater u h k = first_column q p h
    columns Equal Less h k = record { column = same_le h; row = λ e. k }
    columns Equal Equal h k = λ i. record { x = h i; y = k i }
    columns Equal Greater h k = record { column = same_le (sym h); row = λ e. k }

pub before_trans : (p q r : Pt) → IsBefore p q → IsBefore q r → IsBefore p r
before_trans p q r h k = record { column = columns h.column k.column; row = λ e. rows (h.row (level h.column k.column e)) (k.row (level_2 h.column k.column e)) }
  where
    columns : {x y z : ℤ} → x ≤ℤ y → y ≤ℤ z → x ≤ℤ z
    columns {x} {y} {z} a b = omega (arith, linear)

    level : {x y z : ℤ} → x ≤ℤ y → y ≤ℤ z → x ≡ z → x ≡ y
    level {x} {y} {z} a b e = omega (arith, linear)

    level_2 : {x y z : ℤ} → x ≤ℤ y → y ≤ℤ z → x ≡ z → y ≡ z
    level_2 {x} {y} {z} a b e = omega (arith, linear)

    rows : {x y z : ℤ} → x <ℤ y → y <ℤ z → x <ℤ z
    rows {x} {y} {z} a b = omega (arith, linear)

pub before_itself : (p : Pt) → IsBefore p p → ⊥
before_itself p h = before_strict p p h h

-- points that are sorted and rid of repeats
pub points_once : (xs ys zs : List Pt) → IsPermutation xs ys → IsSorted pt_cmp ys → IsFiltered (DiffersFromLast same_point) [] ys zs → IsSortedOnce pt_cmp xs zs
points_once = sorted_once pt_total pt_equivalence pt_ties same_point_true

pub points_ascending : (ps : List Pt) → AllPairs (λ p q. pt_cmp p q ≡ Less) ps → AllPairs IsBefore ps
points_ascending = ascending_by pt_cmp IsBefore pt_ranks

-- ---- what has two points, by the first and then by the second
module _ {X : Type 0} (first second : X → Pt) where
  abbrev ends_cmp : X → X → Ordering
  ends_cmp d e = ordering_then (pt_cmp (first d) (first e)) (pt_cmp (second d) (second e))

  abbrev same_ends : X → X → Bool
  same_ends d e = same_point (first d) (first e) && same_point (second d) (second e)

  abbrev IsEndsBefore : X → X → Type 0
  IsEndsBefore d e = IsBefore (first d) (first e) ⊎ ((first d ≡ first e) × IsBefore (second d) (second e))

  ends_total : IsTotalOrder ends_cmp
  ends_total = then_total (on_total first pt_total) (on_total second pt_total)

  ends_ranks : ((d e : X) → first d ≡ first e → second d ≡ second e → d ≡ e) → (d e : X) → MatchOrdering (ends_cmp d e) (IsEndsBefore d e) (d ≡ e) (IsEndsBefore e d)
  ends_ranks path d e = ends (pt_cmp (first d) (first e)) (pt_cmp (second d) (second e)) (pt_ranks (first d) (first e)) (pt_ranks (second d) (second e))
    where
      ends : (o u : Ordering) → MatchOrdering o (IsBefore (first d) (first e)) (first d ≡ first e) (IsBefore (first e) (first d)) → MatchOrdering u (IsBefore (second d) (second e)) (second d ≡ second e) (IsBefore (second e) (second d)) → MatchOrdering (ordering_then o u) (IsEndsBefore d e) (d ≡ e) (IsEndsBefore e d)
      ends Less u h k = inl h
      ends Greater u h k = inl h
      ends Equal Less h k = inr (h, k)
      ends Equal Equal h k = path d e h k
      ends Equal Greater h k = inr (sym h, k)

  same_ends_true : ((d e : X) → first d ≡ first e → second d ≡ second e → d ≡ e) → (d e : X) → same_ends d e ≡ true → d ≡ e
  same_ends_true path d e h = let a = and_both _ _ h in path d e (same_point_true (first d) (first e) a.0) (same_point_true (second d) (second e) a.1)

  ends_before_itself : (e : X) → IsEndsBefore e e → ⊥
  ends_before_itself e (inl h) = before_itself (first e) h
  ends_before_itself e (inr (s, h)) = before_itself (second e) h

  ends_before_trans : (d e f : X) → IsEndsBefore d e → IsEndsBefore e f → IsEndsBefore d f
  ends_before_trans d e f (inl h) (inl k) = inl (before_trans (first d) (first e) (first f) h k)
  ends_before_trans d e f (inl h) (inr (t, k)) = inl (subst (λ (p : Pt). IsBefore (first d) p) t h)
  ends_before_trans d e f (inr (s, h)) (inl k) = inl (subst (λ (p : Pt). IsBefore p (first f)) (sym s) k)
  ends_before_trans d e f (inr (s, h)) (inr (t, k)) = inr (s ∙ t, before_trans (second d) (second e) (second f) h k)

  ends_once : ((d e : X) → first d ≡ first e → second d ≡ second e → d ≡ e) → (xs ys zs : List X) → IsPermutation xs ys → IsSorted ends_cmp ys → IsFiltered (DiffersFromLast same_ends) [] ys zs → IsSortedOnce ends_cmp xs zs
  ends_once path = sorted_once ends_total (and_equiv (on_equiv first pt_equivalence) (on_equiv second pt_equivalence)) ties (same_ends_true path)
    where
      ties : (d e : X) → same_ends d e ≡ eq_by_cmp ends_cmp d e
      ties = search (comparing, rules)

-- ---- edges

-- what the derived order of edges computes
abbrev pub edge_cmp : Edge → Edge → Ordering
edge_cmp e f = ordering_then (pt_cmp e.p f.p) (pt_cmp e.q f.q)

abbrev pub same_edge : Edge → Edge → Bool
same_edge e f = same_point e.p f.p && same_point e.q f.q

pub edge_total : IsTotalOrder edge_cmp
edge_total = ends_total (λ (e : Edge). e.p) (λ (e : Edge). e.q)

-- the derived order of edges is by the lesser end, then by the greater one
pub edge_ranks : (e f : Edge) → MatchOrdering (edge_cmp e f) (IsEdgeBefore e f) (e ≡ f) (IsEdgeBefore f e)
edge_ranks = ends_ranks (λ (e : Edge). e.p) (λ (e : Edge). e.q) edge_path

pub same_edge_true : (e f : Edge) → same_edge e f ≡ true → e ≡ f
same_edge_true = same_ends_true (λ (e : Edge). e.p) (λ (e : Edge). e.q) edge_path

pub edge_before_itself : (e : Edge) → IsEdgeBefore e e → ⊥
edge_before_itself = ends_before_itself (λ (e : Edge). e.p) (λ (e : Edge). e.q)

pub edge_before_trans : (e f g : Edge) → IsEdgeBefore e f → IsEdgeBefore f g → IsEdgeBefore e g
edge_before_trans = ends_before_trans (λ (e : Edge). e.p) (λ (e : Edge). e.q)

-- edges that are sorted and rid of repeats
pub edges_once : (xs ys zs : List Edge) → IsPermutation xs ys → IsSorted edge_cmp ys → IsFiltered (DiffersFromLast same_edge) [] ys zs → IsSortedOnce edge_cmp xs zs
edges_once = ends_once (λ (e : Edge). e.p) (λ (e : Edge). e.q) edge_path

pub edges_ascending : (es : List Edge) → AllPairs (λ e f. edge_cmp e f ≡ Less) es → AllPairs IsEdgeBefore es
edges_ascending = ascending_by edge_cmp IsEdgeBefore edge_ranks

-- ---- directed edges
abbrev pub directed_cmp : DirectedEdge → DirectedEdge → Ordering
directed_cmp d e = ordering_then (pt_cmp d.from e.from) (pt_cmp d.to e.to)

abbrev pub same_directed : DirectedEdge → DirectedEdge → Bool
same_directed d e = same_point d.from e.from && same_point d.to e.to

directed_path : (d e : DirectedEdge) → d.from ≡ e.from → d.to ≡ e.to → d ≡ e
directed_path d e h k = λ i. record { from = h i; to = k i }

pub directed_before_itself : (d : DirectedEdge) → IsDirectedBefore d d → ⊥
directed_before_itself = ends_before_itself (λ (d : DirectedEdge). d.from) (λ (d : DirectedEdge). d.to)

pub directed_before_trans : (d e f : DirectedEdge) → IsDirectedBefore d e → IsDirectedBefore e f → IsDirectedBefore d f
directed_before_trans = ends_before_trans (λ (d : DirectedEdge). d.from) (λ (d : DirectedEdge). d.to)

-- directed edges that are sorted and rid of repeats
pub directed_once : (xs ys zs : List DirectedEdge) → IsPermutation xs ys → IsSorted directed_cmp ys → IsFiltered (DiffersFromLast same_directed) [] ys zs → IsSortedOnce directed_cmp xs zs
directed_once = ends_once (λ (d : DirectedEdge). d.from) (λ (d : DirectedEdge). d.to) directed_path

pub directed_ascending : (ds : List DirectedEdge) → AllPairs (λ d e. directed_cmp d e ≡ Less) ds → AllPairs IsDirectedBefore ds
directed_ascending = ascending_by directed_cmp IsDirectedBefore (ends_ranks (λ (d : DirectedEdge). d.from) (λ (d : DirectedEdge). d.to) directed_path)
