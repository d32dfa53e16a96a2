-- The order of row edges: that of the program is that of the definitions.
use Rattle.std.proofs.Common.{◌≡◌, ◌⊎◌, inl, inr, ℕ, ◌<◌, List, [], Bool, true, Ordering, Less, Equal, Greater, refl, rules, get_or, eqb-true}
use Rattle.std.specs.Prelude.{AllPairs, ◌&&◌, ◌==◌}
use Rattle.std.specs.Cmp.{IsTotalOrder, IsEquivalence}
use Rattle.std.specs.Cmp.Rules.{comparing}
use Rattle.std.specs.Ordering.{eq_by_cmp, nat_cmp, ordering_then, MatchOrdering}
use Rattle.std.specs.List.Sorted.{IsPermutation, IsSorted}
use Rattle.std.specs.List.Retain.{IsFiltered, DiffersFromLast}
use Rattle.std.proofs.lemmas.Cmp.{then_total, on_total, and_equiv, on_equiv, nat_cmp_total, nat_eq_equiv, ranked}
use Rattle.geom.specs.declared.point.Pt.{Pt}
use Rattle.geom.specs.declared.directed.DirectedEdge.{DirectedEdge}
use Rattle.geom.specs.Directed.{IsDirectedBefore}
use Rattle.geom.specs.Order.{IsBefore}
use Rattle.geom.specs.Segments.{same_point}
use Rattle.geom.proofs.Orders.{IsSortedOnce, pt_cmp, pt_total, pt_equivalence, pt_ranks, sorted_once}
use Rattle.geom.proofs.Points.{and_both, same_point_true}
use Rattle.rows.specs.declared.edges.RowEdge.{RowEdge}
use Rattle.rows.specs.RowEdges.{IsRowEdgeBefore}

abbrev pub ends_cmp : DirectedEdge → DirectedEdge → Ordering
ends_cmp d e = ordering_then (pt_cmp d.from e.from) (pt_cmp d.to e.to)

-- what the derived order of row edges computes
abbrev pub row_edge_cmp : RowEdge → RowEdge → Ordering
row_edge_cmp d e = ordering_then (nat_cmp d.set e.set) (ends_cmp d.edge e.edge)

abbrev pub same_row_edge : RowEdge → RowEdge → Bool
same_row_edge d e = (d.set == e.set) && (same_point d.edge.from e.edge.from && same_point d.edge.to e.edge.to)

row_edge_total : IsTotalOrder row_edge_cmp
row_edge_total = then_total (on_total (λ (e : RowEdge). e.set) nat_cmp_total) (then_total (on_total (λ (e : RowEdge). e.edge.from) pt_total) (on_total (λ (e : RowEdge). e.edge.to) pt_total))

row_edge_equivalence : IsEquivalence same_row_edge
row_edge_equivalence = and_equiv (on_equiv (λ (e : RowEdge). e.set) nat_eq_equiv) (and_equiv (on_equiv (λ (e : RowEdge). e.edge.from) pt_equivalence) (on_equiv (λ (e : RowEdge). e.edge.to) pt_equivalence))

row_edge_ties : (d e : RowEdge) → same_row_edge d e ≡ eq_by_cmp row_edge_cmp d e
row_edge_ties = search (comparing, rules)

path : (d e : RowEdge) → d.set ≡ e.set → d.edge.from ≡ e.edge.from → d.edge.to ≡ e.edge.to → d ≡ e
path d e h k l = λ i. record { set = h i; edge = record { from = k i; to = l i } }

row_edge_exact : (d e : RowEdge) → same_row_edge d e ≡ true → d ≡ e
row_edge_exact d e h =
    let a = and_both _ _ h in
    let b = and_both _ _ a.1 in
    path d e (eqb-true d.set e.set a.0) (same_point_true d.edge.from e.edge.from b.0) (same_point_true d.edge.to e.edge.to b.1)

told_less : (A B C : Type 0) (o : Ordering) → MatchOrdering o A B C → o ≡ Less → A
told_less A B C Less h e = h
told_less A B C Equal h e = absurd (cc)
told_less A B C Greater h e = absurd (cc)

told_equal : (A B C : Type 0) (o : Ordering) → MatchOrdering o A B C → o ≡ Equal → B
told_equal A B C Less h e = absurd (cc)
told_equal A B C Equal h e = h
told_equal A B C Greater h e = absurd (cc)

-- what is less by two comparisons is so by the first, or ties there and is so by the second
then_less : (o u : Ordering) → ordering_then o u ≡ Less → (o ≡ Less) ⊎ ((o ≡ Equal) × (u ≡ Less))
then_less Less u h = inl refl
then_less Equal u h = inr (refl, h)
then_less Greater u h = absurd (cc)

points_before : (p q : Pt) → pt_cmp p q ≡ Less → IsBefore p q
points_before p q h = told_less (IsBefore p q) (p ≡ q) (IsBefore q p) (pt_cmp p q) (pt_ranks p q) h

points_same : (p q : Pt) → pt_cmp p q ≡ Equal → p ≡ q
points_same p q h = told_equal (IsBefore p q) (p ≡ q) (IsBefore q p) (pt_cmp p q) (pt_ranks p q) h

edges_before : (d e : DirectedEdge) → ends_cmp d e ≡ Less → IsDirectedBefore d e
edges_before d e h = elim (then_less (pt_cmp d.from e.from) (pt_cmp d.to e.to) h) [
  | inl k ↦ inl (points_before d.from e.from k)
  | inr k ↦ inr (points_same d.from e.from k.0, points_before d.to e.to k.1)
]

less_number : (m n : ℕ) → nat_cmp m n ≡ Less → m < n
less_number m n h = told_less (m < n) (m ≡ n) (n < m) (nat_cmp m n) (ranked m n (nat_cmp m n) refl) h

same_number : (m n : ℕ) → nat_cmp m n ≡ Equal → m ≡ n
same_number m n h = told_equal (m < n) (m ≡ n) (n < m) (nat_cmp m n) (ranked m n (nat_cmp m n) refl) h

pub row_edge_before : (d e : RowEdge) → row_edge_cmp d e ≡ Less → IsRowEdgeBefore d e
row_edge_before d e h = elim (then_less (nat_cmp d.set e.set) (ends_cmp d.edge e.edge) h) [
  | inl k ↦ inl (less_number d.set e.set k)
  | inr k ↦ inr (same_number d.set e.set k.0, edges_before d.edge e.edge k.1)
]

-- row edges that are sorted and rid of repeats
pub row_edges_once : (xs ys zs : List RowEdge) → IsPermutation xs ys → IsSorted row_edge_cmp ys → IsFiltered (DiffersFromLast same_row_edge) [] ys zs → IsSortedOnce row_edge_cmp xs zs
row_edges_once = sorted_once row_edge_total row_edge_equivalence row_edge_ties row_edge_exact

pub row_edges_ascending : (es : List RowEdge) → AllPairs (λ d e. row_edge_cmp d e ≡ Less) es → AllPairs IsRowEdgeBefore es
row_edges_ascending es h = λ i j d a b. row_edge_before (get_or es i d) (get_or es j d) (h i j d a b)
