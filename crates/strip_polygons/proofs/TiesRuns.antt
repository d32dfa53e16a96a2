-- Edges that leave one vertex stand in one run, and so links lead from each of them to each.
use Rattle.std.proofs.Common.{◌≡◌, inl, inr, ℕ, zero, suc, ◌+◌, ◌-◌, ◌<◌, ◌≤◌, true, List, length, get_or, refl, sym, subst, ap, ◌∙◌, arith}
use Rattle.std.specs.Prelude.{AllPairs}
use Rattle.std.specs.List.Sorted.{IsPartitionedBy}
use Rattle.std.proofs.lemmas.Bool.{cases_eq, cases_lt}
use Rattle.geom.specs.declared.directed.DirectedEdge.{DirectedEdge}
use Rattle.geom.specs.declared.point.Pt.{Pt}
use Rattle.geom.specs.Directed.{AreDirected, IsDirectedBefore}
use Rattle.geom.specs.NodedEdges.{AreNodedEdges}
use Rattle.geom.specs.Order.{IsBefore}
use Rattle.geom.proofs.OneOwner.{one_nearest}
use Rattle.geom.proofs.Orders.{before_itself, before_trans}
use Rattle.parts_law.specs.Bounds.{GoesRight}
use Rattle.parts_law.specs.Ties.{AreTied, LiesUnder}
use Rattle.polygonize.specs.Clockwise.{less}
use Rattle.polygonize.specs.Next.{edge_at, nothing}
use Rattle.polygonize.proofs.NextEdge.Turns.{is_less, less_is}
use Rattle.strip_polygons.specs.declared.classes.Link.{Link}
use Rattle.strip_polygons.specs.Classes.{AreChained, none, step}
use Rattle.strip_polygons.specs.Parting.{LinkFollowing, LinkLeaving, LinkUnder, LinksLower, link}
use Rattle.strip_polygons.proofs.ClassesLinked.{chained_back, chained_on}
use Rattle.strip_polygons.proofs.TiesLinks.{start_at}

module _ (directed : List DirectedEdge) (ascending : AllPairs IsDirectedBefore directed) where
  -- ---- an earlier edge leaves no greater vertex
  lesser : (d e : DirectedEdge) (v : Pt) → IsDirectedBefore d e → IsBefore e.from v → IsBefore d.from v
  lesser d e v (inl h) k = before_trans d.from e.from v h k
  lesser d e v (inr h) k = subst (λ (t : Pt). IsBefore t v) (sym h.0) k

  pub parted_at : (v : Pt) → IsPartitionedBy (λ d. less d.from v) directed
  parted_at v i j d h k e = elim (cases_eq i j) [
    | inl s ↦ subst (λ (t : ℕ). less (get_or directed t d).from v ≡ true) (sym s) e
    | inr o ↦ is_less (get_or directed i d).from v (lesser (get_or directed i d) (get_or directed j d) v (ascending i j d (omega (arith, h, o)) k)
        (less_is (get_or directed j d).from v e))
  ]

  -- ---- edges between two that leave one vertex leave it too
  between : (k m j : ℕ) → k < m → m ≤ j → j < length directed → start_at directed k ≡ start_at directed j → start_at directed k ≡ start_at directed m
  between k m j low high inside same = by_order (ascending k m nothing low (omega arith))
    where
      not_before : IsBefore (start_at directed k) (start_at directed m) → ⊥
      not_before h = before_itself (start_at directed j) (subst (λ (t : Pt). IsBefore t (start_at directed j)) same (elim (cases_eq m j) [
        | inl e ↦ subst (λ (t : ℕ). IsBefore (start_at directed k) (start_at directed t)) e h
        | inr o ↦ up_to (ascending m j nothing (omega arith) inside)
      ]))
        where
          up_to : IsDirectedBefore (edge_at directed m) (edge_at directed j) → IsBefore (start_at directed k) (start_at directed j)
          up_to (inl l) = before_trans (start_at directed k) (start_at directed m) (start_at directed j) h l
          up_to (inr l) = subst (IsBefore (start_at directed k)) l.0 h

      by_order : IsDirectedBefore (edge_at directed k) (edge_at directed m) → start_at directed k ≡ start_at directed m
      by_order (inl h) = absurd (not_before h)
      by_order (inr h) = h.0

  module _ (links : List Link) (leaving : LinkLeaving directed (length directed) links) where
    run : (n k j : ℕ) → j ≡ k + n → j < length directed → start_at directed k ≡ start_at directed j → AreChained links k j
    run zero k j e inside same = let one : k ≡ j = omega arith in subst (AreChained links k) one none
    run (suc n) k j e inside same = step (link k (k + 1)) (leaving k (omega arith) next) (inl (refl, refl))
        (run n (k + 1) j (omega arith) inside (sym next ∙ same))
      where
        next : start_at directed k ≡ start_at directed (k + 1)
        next = between k (k + 1) j (omega arith) (omega arith) inside same

    pub up_run : (k j : ℕ) → k ≤ j → j < length directed → start_at directed k ≡ start_at directed j → AreChained links k j
    up_run k j low inside same = run (j - k) k j (omega arith) inside same

    one_vertex : (i j : ℕ) → i < length directed → j < length directed → start_at directed i ≡ start_at directed j → AreChained links i j
    one_vertex i j low high same = elim (cases_lt i j) [
      | inl b ↦ up_run i j (omega arith) high same
      | inr b ↦ chained_back links j i (up_run j i (omega arith) low (sym same))
    ]

    -- ---- each tie has a chain of links
    module _ (following : LinkFollowing directed (length directed) links) (under : LinkUnder directed links) (are : AreDirected directed)
        (noded : AreNodedEdges directed) where
      follows : (i j : ℕ) → i < length directed → j < length directed → (edge_at directed i).to ≡ start_at directed j → AreChained links i j
      follows i j low high e = let k = following i j low high e in
          step (link i k.place) k.linked (inl (refl, refl)) (up_run k.place j k.up_to high k.one_start)

      lies_under : (i j : ℕ) → i < length directed → j < length directed → LiesUnder directed (edge_at directed i) (edge_at directed j)
          → AreChained links i j
      lies_under i j low high u = by_lower (under j high u.upper_goes)
        where
          by_lower : LinksLower directed links j → AreChained links i j
          by_lower (inl n) = absurd (n u.nearest.edge u.nearest.below)
          by_lower (inr l) =
              let one = one_nearest directed are noded (start_at directed j) (edge_at directed l.place) (edge_at directed i) l.nearest u.nearest in
              chained_on links i l.place j (one_vertex i l.place low l.inside (ap (λ (d : DirectedEdge). d.from) (sym one)))
              (step (link l.place j) (l.linked (subst GoesRight (sym one) u.lower_goes)) (inl (refl, refl)) none)

      pub tied_chained : (i j : ℕ) → i < length directed → j < length directed → AreTied directed (edge_at directed i) (edge_at directed j)
          → AreChained links i j
      tied_chained i j low high (inl e) = one_vertex i j low high e
      tied_chained i j low high (inr (inl e)) = follows i j low high e
      tied_chained i j low high (inr (inr u)) = lies_under i j low high u
