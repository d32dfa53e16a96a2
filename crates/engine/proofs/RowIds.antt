-- The sets of row edges are the cover sets that have rows, each once.
use Rattle.std.proofs.Common.{◌≡◌, ◌∙◌, inl, inr, ℕ, ◌+◌, ◌<◌, List, [], ◌∷◌, length, map, refl, sym, ap, arith, subst, sum_by}
use Rattle.std.specs.List.{AllPairs, Contains}
use Rattle.std.specs.Prelude.{◌≢◌}
use Rattle.std.proofs.lemmas.List.Elements.{All-contains}
use Rattle.std.proofs.lemmas.List.Kept.{AllPairs-cons}
use Rattle.std.proofs.lemmas.List.Sums.{sum_by-cons}
use Rattle.geom.specs.declared.directed.DirectedEdge.{DirectedEdge}
use Rattle.geom.proofs.ListOrder.{pairs_head, pairs_tail}
use Rattle.geom.proofs.Lists.{In, contains_in, in_contains, in_map, map_in}
use Rattle.geom.proofs.Owners.{all_in}
use Rattle.geom.proofs.RingEdges.{flat_in}
use Rattle.cover_law.specs.Cover.{Bordered}
use Rattle.cover_law.specs.Rows.{IsRowEdge}
use Rattle.cover_sets.specs.Sets.{AreSets, IsNumber, set_of}
use Rattle.rows.specs.declared.edges.RowEdge.{RowEdge}
use Rattle.rows.specs.declared.runs.RowSet.{RowSet}
use Rattle.rows.specs.RowEdges.{AreEdgesOfRows, row_edge}
use Rattle.rows.specs.RowSets.{AreRowSets, edges_at, run_of}
use Rattle.rows.proofs.Making.{row_covered, row_edges_at, row_number, row_some}
use Rattle.layers.specs.FacesRefusals.{IsNumberOfIds}

module _ (count : ℕ) (es : List Bordered) (sets : List (List ℕ)) (edges : List RowEdge) (row_sets : List RowSet) (S : AreSets sets) (E : AreEdgesOfRows count es sets edges) (G : AreRowSets edges row_sets) where
  abbrev set_at : RowSet → List ℕ
  set_at r = set_of sets r.set

  once : (rs : List RowSet) → AllPairs (λ r s. r.set < s.set) rs → ((r : RowSet) → In r rs → IsNumber sets r.set) → AllPairs (λ (s t : List ℕ). s ≢ t) (map set_at rs)
  once [] p h = λ i j d a b. absurd (omega (arith, b))
  once (r ∷ rs) p h = AllPairs-cons (λ (s t : List ℕ). s ≢ t) (set_at r) (map set_at rs)
      (all_in (λ (t : List ℕ). set_at r ≢ t) (map set_at rs) (λ t i. apart t (in_map set_at rs t i)))
      (once rs (pairs_tail (λ (x y : RowSet). x.set < y.set) r rs p) (λ q i. h q (inr i)))
    where
      apart : (t : List ℕ) → (q : RowSet) × In q rs × (set_at q ≡ t) → set_at r ≢ t
      apart t m e =
          let same = S.apart r.set (m.0).set (h r (inl refl)) (h m.0 (inr m.1)) (e ∙ sym m.2) in
          let less = pairs_head (λ (x y : RowSet). x.set < y.set) r rs p m.0 m.1 in
          absurd (omega (arith, same, less))

  some_in : (ds : List DirectedEdge) → ds ≢ [] → (d : DirectedEdge) × In d ds
  some_in [] n = absurd (n refl)
  some_in (d ∷ ds) n = (d, inl refl)

  -- a set of row edges has a row
  to_edge : (set : List ℕ) → Contains (map set_at row_sets) set → (set ≢ []) × (d : DirectedEdge) × IsRowEdge count es set d
  to_edge set c =
      let m = in_map set_at row_sets set (contains_in (map set_at row_sets) set c) in
      let d = some_in (edges_at edges m.0) (row_some count es sets edges row_sets S E G m.0 m.1) in
      let are = row_edges_at count es sets edges row_sets S E G m.0 m.1 in (
        subst (λ (s : List ℕ). s ≢ []) m.2 (row_covered count es sets edges row_sets S E G m.0 m.1),
        d.0,
        subst (λ (s : List ℕ). IsRowEdge count es s d.0) m.2 ((are.exact d.0).0 (in_contains (edges_at edges m.0) d.0 d.1)),
      )

  -- and a set that has a row is one of row edges
  of_edge : (set : List ℕ) → (set ≢ []) × (d : DirectedEdge) × IsRowEdge count es set d → Contains (map set_at row_sets) set
  of_edge set h =
      let e = E.each set h.1 h.0 h.2 in
      let x = row_edge e.0 h.1 in
      let q = flat_in (run_of edges) row_sets x (subst (λ (xs : List RowEdge). In x xs) (sym G.together) (contains_in edges x e.2)) in
      let same : e.0 ≡ (q.0).set = All-contains (λ (y : RowEdge). y.set ≡ (q.0).set) (run_of edges q.0) x (G.same q.0 (in_contains row_sets q.0 q.1)) (in_contains (run_of edges q.0) x q.2) in
      in_contains (map set_at row_sets) set (subst (λ (s : List ℕ). In s (map set_at row_sets)) (ap (set_of sets) (sym same) ∙ e.1.1) (map_in set_at row_sets q.0 q.1))

  sum_of_map : (rs : List RowSet) → sum_by (λ r. length (set_at r)) rs ≡ sum_by length (map set_at rs)
  sum_of_map [] = refl
  sum_of_map (r ∷ rs) = sum_by-cons (λ q. length (set_at q)) r rs ∙ ap (λ (n : ℕ). length (set_at r) + n) (sum_of_map rs) ∙ sym (sum_by-cons length (set_at r) (map set_at rs))

  pub number_is : (ids : ℕ) → ids ≡ sum_by (λ r. length (set_of sets r.set)) row_sets → IsNumberOfIds count es ids
  number_is ids e = (
    map set_at row_sets,
    record { once = once row_sets G.ascending (λ r i. row_number count es sets edges row_sets S E G r i); exact = λ set. (to_edge set, of_edge set) },
    e ∙ sum_of_map row_sets,
  )
