-- Rows that are made of the directed edges of their sets are the rows of the definition.
use Rattle.std.proofs.Common.{◌≡◌, inl, inr, ℕ, ◌+◌, ◌-◌, ◌<◌, ◌≤◌, List, [], ◌∷◌, length, length-drop, drop, map, get_or, refl, sym, ap, ◌∙◌, arith, subst, sum_by}
use Rattle.std.specs.List.{All, AllPairs, AllZip, Contains}
use Rattle.std.specs.List.Sorted.{IsPermutation}
use Rattle.std.specs.Prelude.{◌≢◌, slice_range}
use Rattle.std.proofs.lemmas.List.{length-take}
use Rattle.std.proofs.lemmas.List.Elements.{All-contains}
use Rattle.std.proofs.lemmas.List.Kept.{AllPairs-cons}
use Rattle.std.proofs.lemmas.List.Sorted.{All-permutation, Contains-permutation, IsPermutation-sym, sum_by-IsPermutation}
use Rattle.std.proofs.lemmas.List.Sums.{sum_by-cons}
use Rattle.geom.specs.declared.op.Op.TheVariants.{Union}
use Rattle.geom.specs.declared.edge.Edge.{Edge}
use Rattle.geom.specs.declared.directed.DirectedEdge.{DirectedEdge}
use Rattle.geom.specs.Directed.{IsDirectedBefore, RunsAlong}
use Rattle.geom.specs.Holes.{HasGroundedRings}
use Rattle.geom.specs.Limit.{AreInLimit}
use Rattle.geom.specs.NodedEdges.{AreNodedEdges}
use Rattle.geom.specs.Rings.{Closes}
use Rattle.geom.proofs.ListOrder.{pairs_head, pairs_tail}
use Rattle.geom.proofs.Lists.{Distinct, In, contains_in, in_contains, in_map, map_in}
use Rattle.geom.proofs.Owners.{all_in}
use Rattle.geom.proofs.RingEdges.{flat_in, in_flat}
use Rattle.points_law.proofs.OwnersOfRings.{noded_result}
use Rattle.points_law.proofs.RoundVertex.{closes, grounded}
use Rattle.polygonize.proofs.Lists.{same_elements}
use Rattle.polygonize.proofs.Permuted.{all_pairs_permutation}
use Rattle.cover_law.specs.Areas.{row_area}
use Rattle.cover_law.specs.Cover.{AreBorders, Bordered, edges_in}
use Rattle.cover_law.specs.Rows as law
use Rattle.cover_law.specs.Rows.{AreRowEdges, AreRows, IsRow, IsRowEdge, IsSetBefore}
use Rattle.cover_law.proofs.OneRows.{set_before_itself}
use Rattle.cover_law.proofs.RowLayers.{row_is_layer}
use Rattle.cover_sets.specs.Sets.{AreSets, IsNumber, set_of}
use Rattle.rows.specs.declared.edges.RowEdge.{RowEdge}
use Rattle.rows.specs.declared.parts.Row.{Row}
use Rattle.rows.specs.declared.runs.RowSet.{RowSet}
use Rattle.rows.specs.Made.{AreReady, IsBound, IsRowOf, ids_in, row_of}
use Rattle.rows.specs.RowEdges.{AreEdgesOfRows, IsEdgeOfRow, IsRowEdgeBefore, row_edge}
use Rattle.rows.specs.RowSets.{AreRowSets, edge_of, edges_at, run_of}
use Rattle.rows.proofs.Grouping.{pairs_slice}
use Rattle.rows.proofs.SetOrder.{set_order}
use Rattle.rows.proofs.Zips.{map_pairs, zip_of, zip_pairs, zip_to}

-- ---- what the directed edges of a row are good for
run_in : (d : DirectedEdge) (e : Edge) → RunsAlong d e → AreInLimit e.p e.q → AreInLimit d.from d.to
run_in d e (inl h) l = let P : DirectedEdge → Type 0 = λ t. AreInLimit t.from t.to in subst P (sym h) l
run_in d e (inr h) l = let P : DirectedEdge → Type 0 = λ t. AreInLimit t.from t.to in subst P (sym h) (record { a_in = l.b_in; b_in = l.a_in })

module _ (count : ℕ) (es : List Bordered) (h : AreBorders es) (set : List ℕ) (some : set ≢ []) (directed : List DirectedEdge) (are : AreRowEdges count es set directed) where
  row_closes : Closes directed
  row_closes = let l = row_is_layer count es h set some in closes Union l.0 l.1.layers directed (l.1.directed directed are)

  row_noded : AreNodedEdges directed
  row_noded = let l = row_is_layer count es h set some in noded_result Union l.0 directed l.1.layers (l.1.directed directed are)

  row_grounded : HasGroundedRings directed
  row_grounded rings r = let l = row_is_layer count es h set some in grounded Union l.0 l.1.layers directed (l.1.directed directed are) rings r

  row_in_limit : All (λ d. AreInLimit d.from d.to) directed
  row_in_limit = all_in (λ (d : DirectedEdge). AreInLimit d.from d.to) directed (λ d i.
      let e : IsRowEdge count es set d = (are.exact d).0 (in_contains directed d i) in
      run_in d e.edge e.runs (All-contains (λ (x : Edge). AreInLimit x.p x.q) (edges_in es) e.edge h.in_limit e.rounded))

-- ---- the row edges of one set
run_ascends : (n : ℕ) (ys : List RowEdge) → ((y : RowEdge) → In y ys → y.set ≡ n) → AllPairs IsRowEdgeBefore ys → AllPairs IsDirectedBefore (map edge_of ys)
run_ascends n [] h p = λ i j d a b. absurd (omega (arith, b))
run_ascends n (y ∷ ys) h p = AllPairs-cons IsDirectedBefore y.edge (map edge_of ys)
    (all_in (IsDirectedBefore y.edge) (map edge_of ys) (λ d i. let m = in_map edge_of ys d i in
    subst (IsDirectedBefore y.edge) m.2 (by_order m.0 (pairs_head IsRowEdgeBefore y ys p m.0 m.1) (h y (inl refl)) (h m.0 (inr m.1)))))
    (run_ascends n ys (λ z i. h z (inr i)) (pairs_tail IsRowEdgeBefore y ys p))
  where
    by_order : (z : RowEdge) → IsRowEdgeBefore y z → y.set ≡ n → z.set ≡ n → IsDirectedBefore y.edge z.edge
    by_order z (inl b) k l = absurd (omega (arith, b, k, l))
    by_order z (inr b) k l = b.1

one_set : (rs : List RowSet) → AllPairs (λ r s. r.set < s.set) rs → (r s : RowSet) → In r rs → In s rs → r.set ≡ s.set → r ≡ s
one_set [] p r s i j e = absurd i
one_set (q ∷ rs) p r s (inl a) (inl b) e = sym a ∙ b
one_set (q ∷ rs) p r s (inl a) (inr b) e = let h = pairs_head (λ (x y : RowSet). x.set < y.set) q rs p s b in let k = ap (λ (x : RowSet). x.set) a in absurd (omega (arith, h, k, e))
one_set (q ∷ rs) p r s (inr a) (inl b) e = let h = pairs_head (λ (x y : RowSet). x.set < y.set) q rs p r a in let k = ap (λ (x : RowSet). x.set) b in absurd (omega (arith, h, k, e))
one_set (q ∷ rs) p r s (inr a) (inr b) e = one_set rs (pairs_tail (λ (x y : RowSet). x.set < y.set) q rs p) r s a b e

first_in : {X : Type 0} (xs : List X) (a b : ℕ) → a < b → b ≤ length xs → (x : X) × In x (slice_range xs a b)
first_in {X} xs a b h l = by_some (slice_range xs a b) (long xs a b h l)
  where
    by_some : (ys : List X) → 0 < length ys → (x : X) × In x ys
    by_some [] k = absurd (omega (arith, k))
    by_some (y ∷ ys) k = (y, inl refl)

    long : (xs : List X) (a b : ℕ) → a < b → b ≤ length xs → 0 < length (slice_range xs a b)
    long xs a b h l =
        let s = length-take (b - a) (drop a xs) in
        let t = length-drop a xs in
        omega (arith, h, l, s, t)

-- the directed edges of a set ascend
pub row_ascends : (edges : List RowEdge) (row_sets : List RowSet) → AllPairs IsRowEdgeBefore edges → AreRowSets edges row_sets → (r : RowSet) → In r row_sets → AllPairs IsDirectedBefore (edges_at edges r)
row_ascends edges row_sets up G r i = run_ascends r.set (run_of edges r)
    (λ e j. All-contains (λ (x : RowEdge). x.set ≡ r.set) (run_of edges r) e (G.same r (in_contains row_sets r i)) (in_contains (run_of edges r) e j))
    (pairs_slice IsRowEdgeBefore edges r.from r.to up)

module _ (count : ℕ) (es : List Bordered) (sets : List (List ℕ)) (edges : List RowEdge) (row_sets : List RowSet) (S : AreSets sets) (E : AreEdgesOfRows count es sets edges) (G : AreRowSets edges row_sets) where
  -- what stands in a run stands among all
  run_there : (r : RowSet) → In r row_sets → (e : RowEdge) → In e (run_of edges r) → In e edges
  run_there r i e j = subst (λ (xs : List RowEdge). In e xs) G.together (in_flat (run_of edges) row_sets r e i j)

  run_set : (r : RowSet) → In r row_sets → (e : RowEdge) → In e (run_of edges r) → e.set ≡ r.set
  run_set r i e j = All-contains (λ (x : RowEdge). x.set ≡ r.set) (run_of edges r) e (G.same r (in_contains row_sets r i)) (in_contains (run_of edges r) e j)

  -- and what stands among all stands in the run of its set
  run_of_edge : (e : RowEdge) → In e edges → (r : RowSet) × In r row_sets × In e (run_of edges r)
  run_of_edge e i = flat_in (run_of edges) row_sets e (subst (λ (xs : List RowEdge). In e xs) (sym G.together) i)

  module _ (r : RowSet) (i : In r row_sets) where
    range : (r.from < r.to) × (r.to ≤ length edges)
    range = All-contains (λ (q : RowSet). (q.from < q.to) × (q.to ≤ length edges)) row_sets r G.some (in_contains row_sets r i)

    first : (e : RowEdge) × In e (run_of edges r)
    first = first_in edges r.from r.to range.0 range.1

    first_is : IsEdgeOfRow count es sets r.set (first.0).edge
    first_is = subst (λ (n : ℕ). IsEdgeOfRow count es sets n (first.0).edge) (run_set r i first.0 first.1) (E.only first.0 (in_contains edges first.0 (run_there r i first.0 first.1)))

    pub row_number : IsNumber sets r.set
    row_number = first_is.number

    pub row_covered : set_of sets r.set ≢ []
    row_covered = first_is.covered

    pub row_some : edges_at edges r ≢ []
    row_some h = subst (λ (ds : List DirectedEdge). In (first.0).edge ds) h (map_in edge_of (run_of edges r) first.0 first.1)

    to_row : (d : DirectedEdge) → In d (edges_at edges r) → IsRowEdge count es (set_of sets r.set) d
    to_row d j =
        let m = in_map edge_of (run_of edges r) d j in
        let o = E.only m.0 (in_contains edges m.0 (run_there r i m.0 m.1)) in
        subst (λ (x : DirectedEdge). IsRowEdge count es (set_of sets r.set) x) m.2 (subst (λ (n : ℕ). IsRowEdge count es (set_of sets n) (m.0).edge) (run_set r i m.0 m.1) o.is_edge)

    of_row : (d : DirectedEdge) → IsRowEdge count es (set_of sets r.set) d → In d (edges_at edges r)
    of_row d k =
        let o = E.each (set_of sets r.set) d row_covered k in
        let n = S.apart o.0 r.set o.1.0 row_number o.1.1 in
        let q = run_of_edge (row_edge o.0 d) (contains_in edges (row_edge o.0 d) o.2) in
        let same = one_set row_sets G.ascending q.0 r q.1 i (sym (run_set q.0 q.1 (row_edge o.0 d) q.2) ∙ n) in
        map_in edge_of (run_of edges r) (row_edge o.0 d) (subst (λ (x : RowSet). In (row_edge o.0 d) (run_of edges x)) same q.2)

    pub row_edges_at : AreRowEdges count es (set_of sets r.set) (edges_at edges r)
    row_edges_at = record {
      ascending = row_ascends edges row_sets E.ascending G r i;
      exact = λ d. ((λ c. to_row d (contains_in (edges_at edges r) d c)), (λ k. in_contains (edges_at edges r) d (of_row d k)));
    }

-- ---- what is asked for before
pub all_ready : (count : ℕ) (es : List Bordered) (sets : List (List ℕ)) (edges : List RowEdge) (row_sets : List RowSet) → AreBorders es → AreSets sets → AreEdgesOfRows count es sets edges → AreRowSets edges row_sets → AreReady sets edges row_sets
all_ready count es sets edges row_sets h S E G = record {
  are_sets = S;
  are_row_sets = G;
  bound = all_in (IsBound sets edges) row_sets (λ r i.
      let covered = row_covered count es sets edges row_sets S E G r i in
      let are = row_edges_at count es sets edges row_sets S E G r i in
      let range = All-contains (λ (q : RowSet). (q.from < q.to) × (q.to ≤ length edges)) row_sets r G.some (in_contains row_sets r i) in
      record {
        some = range.0;
        within = range.1;
        number = row_number count es sets edges row_sets S E G r i;
        closes = row_closes count es h (set_of sets r.set) covered (edges_at edges r) are;
        in_limit = row_in_limit count es h (set_of sets r.set) covered (edges_at edges r) are;
      });
}

pub numbers_are : (sets : List (List ℕ)) (edges : List RowEdge) (row_sets : List RowSet) → All (IsBound sets edges) row_sets → All (λ r. IsNumber sets r.set) row_sets
numbers_are sets edges row_sets h = all_in (λ (r : RowSet). IsNumber sets r.set) row_sets (λ r i. (All-contains (IsBound sets edges) row_sets r h (in_contains row_sets r i)).number)

-- ---- how many features
module _ (count : ℕ) (es : List Bordered) (sets : List (List ℕ)) (edges : List RowEdge) (row_sets : List RowSet) (S : AreSets sets) (E : AreEdgesOfRows count es sets edges) (G : AreRowSets edges row_sets) (rows : List law.Row) (R : AreRows count es rows) where
  set_at : RowSet → List ℕ
  set_at r = set_of sets r.set

  set_in_row : law.Row → List ℕ
  set_in_row r = r.set

  sets_once : (rs : List RowSet) → AllPairs (λ r s. r.set < s.set) rs → ((r : RowSet) → In r rs → IsNumber sets r.set) → Distinct (map set_at rs)
  unfolding set_at
  sets_once [] p h = tt
  sets_once (r ∷ rs) p h = (
    (λ i. let m = in_map set_at rs (set_at r) i in
        let same = S.apart (m.0).set r.set (h m.0 (inr m.1)) (h r (inl refl)) m.2 in
        let less = pairs_head (λ (x y : RowSet). x.set < y.set) r rs p m.0 m.1 in
        absurd (omega (arith, same, less))),
    sets_once rs (pairs_tail (λ (x y : RowSet). x.set < y.set) r rs p) (λ q i. h q (inr i)),
  )

  rows_once : (rs : List law.Row) → AllPairs (λ r s. IsSetBefore r.set s.set) rs → Distinct (map set_in_row rs)
  unfolding set_in_row
  rows_once [] p = tt
  rows_once (r ∷ rs) p = (
    (λ i. let m = in_map set_in_row rs r.set i in set_before_itself r.set (subst (IsSetBefore r.set) m.2 (pairs_head (λ (x y : law.Row). IsSetBefore x.set y.set) r rs p m.0 m.1))),
    rows_once rs (pairs_tail (λ (x y : law.Row). IsSetBefore x.set y.set) r rs p),
  )

  to_rows : (set : List ℕ) → In set (map set_at row_sets) → In set (map set_in_row rows)
  unfolding set_at set_in_row
  to_rows set i =
      let m = in_map set_at row_sets set i in
      let f = first count es sets edges row_sets S E G m.0 m.1 in
      let o = first_is count es sets edges row_sets S E G m.0 m.1 in
      let row = R.each (set_of sets (m.0).set) (f.0).edge o.covered o.is_edge in
      subst (λ (s : List ℕ). In s (map set_in_row rows)) (row.2 ∙ m.2) (map_in set_in_row rows row.0 (contains_in rows row.0 row.1))

  of_rows : (set : List ℕ) → In set (map set_in_row rows) → In set (map set_at row_sets)
  unfolding set_at set_in_row
  of_rows set i =
      let m = in_map set_in_row rows set i in
      let o = R.only m.0 (in_contains rows m.0 m.1) in
      let d = some_in o.directed o.some in
      let e = E.each (m.0).set d.0 o.covered ((o.are_edges.exact d.0).0 (in_contains o.directed d.0 d.1)) in
      by_set m.0 m.2 e.0 d.0 e.1.1 (run_of_edge count es sets edges row_sets S E G (row_edge e.0 d.0) (contains_in edges (row_edge e.0 d.0) e.2))
    where
      by_set : (row : law.Row) → row.set ≡ set → (n : ℕ) (d : DirectedEdge) → set_of sets n ≡ row.set → (r : RowSet) × In r row_sets × In (row_edge n d) (run_of edges r) → In set (map set_at row_sets)
      by_set row e n d h q = subst (λ (s : List ℕ). In s (map set_at row_sets)) (ap (set_of sets) (sym (run_set count es sets edges row_sets S E G q.0 q.1 (row_edge n d) q.2)) ∙ h ∙ e) (map_in set_at row_sets q.0 q.1)

      some_in : (ds : List DirectedEdge) → ds ≢ [] → (d : DirectedEdge) × In d ds
      some_in [] n = absurd (n refl)
      some_in (d ∷ ds) n = (d, inl refl)

  pub ids_are : sum_by (λ r. length (set_of sets r.set)) row_sets ≡ ids_in rows
  unfolding set_at set_in_row
  ids_are = sum_of_map set_at row_sets
      ∙ sym (sum_by-IsPermutation length (map set_at row_sets) (map set_in_row rows)
      (same_elements (map set_at row_sets) (map set_in_row rows) (sets_once row_sets G.ascending (λ r i. row_number count es sets edges row_sets S E G r i)) (rows_once rows R.ascending) to_rows of_rows))
      ∙ sym (sum_of_map set_in_row rows)
    where
      sum_of_map : {X : Type 0} (f : X → List ℕ) (xs : List X) → sum_by (λ x. length (f x)) xs ≡ sum_by length (map f xs)
      sum_of_map f [] = refl
      sum_of_map f (x ∷ xs) = sum_by-cons (λ y. length (f y)) x xs ∙ ap (λ (n : ℕ). length (f x) + n) (sum_of_map f xs) ∙ sym (sum_by-cons length (f x) (map f xs))

-- ---- all rows
module _ {M : Type 0} (count : ℕ) (es : List Bordered) (h : AreBorders es) (sets : List (List ℕ)) (edges : List RowEdge) (row_sets ordered : List RowSet) (S : AreSets sets) (E : AreEdgesOfRows count es sets edges) (G : AreRowSets edges row_sets) (again : IsPermutation row_sets ordered) (made sorted : List (Row M)) (zip : AllZip (IsRowOf sets edges) ordered made) (moved : IsPermutation made sorted) (up : AllPairs (λ (r s : Row M). ¬ (IsSetBefore s.features.items r.features.items)) sorted) where
  abbrev Made : RowSet → Row M → Type 0
  Made = IsRowOf sets edges

  set_in : Row M → List ℕ
  set_in r = r.features.items

  from_ordered : (r : RowSet) → In r ordered → In r row_sets
  from_ordered r i = contains_in row_sets r (Contains-permutation ordered row_sets r (IsPermutation-sym row_sets ordered again) (in_contains ordered r i))

  to_ordered : (r : RowSet) → In r row_sets → In r ordered
  to_ordered r i = contains_in ordered r (Contains-permutation row_sets ordered r again (in_contains row_sets r i))

  is_row : (r : RowSet) (m : Row M) → In r row_sets → Made r m → IsRow count es (row_of m)
  is_row r m i o =
      let covered = row_covered count es sets edges row_sets S E G r i in
      let are = row_edges_at count es sets edges row_sets S E G r i in
      record {
        covered = λ e. covered (sym o.set_is ∙ e);
        directed = edges_at edges r;
        are_edges = subst (λ (s : List ℕ). AreRowEdges count es s (edges_at edges r)) (sym o.set_is) are;
        some = row_some count es sets edges row_sets S E G r i;
        are_polygons = o.are_polygons (row_noded count es h (set_of sets r.set) covered (edges_at edges r) are) (row_grounded count es h (set_of sets r.set) covered (edges_at edges r) are);
        each_edge = o.each_edge;
      }

  only : (row : law.Row) → Contains (map (row_of {M = M}) sorted) row → IsRow count es row
  only row c =
      let m = in_map (row_of {M = M}) sorted row (contains_in (map (row_of {M = M}) sorted) row c) in
      let there = contains_in made m.0 (Contains-permutation sorted made m.0 (IsPermutation-sym made sorted moved) (in_contains sorted m.0 m.1)) in
      let o = zip_of Made ordered made zip m.0 there in
      subst (λ (x : law.Row). IsRow count es x) m.2 (is_row o.0 m.0 (from_ordered o.0 o.1) o.2)

  each : (set : List ℕ) (d : DirectedEdge) → set ≢ [] → IsRowEdge count es set d → (row : law.Row) × Contains (map (row_of {M = M}) sorted) row × (row.set ≡ set)
  each set d n k =
      let o = E.each set d n k in
      by_set o.0 o.1.1 (run_of_edge count es sets edges row_sets S E G (row_edge o.0 d) (contains_in edges (row_edge o.0 d) o.2))
    where
      by_row : (r : RowSet) → set_of sets r.set ≡ set → (m : Row M) × In m made × Made r m → (row : law.Row) × Contains (map (row_of {M = M}) sorted) row × (row.set ≡ set)
      by_row r h m =
          let there = contains_in sorted m.0 (Contains-permutation made sorted m.0 moved (in_contains made m.0 m.1)) in
          (row_of m.0, in_contains (map (row_of {M = M}) sorted) (row_of m.0) (map_in (row_of {M = M}) sorted m.0 there), m.2.set_is ∙ h)

      by_set : (n : ℕ) → set_of sets n ≡ set → (r : RowSet) × In r row_sets × In (row_edge n d) (run_of edges r) → (row : law.Row) × Contains (map (row_of {M = M}) sorted) row × (row.set ≡ set)
      by_set n h q = by_row q.0 (ap (set_of sets) (sym (run_set count es sets edges row_sets S E G q.0 q.1 (row_edge n d) q.2)) ∙ h) (zip_to Made ordered made zip q.0 (to_ordered q.0 q.1))

  sets_apart : AllPairs (λ (r s : RowSet). r.set ≢ s.set) ordered
  sets_apart = all_pairs_permutation (λ (r s : RowSet). r.set ≢ s.set) (λ r s n e. n (sym e)) row_sets ordered again
      (λ i j d a b e. let l = G.ascending i j d a b in absurd (omega (arith, l, e)))

  -- rows of different sets have different features
  apart : AllPairs (λ (r s : Row M). r.features.items ≢ s.features.items) sorted
  apart = all_pairs_permutation (λ (r s : Row M). r.features.items ≢ s.features.items) (λ r s n e. n (sym e)) made sorted moved
      (zip_pairs Made (λ (r s : RowSet). r.set ≢ s.set) (λ (r s : Row M). r.features.items ≢ s.features.items) ordered made
      (λ r s m n i j l a b e. l (S.apart r.set s.set (row_number count es sets edges row_sets S E G r (from_ordered r i)) (row_number count es sets edges row_sets S E G s (from_ordered s j)) (sym a.set_is ∙ e ∙ b.set_is)))
      zip sets_apart)

  pub are_rows : AreRows count es (map (row_of {M = M}) sorted)
  are_rows = record {
    ascending = map_pairs (λ (r s : law.Row). IsSetBefore r.set s.set) (row_of {M = M}) sorted (λ i j d a b. set_order (get_or sorted i d).features.items (get_or sorted j d).features.items (apart i j d a b) (up i j d a b));
    only = only;
    each = each;
  }

pub areas_are : {M : Type 0} (sets : List (List ℕ)) (edges : List RowEdge) (row_sets : List RowSet) (made sorted : List (Row M)) → AllZip (IsRowOf sets edges) row_sets made → IsPermutation made sorted → All (λ (r : Row M). r.twice_area ≡ row_area (row_of r)) sorted
areas_are {M} sets edges row_sets made sorted zip moved = All-permutation (λ (r : Row M). r.twice_area ≡ row_area (row_of r)) made sorted moved
    (all_in (λ (r : Row M). r.twice_area ≡ row_area (row_of r)) made (λ m i. (zip_of (IsRowOf sets edges) row_sets made zip m i).2.area_is))
