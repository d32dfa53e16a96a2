-- The areas of the rows that have a feature add up to that of the feature.
use Rattle.std.proofs.Common.{◌≡◌, ◌⊎◌, inl, inr, ℕ, ◌<◌, List, [], ◌∷◌, Bool, true, false, not, cond, refl, sym, ap, ◌∙◌, arith, subst, ⊎_elim, eqb-true}
use Rattle.std.specs.List.{AllPairs, Contains, filter}
use Rattle.std.specs.Prelude.{◌==◌, ◌≢◌, ◌&&◌, flat_map}
use Rattle.std.proofs.Math.IntN.{ℤ, pos, ◌-ℤ◌}
use Rattle.std.proofs.lemmas.Int.{ints}
use Rattle.geom.specs.declared.edge.Edge.{Edge}
use Rattle.geom.specs.declared.directed.DirectedEdge.{DirectedEdge}
use Rattle.geom.specs.Canonical.{written_rings}
use Rattle.geom.specs.Directed.{from_to}
use Rattle.geom.specs.Parity as geom
use Rattle.geom.specs.ResultEdges.{left_side, right_side}
use Rattle.geom.specs.Rings.{ring_edges}
use Rattle.geom.proofs.Lists.{Distinct, In, contains_in, in_contains}
use Rattle.geom.proofs.ListOrder.{pairs_tail}
use Rattle.points_law.proofs.Choices.{left, right}
use Rattle.points_law.proofs.Even.{by_test, not_true}
use Rattle.points_law.proofs.Layers.{first_pairs}
use Rattle.cover_law.specs.Cover.{AreBorders, Bordered, border, cover, edges_in, has, numbers_from}
use Rattle.cover_law.specs.Rows.{AreRows, IsSetBefore, Row, is_covered_by, same_list}
use Rattle.cover_law.specs.Areas.{AreFeatureEdges, row_area, rows_with, sum_of, twice_area}
use Rattle.cover_law.specs.Laws.{AreasAddUp}
use Rattle.cover_law.proofs.BoundedAreas.{along, bounded_area, edge_area}
use Rattle.cover_law.proofs.InRow.{same_itself, turned}
use Rattle.cover_law.proofs.IntegerSums.{exchange, sum_cong, sum_filter, sum_less, sum_none, sum_single, when}
use Rattle.cover_law.proofs.OneRows.{one_row, set_before_itself}
use Rattle.cover_law.proofs.Projected.{all_edges}
use Rattle.cover_law.proofs.RoundedBorders.{has_odd}
use Rattle.cover_law.proofs.Told.{are_just, feature}

-- ---- lists of numbers
both_of : (a b : Bool) → a && b ≡ true → (a ≡ true) × (b ≡ true)
both_of a b h = (grind arith, grind arith)

same_lists : (fs gs : List ℕ) → same_list fs gs ≡ true → fs ≡ gs
same_lists [] [] h = refl
same_lists [] (g ∷ gs) h = absurd (let k = h in cc)
same_lists (f ∷ fs) [] h = absurd (let k = h in cc)
same_lists (f ∷ fs) (g ∷ gs) h = let b = both_of (f == g) (same_list fs gs) h in ap (λ (x : ℕ). x ∷ fs) (eqb-true f g b.0) ∙ ap (λ (xs : List ℕ). g ∷ xs) (same_lists fs gs b.1)

empty_or_not : (fs : List ℕ) → (fs ≡ []) ⊎ (fs ≢ [])
empty_or_not [] = inl refl
empty_or_not (f ∷ fs) = inr (λ h. absurd (let k = h in cc))

differ : (fs gs : List ℕ) → same_list fs gs ≡ false → same_list gs fs ≡ false
differ fs gs h = not_true (same_list gs fs) (λ t. clash (sym (subst (λ (x : List ℕ). same_list fs x ≡ true) (sym (same_lists gs fs t)) (same_itself fs)) ∙ h))
  where
    clash : true ≡ false → ⊥
    clash k = cc

-- ---- rows
each_once : (rows : List Row) → AllPairs (λ r s. IsSetBefore r.set s.set) rows → Distinct rows
each_once [] p = tt
each_once (r ∷ rs) p = (λ i. set_before_itself r.set (first_pairs (λ (r s : Row). IsSetBefore r.set s.set) r r rs p (in_contains rs r i)), each_once rs (pairs_tail (λ (r s : Row). IsSetBefore r.set s.set) r rs p))

pub in_filter : {X : Type 0} (p : X → Bool) (xs : List X) (x : X) → In x (filter p xs) → In x xs
in_filter p [] x i = absurd i
in_filter p (y ∷ ys) x i = ⊎_elim (λ e. inl e) (λ j. inr (in_filter p ys x j)) (kept (p y) y (filter p ys) x i)
  where
    kept : {X : Type 0} (t : Bool) (y : X) (ys : List X) (x : X) → In x (cond t (y ∷ ys) ys) → (y ≡ x) ⊎ In x ys
    kept true y ys x i = i
    kept false y ys x i = inr i

when_no : (t : Bool) (c : ℤ) → t ≡ false → when t c ≡ pos 0
when_no true c h = absurd (let k = h in cc)
when_no false c h = refl

when_inner : (t u : Bool) (c : ℤ) → u ≡ false → when t (when u c) ≡ pos 0
when_inner true u c h = when_no u c h
when_inner false u c h = refl

when_yes : (t u : Bool) (c : ℤ) → u ≡ true → when t (when u c) ≡ when t c
when_yes true true c h = refl
when_yes true false c h = absurd (let k = h in cc)
when_yes false u c h = refl

bounds_both : (a b : Bool) → a ≡ true → b ≡ false → a && not b ≡ true
bounds_both a b h k = grind arith

nothing : (a b : ℤ) → a -ℤ a ≡ b -ℤ b
nothing a b = omega (arith, ints)

module _ (count : ℕ) (bs : List Bordered) (h : AreBorders bs) (rows : List Row) (k : AreRows count bs rows) (f : ℕ) (l : f < count) where
  -- ---- areas by edges
  row_by_edges : (r : Row) → In r rows → row_area r ≡ sum_of (λ e. edge_area e (is_covered_by count bs r.set (left e)) (is_covered_by count bs r.set (right e))) (edges_in bs)
  row_by_edges r i =
      let o = k.only r (in_contains rows r i) in
      bounded_area (edges_in bs) (all_edges bs h) (are_just bs h (numbers_from 0 count) r.set) o.directed o.are_edges.ascending
      (λ d. (
        (λ c. let b = (o.are_edges.exact d).0 c in record { edge = b.edge; inside = b.rounded; runs = b.runs; bounds = b.bounds }),
        (λ b. (o.are_edges.exact d).1 (record { edge = b.edge; rounded = b.inside; runs = b.runs; bounds = b.bounds })),
      ))
      (flat_map ring_edges (written_rings r.polygons)) o.each_edge

  feature_by_edges : (directed : List DirectedEdge) → AreFeatureEdges bs f directed → twice_area directed ≡ sum_of (λ e. edge_area e (geom.parity (border f bs) (left e)) (geom.parity (border f bs) (right e))) (edges_in bs)
  feature_by_edges directed o = bounded_area (edges_in bs) (all_edges bs h) (feature bs h f) directed o.ascending
      (λ d. (
        (λ c. let b = (o.exact d).0 c in record { edge = b.edge; inside = b.rounded; runs = b.runs; bounds = b.bounds }),
        (λ b. (o.exact d).1 (record { edge = b.edge; rounded = b.inside; runs = b.runs; bounds = b.bounds })),
      ))
      directed (λ test. refl)

  -- ---- what the rows with the feature have of one cover set
  with_set : (set : List ℕ) (c : ℤ) → ((set ≡ []) ⊎ ((r : Row) × Contains rows r × (r.set ≡ set))) → sum_of (λ r. when (same_list set r.set) c) (rows_with f rows) ≡ when (has f set) c
  with_set set c (inl e) =
      sum_none (λ r. when (same_list set r.set) c) (rows_with f rows) (λ r i.
      when_no (same_list set r.set) c (not_true (same_list set r.set) (λ t. (k.only r (in_contains rows r (in_filter (λ r. has f r.set) rows r i))).covered (sym (same_lists set r.set t) ∙ e))))
      ∙ sym (when_no (has f set) c (ap (has f) e))
  with_set set c (inr o) =
      sum_filter (λ r. has f r.set) (λ r. when (same_list set r.set) c) rows
      ∙ sum_single (λ r. when (has f r.set) (when (same_list set r.set) c)) rows (each_once rows k.ascending) o.0 (contains_in rows o.0 o.1)
      (λ r i n. when_inner (has f r.set) (same_list set r.set) c (not_true (same_list set r.set) (λ t.
      n (one_row count bs r o.0 (k.only r (in_contains rows r i)) (k.only o.0 o.1) (sym (same_lists set r.set t) ∙ sym o.2)))))
      ∙ when_yes (has f (o.0).set) (same_list set (o.0).set) c (subst (λ (x : List ℕ). same_list set x ≡ true) (sym o.2) (same_itself set))
      ∙ ap (λ (x : List ℕ). when (has f x) c) o.2

  module _ (e : Edge) (i : In e (edges_in bs)) where
    on_left : List ℕ
    on_left = cover count bs (left e)

    on_right : List ℕ
    on_right = cover count bs (right e)

    left_row : same_list on_left on_right ≡ false → (on_left ≡ []) ⊎ ((r : Row) × Contains rows r × (r.set ≡ on_left))
    unfolding on_left on_right
    left_row n =
        let L : List ℕ = cover count bs (left e) in
        let R : List ℕ = cover count bs (right e) in
        let bounds : is_covered_by count bs L (left_side e.p e.q) && not (is_covered_by count bs L (right_side e.p e.q)) ≡ true = bounds_both (same_list L L) (same_list R L) (same_itself L) (differ L R n) in
        ⊎_elim (λ o. inl o) (λ o. inr (k.each L (from_to e.p e.q) o (record { edge = e; rounded = in_contains (edges_in bs) e i; runs = inl refl; bounds = bounds }))) (empty_or_not L)

    right_row : same_list on_left on_right ≡ false → (on_right ≡ []) ⊎ ((r : Row) × Contains rows r × (r.set ≡ on_right))
    unfolding on_left on_right
    right_row n =
        let R : List ℕ = cover count bs (right e) in
        let bounds : is_covered_by count bs R (left_side e.q e.p) && not (is_covered_by count bs R (right_side e.q e.p)) ≡ true = bounds_both (is_covered_by count bs R (left_side e.q e.p)) (is_covered_by count bs R (right_side e.q e.p))
        (turned count bs h R e.p e.q ∙ same_itself R) (sym (turned count bs h R e.q e.p) ∙ n) in
        ⊎_elim (λ o. inl o) (λ o. inr (k.each R (from_to e.q e.p) o (record { edge = e; rounded = in_contains (edges_in bs) e i; runs = inr refl; bounds = bounds }))) (empty_or_not R)

    by_sets : sum_of (λ r. edge_area e (same_list on_left r.set) (same_list on_right r.set)) (rows_with f rows) ≡ edge_area e (has f on_left) (has f on_right)
    by_sets =
        sum_less (λ r. when (same_list on_left r.set) (along e)) (λ r. when (same_list on_right r.set) (along e)) (rows_with f rows)
        ∙ by_test (same_list on_left on_right) _
        (λ t. ap (λ (x : List ℕ). sum_of (λ r. when (same_list on_left r.set) (along e)) (rows_with f rows) -ℤ sum_of (λ r. when (same_list x r.set) (along e)) (rows_with f rows)) (sym (same_lists on_left on_right t))
        ∙ nothing (sum_of (λ r. when (same_list on_left r.set) (along e)) (rows_with f rows)) (when (has f on_left) (along e))
        ∙ ap (λ (x : List ℕ). edge_area e (has f on_left) (has f x)) (same_lists on_left on_right t))
        (λ n. ap (λ (x : ℤ). x -ℤ sum_of (λ r. when (same_list on_right r.set) (along e)) (rows_with f rows)) (with_set on_left (along e) (left_row n))
        ∙ ap (λ (x : ℤ). when (has f on_left) (along e) -ℤ x) (with_set on_right (along e) (right_row n)))

    by_feature : sum_of (λ r. edge_area e (is_covered_by count bs r.set (left e)) (is_covered_by count bs r.set (right e))) (rows_with f rows) ≡ edge_area e (geom.parity (border f bs) (left e)) (geom.parity (border f bs) (right e))
    unfolding on_left on_right
    by_feature = by_sets
        ∙ ap (λ (t : Bool). edge_area e t (has f (cover count bs (right e)))) (has_odd count f l (λ g. geom.parity (border g bs) (left e)))
        ∙ ap (λ (t : Bool). edge_area e (geom.parity (border f bs) (left e)) t) (has_odd count f l (λ g. geom.parity (border g bs) (right e)))

  pub add_up : (directed : List DirectedEdge) → AreFeatureEdges bs f directed → sum_of row_area (rows_with f rows) ≡ twice_area directed
  add_up directed o =
      sum_cong row_area (λ r. sum_of (λ e. edge_area e (is_covered_by count bs r.set (left e)) (is_covered_by count bs r.set (right e))) (edges_in bs)) (rows_with f rows) (λ r i. row_by_edges r (in_filter (λ r. has f r.set) rows r i))
      ∙ exchange (λ r e. edge_area e (is_covered_by count bs r.set (left e)) (is_covered_by count bs r.set (right e))) (rows_with f rows) (edges_in bs)
      ∙ sum_cong (λ e. sum_of (λ r. edge_area e (is_covered_by count bs r.set (left e)) (is_covered_by count bs r.set (right e))) (rows_with f rows)) (λ e. edge_area e (geom.parity (border f bs) (left e)) (geom.parity (border f bs) (right e))) (edges_in bs) by_feature
      ∙ sym (feature_by_edges directed o)

pub areas_add_up : AreasAddUp
areas_add_up count bs h rows k f l directed o = add_up count bs h rows k f l directed o
