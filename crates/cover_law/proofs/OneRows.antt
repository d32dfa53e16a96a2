-- Edges have one list of rows.
use Rattle.std.proofs.Common.{◌≡◌, inl, inr, ℕ, ◌<◌, List, [], ◌∷◌, refl, sym, ◌∙◌, arith, subst}
use Rattle.std.specs.List.{Contains}
use Rattle.std.specs.Prelude.{◌≢◌}
use Rattle.geom.specs.declared.directed.DirectedEdge.{DirectedEdge}
use Rattle.geom.specs.Canonical.{ArePolygons}
use Rattle.geom.specs.Directed.{IsDirectedBefore}
use Rattle.geom.proofs.Lists.{in_contains}
use Rattle.geom.proofs.ListOrder.{same_ascending}
use Rattle.geom.proofs.Orders.{directed_before_itself, directed_before_trans}
use Rattle.geom.proofs.SamePolygons.{same_polygons}
use Rattle.cover_law.specs.Cover.{Bordered}
use Rattle.cover_law.specs.Rows.{AreRows, AreRowEdges, IsRow, IsSetBefore, Row}
use Rattle.cover_law.specs.Laws.{RowsAreOne}

less_itself : (f : ℕ) → f < f → ⊥
less_itself f h = omega arith

pub set_before_itself : (fs : List ℕ) → IsSetBefore fs fs → ⊥
set_before_itself [] h = h
set_before_itself (f ∷ fs) (inl h) = less_itself f h
set_before_itself (f ∷ fs) (inr h) = set_before_itself fs h.1

set_before_trans : (fs gs hs : List ℕ) → IsSetBefore fs gs → IsSetBefore gs hs → IsSetBefore fs hs
set_before_trans [] [] hs a b = absurd a
set_before_trans [] (g ∷ gs) [] a b = absurd b
set_before_trans [] (g ∷ gs) (h ∷ hs) a b = tt
set_before_trans (f ∷ fs) [] hs a b = absurd a
set_before_trans (f ∷ fs) (g ∷ gs) [] a b = absurd b
set_before_trans (f ∷ fs) (g ∷ gs) (h ∷ hs) (inl a) (inl b) = inl (omega arith)
set_before_trans (f ∷ fs) (g ∷ gs) (h ∷ hs) (inl a) (inr b) = let e = b.0 in inl (omega arith)
set_before_trans (f ∷ fs) (g ∷ gs) (h ∷ hs) (inr a) (inl b) = let e = a.0 in inl (omega arith)
set_before_trans (f ∷ fs) (g ∷ gs) (h ∷ hs) (inr a) (inr b) = inr (a.0 ∙ b.0, set_before_trans fs gs hs a.1 b.1)

module _ (count : ℕ) (bs : List Bordered) where
  one_directed : (set : List ℕ) (ds es : List DirectedEdge) → AreRowEdges count bs set ds → AreRowEdges count bs set es → ds ≡ es
  one_directed set ds es h k = same_ascending IsDirectedBefore directed_before_itself directed_before_trans ds es h.ascending k.ascending
      (λ d i. (k.exact d).1 ((h.exact d).0 i)) (λ d i. (h.exact d).1 ((k.exact d).0 i))

  -- two rows of one set are one
  pub one_row : (r s : Row) → IsRow count bs r → IsRow count bs s → r.set ≡ s.set → r ≡ s
  one_row r s h k e = λ i. record { set = e i; polygons = polygons i }
    where
      directed : h.directed ≡ k.directed
      directed = one_directed s.set h.directed k.directed (subst (λ (set : List ℕ). AreRowEdges count bs set h.directed) e h.are_edges) k.are_edges

      polygons : r.polygons ≡ s.polygons
      polygons = same_polygons k.directed k.are_edges.ascending r.polygons s.polygons (subst (λ (ds : List DirectedEdge). ArePolygons ds r.polygons) directed h.are_polygons) k.are_polygons

  first_of : (ds : List DirectedEdge) → ds ≢ [] → (d : DirectedEdge) × Contains ds d
  first_of [] h = absurd (h refl)
  first_of (d ∷ ds) h = (d, in_contains (d ∷ ds) d (inl refl))

  there : (rows others : List Row) → AreRows count bs rows → AreRows count bs others → (r : Row) → Contains rows r → Contains others r
  there rows others h k r i =
      let is = h.only r i in
      let d = first_of is.directed is.some in
      let o = k.each r.set d.0 is.covered ((is.are_edges.exact d.0).0 d.1) in
      subst (λ (s : Row). Contains others s) (sym (one_row r o.0 is (k.only o.0 o.1) (sym o.2))) o.1

  pub one_list : (rows others : List Row) → AreRows count bs rows → AreRows count bs others → rows ≡ others
  one_list rows others h k = same_ascending (λ (r s : Row). IsSetBefore r.set s.set) (λ r. set_before_itself r.set) (λ r s t. set_before_trans r.set s.set t.set) rows others h.ascending k.ascending
      (there rows others h k) (there others rows k h)

pub rows_are_one : RowsAreOne
rows_are_one count bs rows others h k = one_list count bs rows others h k
