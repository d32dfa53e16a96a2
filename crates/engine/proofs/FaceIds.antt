-- How many features the rows of layers have together is one number: that of the features of any list of their rows.
use Rattle.std.proofs.Common.{◌≡◌, ◌∙◌, inl, ℕ, ◌+◌, List, [], ◌∷◌, length, map, refl, sym, ap, arith, subst, sum_by}
use Rattle.std.specs.List.{AllPairs, Contains}
use Rattle.std.specs.Prelude.{◌≢◌}
use Rattle.std.proofs.lemmas.List.Kept.{AllPairs-cons}
use Rattle.std.proofs.lemmas.List.Sums.{sum_by-cons}
use Rattle.geom.specs.declared.directed.DirectedEdge.{DirectedEdge}
use Rattle.geom.specs.declared.point.Pt.{Pt}
use Rattle.geom.specs.declared.segment.Seg.{Seg}
use Rattle.geom.proofs.ListOrder.{pairs_head, pairs_tail}
use Rattle.geom.proofs.Lists.{In, contains_in, in_contains, in_map, map_in}
use Rattle.geom.proofs.Owners.{all_in}
use Rattle.points_law.proofs.OneResult.{same_segments}
use Rattle.cover_law.specs.Borders.{AreBordered}
use Rattle.cover_law.specs.Changing.{changing}
use Rattle.cover_law.specs.Cover.{Bordered}
use Rattle.cover_law.specs.Faces.{AreFaces}
use Rattle.cover_law.specs.Rows.{AreRows, IsRowEdge, IsSetBefore, Row}
use Rattle.cover_law.proofs.ChangingEdges.{changing_have_same_rows}
use Rattle.cover_law.proofs.FaceLaws.{faces_tell}
use Rattle.cover_law.proofs.OneRows.{set_before_itself}
use Rattle.cover_law.proofs.RoundedBorders.{borders_are_one}
use Rattle.rows.specs.Made.{ids_in}
use Rattle.layers.specs.FacesRefusals.{HaveIds, IsNumberOfIds}
use Rattle.layers.specs.Segments.{AllInLimit}
use Rattle.engine.proofs.SameMembers.{at_most}

-- ---- one number
module _ (count : ℕ) (edges : List Bordered) where
  no_more : (m n : ℕ) (h : IsNumberOfIds count edges m) (k : IsNumberOfIds count edges n) → (set : List ℕ) → In set h.0 → In set k.0
  no_more m n h k set i = contains_in k.0 set ((k.1.exact set).1 ((h.1.exact set).0 (in_contains h.0 set i)))

  one_number : (m n : ℕ) → IsNumberOfIds count edges m → IsNumberOfIds count edges n → m ≡ n
  one_number m n h k =
      let a = at_most length h.0 k.0 h.1.once (no_more m n h k) in
      let b = at_most length k.0 h.0 k.1.once (no_more n m k h) in
      let c = h.2 in
      let d = k.2 in
      omega (arith, a, b, c, d)

  -- ---- the sets of rows
  abbrev set_in : Row → List ℕ
  set_in r = r.set

  apart : (s t : List ℕ) → IsSetBefore s t → s ≢ t
  apart s t h e = set_before_itself t (subst (λ (u : List ℕ). IsSetBefore u t) e h)

  once : (rows : List Row) → AllPairs (λ (r s : Row). IsSetBefore r.set s.set) rows → AllPairs (λ (s t : List ℕ). s ≢ t) (map set_in rows)
  once [] p = λ i j d a b. absurd (omega (arith, b))
  once (r ∷ rows) p = AllPairs-cons (λ (s t : List ℕ). s ≢ t) r.set (map set_in rows)
      (all_in (λ (t : List ℕ). r.set ≢ t) (map set_in rows) (λ t i.
      let m = in_map set_in rows t i in
      subst (λ (u : List ℕ). r.set ≢ u) m.2 (apart r.set (m.0).set (pairs_head (λ (x y : Row). IsSetBefore x.set y.set) r rows p m.0 m.1))))
      (once rows (pairs_tail (λ (x y : Row). IsSetBefore x.set y.set) r rows p))

  some_in : (ds : List DirectedEdge) → ds ≢ [] → (d : DirectedEdge) × In d ds
  some_in [] n = absurd (n refl)
  some_in (d ∷ ds) n = (d, inl refl)

  to_edge : (rows : List Row) → AreRows count edges rows → (set : List ℕ) → Contains (map set_in rows) set → (set ≢ []) × (d : DirectedEdge) × IsRowEdge count edges set d
  to_edge rows h set c =
      let m = in_map set_in rows set (contains_in (map set_in rows) set c) in
      let r = h.only m.0 (in_contains rows m.0 m.1) in
      let d = some_in r.directed r.some in
      subst (λ (s : List ℕ). (s ≢ []) × (e : DirectedEdge) × IsRowEdge count edges s e) m.2
      (r.covered, d.0, (r.are_edges.exact d.0).0 (in_contains r.directed d.0 d.1))

  of_edge : (rows : List Row) → AreRows count edges rows → (set : List ℕ) → (set ≢ []) × (d : DirectedEdge) × IsRowEdge count edges set d → Contains (map set_in rows) set
  of_edge rows h set k =
      let o = h.each set k.1 k.0 k.2 in
      in_contains (map set_in rows) set (subst (λ (s : List ℕ). In s (map set_in rows)) o.2 (map_in set_in rows o.0 (contains_in rows o.0 o.1)))

  sum_of_sets : (rows : List Row) → ids_in rows ≡ sum_by length (map set_in rows)
  sum_of_sets [] = refl
  sum_of_sets (r ∷ rows) = sum_by-cons (λ (q : Row). length q.set) r rows ∙ ap (λ (n : ℕ). length r.set + n) (sum_of_sets rows) ∙ sym (sum_by-cons length r.set (map set_in rows))

  number_of_rows : (rows : List Row) → AreRows count edges rows → IsNumberOfIds count edges (ids_in rows)
  number_of_rows rows h = (map set_in rows, record { once = once rows h.ascending; exact = λ set. (to_edge rows h set, of_edge rows h set) }, sum_of_sets rows)

-- ---- of features
one_edges : (fs : List (List (List Pt))) (m : ℕ) (h : HaveIds fs m) (segments : List Seg) (owners : List ℕ) (edges : List Bordered) → h.segments ≡ segments → h.owners ≡ owners
    → AreBordered (length fs) segments owners edges → h.edges ≡ edges
one_edges fs m h segments owners edges s o are = borders_are_one (length fs) segments owners h.edges edges
    (subst (λ (x : List Seg × List ℕ). AreBordered (length fs) x.0 x.1 h.edges) (λ i. (s i, o i)) h.are_bordered) are

number_over : (fs : List (List (List Pt))) (m : ℕ) (h : HaveIds fs m) (edges : List Bordered) → h.edges ≡ edges → IsNumberOfIds (length fs) (changing edges) m
number_over fs m h edges e = subst (λ (es : List Bordered). IsNumberOfIds (length fs) (changing es) m) e h.is_number

pub one_ids : (fs : List (List (List Pt))) (m n : ℕ) → HaveIds fs m → HaveIds fs n → m ≡ n
one_ids fs m n h k =
    let segments = same_segments h.segments k.segments (h.are_segments.parts_are ∙ sym k.are_segments.parts_are) in
    let owners = h.are_segments.owners_are ∙ sym k.are_segments.owners_are in
    one_number (length fs) (changing k.edges) m n (number_over fs m h k.edges (one_edges fs m h k.segments k.owners k.edges segments owners k.are_bordered)) k.is_number

pub ids_of_rows : (fs : List (List (List Pt))) (m : ℕ) (rows : List Row) → HaveIds fs m → (faces : AreFaces fs rows) → AllInLimit faces.segments → m ≡ ids_in rows
ids_of_rows fs m rows h faces limits =
    let segments = same_segments h.segments faces.segments (h.are_segments.parts_are ∙ sym faces.are_segments.parts_are) in
    let owners = h.are_segments.owners_are ∙ sym faces.are_segments.owners_are in
    let borders = (faces_tell fs rows faces limits).borders in
    one_number (length fs) (changing faces.edges) m (ids_in rows)
    (number_over fs m h faces.edges (one_edges fs m h faces.segments faces.owners faces.edges segments owners faces.are_bordered))
    (number_of_rows (length fs) (changing faces.edges) rows (((changing_have_same_rows faces.edges borders).rows (length fs) rows).0 faces.are_rows))
