-- What the borders of the features of layers are good for, whatever the layers were read from.
use Rattle.std.proofs.Common.{◌≡◌, ◌∙◌, inl, ℕ, ◌+◌, ◌<◌, ◌≤◌, Bool, true, false, List, [], ◌∷◌, length, map, refl, sym, ap, arith, subst, eqb-true}
use Rattle.std.specs.List.{All, AllPairs}
use Rattle.std.specs.Prelude.{◌&&◌, ◌==◌, not, sum}
use Rattle.std.proofs.lemmas.List.{length-append}
use Rattle.std.proofs.lemmas.List.Elements.{All-contains}
use Rattle.std.proofs.lemmas.List.Sums.{sum_by-cons}
use Rattle.geom.specs.declared.directed.DirectedEdge.{DirectedEdge}
use Rattle.geom.specs.declared.point.Pt.{Pt}
use Rattle.geom.specs.ResultEdges.{left_side, right_side}
use Rattle.geom.proofs.Lists.{In, in_contains, map_in}
use Rattle.geom.proofs.Owners.{all_in}
use Rattle.grid.specs.Tiles.{Tiling}
use Rattle.cover_law.specs.declared.border.Border.{Border}
use Rattle.cover_law.specs.Changing.{has_some}
use Rattle.cover_law.specs.Cover.{AreBorders, Bordered, bordered, cover}
use Rattle.cover_law.specs.Rows.{AreRows, IsRow, IsRowEdge, Row, is_covered_by, same_list}
use Rattle.cover_law.proofs.Covers.{cover_is_exact}
use Rattle.linking.specs.declared.bordering.RoundedBorders.{RoundedBorders}
use Rattle.rows.specs.Made.{row_of}
use Rattle.rows.specs.RowEdges.{AreEdgesOfRows}
use Rattle.rows.specs.declared.edges.RowEdge.{RowEdge}
use Rattle.rows.specs.declared.runs.RowSet.{RowSet}
use Rattle.rows.specs.declared.parts.Row as made
use Rattle.engine.specs.declared.faces_run.FaceBorders.{FaceBorders}
use Rattle.layers.specs.declared.feature_segments.LayerSize.{LayerSize}
use Rattle.engine.specs.FaceBorders.{borders_in}
use Rattle.engine.specs.FaceRows.{AreFaceSets}
use Rattle.engine.specs.Faces.{AreBordersOf}
use Rattle.layers.specs.FeatureSegments.{all_features}
use Rattle.engine.proofs.FacesOf.{are_borders, features_below, have_some}

-- ---- the features of a row ascend
both : (a b : Bool) → a && b ≡ true → (a ≡ true) × (b ≡ true)
both true b h = (refl, h)
both false b h = absurd (let k = h in cc)

same_lists : (fs gs : List ℕ) → same_list fs gs ≡ true → fs ≡ gs
same_lists [] [] h = refl
same_lists [] (g ∷ gs) h = absurd (let k = h in cc)
same_lists (f ∷ fs) [] h = absurd (let k = h in cc)
same_lists (f ∷ fs) (g ∷ gs) h =
    let b = both (f == g) (same_list fs gs) h in
    ap (λ (x : ℕ). x ∷ fs) (eqb-true f g b.0) ∙ ap (λ (xs : List ℕ). g ∷ xs) (same_lists fs gs b.1)

row_ascends : (count : ℕ) (edges : List Bordered) (row : Row) → IsRow count edges row → AllPairs (λ (f g : ℕ). f < g) row.set
row_ascends count edges row r = by r.directed r.some (λ d i. (r.are_edges.exact d).0 (in_contains r.directed d i))
  where
    by : (ds : List DirectedEdge) → ((ds ≡ []) → ⊥) → ((d : DirectedEdge) → In d ds → IsRowEdge count edges row.set d) → AllPairs (λ (f g : ℕ). f < g) row.set
    by [] n e = absurd (n refl)
    by (d ∷ ds) n e =
        let z = left_side d.from d.to in
        let t = both (is_covered_by count edges row.set z) (not (is_covered_by count edges row.set (right_side d.from d.to))) (e d (inl refl)).bounds in
        subst (λ (s : List ℕ). AllPairs (λ (f g : ℕ). f < g) s) (same_lists (cover count edges z) row.set t.0) (cover_is_exact count edges z).0

pub rows_ascend : (count : ℕ) (edges : List Bordered) (rows : List Row) → AreRows count edges rows → All (λ (r : Row). AllPairs (λ (f g : ℕ). f < g) r.set) rows
rows_ascend count edges rows h = all_in (λ (r : Row). AllPairs (λ (f g : ℕ). f < g) r.set) rows (λ r i. row_ascends count edges r (h.only r (in_contains rows r i)))

-- ---- the layers' features are few
pub sum_of_features : (layers : List (List (List (List Pt)))) → sum (map (λ (fs : List (List (List Pt))). length fs) layers) ≡ length (all_features layers)
sum_of_features [] = refl
sum_of_features (layer ∷ layers) =
    sum_by-cons (λ (n : ℕ). n) (length layer) (map (λ (fs : List (List (List Pt))). length fs) layers)
    ∙ ap (λ (n : ℕ). length layer + n) (sum_of_features layers)
    ∙ sym (length-append layer (all_features layers))

-- the directed edges of rows that were found are those over the borders
pub edges_over : {M : Type 0} (r : RoundedBorders M) (count : ℕ) (sets : List (List ℕ)) (edges : List RowEdge) (row_sets : List RowSet) (features : List ℕ) (borders : List Border) → All (λ (f : ℕ). f < count) r.features.items
    → features ≡ r.features.items → borders ≡ r.borders.items → AreFaceSets features (map (bordered features) borders) sets edges row_sets → AreEdgesOfRows count (borders_in r) sets edges
edges_over r count sets edges row_sets features borders below fs_are bs_are h =
    let whole = subst (λ (xs : List ℕ). AreFaceSets xs (map (bordered xs) r.borders.items) sets edges row_sets) fs_are
    (subst (λ (xs : List Border). AreFaceSets features (map (bordered features) xs) sets edges row_sets) bs_are h) in
    whole.are_edges count below

module _ {M : Type 0} (layers : List (List (List (List Pt)))) (g : Tiling) (b : FaceBorders M) (of : AreBordersOf layers g b) where
  abbrev fs : List (List (List Pt))
  fs = all_features layers

  -- what the borders have to be for the cover sets, and the rows for what is written of them
  pub borders_hold : AreBorders (borders_in b.rounded)
  borders_hold = are_borders fs of.segments of.owners of.are_segments of.in_limit b.rounded of.rounded

  pub some_hold : All (λ (c : Bordered). has_some c.features ≡ true) (borders_in b.rounded)
  some_hold = have_some fs of.segments of.owners of.are_segments of.in_limit b.rounded of.rounded

  pub below_all : All (λ (f : ℕ). f < length fs) b.rounded.features.items
  below_all = features_below fs of.segments of.owners of.are_segments of.in_limit b.rounded of.rounded

  pub below_limit : All (λ (f : ℕ). f < 2147483647) b.rounded.features.items
  below_limit = all_in (λ (f : ℕ). f < 2147483647) b.rounded.features.items (λ f i.
      let l = All-contains (λ (k : ℕ). k < length fs) b.rounded.features.items f below_all (in_contains b.rounded.features.items f i) in
      let few = of.few in
      omega (arith, l, few))

  pub sizes_fit : sum (map (λ (z : LayerSize). z.features) b.sizes.items) ≤ 4294967295
  sizes_fit =
      let e = ap (λ (ns : List ℕ). sum ns) of.features_are ∙ sum_of_features layers in
      let few = of.few in
      omega (arith, e, few)

  pub ascend_in_rows : {N : Type 0} (rows : List (made.Row N)) → AreRows (length fs) (borders_in b.rounded) (map row_of rows) → All (λ (r : made.Row N). AllPairs (λ (f g : ℕ). f < g) r.features.items) rows
  ascend_in_rows {N = N} rows h = all_in (λ (r : made.Row N). AllPairs (λ (f g : ℕ). f < g) r.features.items) rows (λ r i.
      All-contains (λ (q : Row). AllPairs (λ (f g : ℕ). f < g) q.set) (map row_of rows) (row_of r) (rows_ascend (length fs) (borders_in b.rounded) (map row_of rows) h)
      (in_contains (map row_of rows) (row_of r) (map_in row_of rows r i)))
