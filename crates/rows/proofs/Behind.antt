-- Lists behind lists, and where each begins.
use Rattle.std.proofs.Common.{◌≡◌, ◌∙◌, ℕ, ◌+◌, ◌-◌, ◌<◌, List, [], ◌∷◌, ◌++◌, append_assoc, arith, length, get_or, map, take, drop, refl, sym, ap, subst, ℤ}
use Rattle.std.specs.Prelude.{filter}
use Rattle.std.proofs.lemmas.List.{append-nil, drop_more, length-append, map-append, map_more}
use Rattle.geom.specs.Canonical.{Shape}
use Rattle.columns.specs.Answers.{offsets_from}
use Rattle.columns.specs.Layout.{joined}
use Rattle.columns.proofs.Written.{joined_more, one_list}
use Rattle.cover_law.specs.Areas.{row_area}
use Rattle.cover_law.specs.Rows.{Row}
use Rattle.faces_text.specs.Text.{is_of_layer}
use Rattle.rows.specs.Made.{row_of}
use Rattle.rows.specs.declared.parts.Row as made
use Rattle.rows.specs.declared.number_lists.NumberLists.{NumberLists}
use Rattle.rows.specs.declared.row_columns.RowPolygons.{RowPolygons}
use Rattle.rows.specs.RowColumns.{HaveLists, HaveShapes, layer_lists, places_of, set_lists, shapes_in}

-- one list more behind lists that have their offsets
pub all_behind : {X : Type 0} (lists : List (List X)) (list old new : List X) → old ≡ joined lists → new ≡ old ++ list → new ≡ joined (lists ++ list ∷ [])
all_behind lists list old new is added = added ∙ ap (λ t. t ++ list) is ∙ sym (joined_more lists list)

pub offset_behind : {X : Type 0} (lists : List (List X)) (list new : List X) (offsets after : List ℕ) (past : ℕ) → new ≡ joined (lists ++ list ∷ []) → offsets ≡ offsets_from 0 lists → after ≡ offsets ++ past ∷ [] → past ≡ length new
    → after ≡ offsets_from 0 (lists ++ list ∷ [])
offset_behind lists list new offsets after past all are behind at =
    let long = ap (λ xs. length xs) (all ∙ joined_more lists list) ∙ length-append (joined lists) list in
    behind ∙ ap (λ t. t ++ past ∷ []) are ∙ sym (one_list 0 past lists list (omega (arith, at, long)))

-- the list of the next row
pub next_row : {M : Type 0} (lists : List (List ℕ)) (first past : ℕ) (rows : List (made.Row M)) (i : ℕ) (d : made.Row M) (features : List ℕ) → i < length rows → features ≡ filter (is_of_layer first past) (get_or rows i d).features.items
    → (lists ++ layer_lists first past (map row_of (take i rows))) ++ map (λ f. f - first) features ∷ [] ≡ lists ++ layer_lists first past (map row_of (take (i + 1) rows))
next_row {M} lists first past rows i d features below is =
    let front = layer_lists first past (map row_of (take i rows)) in
    append_assoc lists front (map (λ f. f - first) features ∷ [])
    ∙ ap (λ fs. lists ++ (front ++ map (λ f. f - first) fs ∷ [])) is
    ∙ ap (λ ls. lists ++ ls) (sym more)
  where
    more : layer_lists first past (map row_of (take (i + 1) rows)) ≡ layer_lists first past (map row_of (take i rows)) ++ places_of first past (get_or rows i d).features.items ∷ []
    more = ap (λ (rs : List Row). layer_lists first past rs) (map_more row_of rows i d below) ∙ map-append (λ (r : Row). places_of first past r.set) (map row_of (take i rows)) (row_of (get_or rows i d) ∷ [])

-- the lists of the layers before one, and those from it on
pub record AreListedTo {M : Type 0} (counts : List ℕ) (rows : List Row) (number first : ℕ) (l : NumberLists M) : Type 0 where
  pub done : List (List ℕ)
  pub have : HaveLists done l
  pub whole : done ++ set_lists first (drop number counts) rows ≡ set_lists 0 counts rows

pub next_layer : {M N : Type 0} (counts : List ℕ) (rows : List Row) (i first count d : ℕ) (old : NumberLists M) (new : NumberLists N) → i < length counts → count ≡ get_or counts i d
    → (h : AreListedTo counts rows i first old) → HaveLists (h.done ++ layer_lists first (first + count) rows) new → AreListedTo counts rows (i + 1) (first + count) new
next_layer counts rows i first count d old new below is h have = record {
  done = h.done ++ layer_lists first (first + count) rows;
  have = have;
  whole =
      let here : set_lists first (drop i counts) rows ≡ layer_lists first (first + count) rows ++ set_lists (first + count) (drop (i + 1) counts) rows =
      ap (λ cs. set_lists first cs rows) (drop_more counts i d below ∙ ap (λ c. c ∷ drop (i + 1) counts) (sym is)) in
      append_assoc h.done (layer_lists first (first + count) rows) (set_lists (first + count) (drop (i + 1) counts) rows)
      ∙ ap (λ ls. h.done ++ ls) (sym here) ∙ h.whole;
}

-- the polygons of the rows before some, and those of these
pub record AreShapedTo {M N : Type 0} (rows rest : List (made.Row M)) (p : RowPolygons N) : Type 0 where
  pub done : List (List Shape)
  pub have : HaveShapes done p
  pub whole : done ++ shapes_in (map row_of rest) ≡ shapes_in (map row_of rows)

pub next_shaped : {M N K : Type 0} (rows rest left : List (made.Row M)) (row : made.Row M) (old : RowPolygons N) (new : RowPolygons K) → rest ≡ row ∷ left → (h : AreShapedTo rows rest old) → HaveShapes (h.done ++ row.polygons.items ∷ []) new → AreShapedTo rows left new
next_shaped rows rest left row old new is h have = record {
  done = h.done ++ row.polygons.items ∷ [];
  have = have;
  whole = append_assoc h.done (row.polygons.items ∷ []) (shapes_in (map row_of left)) ∙ ap (λ rs. h.done ++ shapes_in (map row_of rs)) (sym is) ∙ h.whole;
}

pub all_shaped : {M N : Type 0} (rows rest : List (made.Row M)) (p : RowPolygons N) → rest ≡ [] → AreShapedTo rows rest p → HaveShapes (shapes_in (map row_of rows)) p
all_shaped rows rest p none h =
    subst (λ ls. HaveShapes ls p) (sym (append-nil h.done) ∙ ap (λ rs. h.done ++ shapes_in (map row_of rs)) (sym none) ∙ h.whole) h.have

-- the area of the next row
pub next_area : {M : Type 0} (rows : List (made.Row M)) (i : ℕ) (d : made.Row M) (area : ℤ) (areas : List ℤ) → i < length rows → areas ≡ map (λ r. row_area (row_of r)) (take i rows) → area ≡ row_area (row_of (get_or rows i d))
    → areas ++ area ∷ [] ≡ map (λ r. row_area (row_of r)) (take (i + 1) rows)
next_area {M} rows i d area areas below are is =
    ap (λ list. list ++ area ∷ []) are ∙ ap (λ a. map (λ (r : made.Row M). row_area (row_of r)) (take i rows) ++ a ∷ []) is ∙ sym (map_more (λ (r : made.Row M). row_area (row_of r)) rows i d below)
