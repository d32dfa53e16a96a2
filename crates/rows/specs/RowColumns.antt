-- Rows as columns (own; the layout of lists is that of GeoArrow 0.1): twice their areas, the numbers of each layer's features, their polygons.
use Rattle.std.specs.Prelude.{◌≡◌, ℕ, ◌+◌, ◌-◌, List, [], ◌∷◌, ◌++◌, filter, map}
use Rattle.geom.specs.Canonical.{Shape}
use Rattle.columns.specs.Answers.{AreColumnsOf, offsets_from}
use Rattle.columns.specs.Layout.{joined}
use Rattle.cover_law.specs.Areas.{row_area}
use Rattle.cover_law.specs.Rows.{Row}
use Rattle.faces_text.specs.Text.{is_of_layer}
use Rattle.rows.specs.declared.number_lists.NumberLists.{NumberLists}
use Rattle.rows.specs.declared.row_columns.RowColumns.{RowColumns}
use Rattle.rows.specs.declared.row_columns.RowPolygons.{RowPolygons}

-- of a set the features of a layer, from one number to before another one, numbered from 0 in their layer
abbrev pub places_of : ℕ → ℕ → List ℕ → List ℕ
places_of first past set = map (λ f. f - first) (filter (is_of_layer first past) set)

-- those of each row
abbrev pub layer_lists : ℕ → ℕ → List Row → List (List ℕ)
layer_lists first past rows = map (λ r. places_of first past r.set) rows

-- for each layer those of each row: counts are the numbers of the layers' features
abbrev pub set_lists : ℕ → List ℕ → List Row → List (List ℕ)
set_lists first [] rows = []
set_lists first (count ∷ counts) rows = layer_lists first (first + count) rows ++ set_lists (first + count) counts rows

-- the polygons of each row
abbrev pub shapes_in : List Row → List (List Shape)
shapes_in rows = map (λ r. r.polygons) rows

-- the numbers of these lists, and where each begins
pub record HaveLists {M : Type 0} (lists : List (List ℕ)) (l : NumberLists M) : Type 0 where
  pub numbers : l.numbers.items ≡ joined lists
  pub offsets : l.offsets.items ≡ offsets_from 0 lists

-- the polygons of these lists, and where each begins
pub record HaveShapes {M : Type 0} (lists : List (List Shape)) (p : RowPolygons M) : Type 0 where
  pub polygons : p.polygons.items ≡ joined lists
  pub rows : p.rows.items ≡ offsets_from 0 lists

-- the columns of these rows, for layers with so many features
pub record AreRowColumns {M : Type 0} (counts : List ℕ) (rows : List Row) (c : RowColumns M) : Type 0 where
  pub areas : c.twice_areas.items ≡ map row_area rows
  pub features : HaveLists (set_lists 0 counts rows) c.features
  pub polygons : AreColumnsOf (joined (shapes_in rows)) c.columns
  pub begin : c.rows.items ≡ offsets_from 0 (shapes_in rows)
