-- The text of faces (own): a line for each row, with tabs between twice its area, the numbers of each layer's features, and its polygons.
use Rattle.std.specs.Prelude.{◌≡◌, ◌+◌, ◌-◌, ◌&&◌, ℕ, Bool, suc, nat_le, nat_lt, List, [], ◌∷◌, ◌++◌, filter, length, map}
use Rattle.std.specs.List.{flat_map}
use Rattle.std.specs.Fmt.{decimal, signed_decimal}
use Rattle.geom.specs.declared.point.Pt.{Pt}
use Rattle.cover_law.specs.Areas.{row_area}
use Rattle.cover_law.specs.Faces.{AreFaces}
use Rattle.cover_law.specs.Rows.{Row}
use Rattle.wkt.specs.Canonical.{multi_text}

-- whether a feature is one of those from one number to before another one, which are a layer's
abbrev pub is_of_layer : ℕ → ℕ → ℕ → Bool
is_of_layer first past f = nat_le first f && nat_lt f past

-- of a set the features of a layer, numbered from 1
abbrev pub numbers_of : ℕ → ℕ → List ℕ → List ℕ
numbers_of first past set = map (λ f. suc (f - first)) (filter (is_of_layer first past) set)

-- `,` between
abbrev pub numbers_text : List ℕ → List ℕ
numbers_text [] = []
numbers_text (n ∷ []) = decimal n
numbers_text (n ∷ m ∷ ns) = decimal n ++ (44 ∷ numbers_text (m ∷ ns))

-- for each layer a tab and the numbers of its features: counts are the numbers of the layers' features
abbrev pub fields_text : ℕ → List ℕ → List ℕ → List ℕ
fields_text first [] set = []
fields_text first (count ∷ counts) set = 9 ∷ (numbers_text (numbers_of first (first + count) set) ++ fields_text (first + count) counts set)

-- the line feed is the last byte of the polygons' canonical line
abbrev pub row_text : List ℕ → Row → List ℕ
row_text counts row = signed_decimal (row_area row) ++ (fields_text 0 counts row.set ++ (9 ∷ multi_text row.polygons))

abbrev pub rows_text : List ℕ → List Row → List ℕ
rows_text counts rows = flat_map (row_text counts) rows

-- the text of the faces of layers, each a list of features, each of which is a list of rings
pub record IsFacesText (layers : List (List (List (List Pt)))) (text : List ℕ) : Type 0 where
  pub rows : List Row
  pub are_faces : AreFaces (flat_map (λ features. features) layers) rows
  pub text_is : text ≡ rows_text (map (λ features. length features) layers) rows

-- layers have one text
abbrev pub FacesTextIsOne : Type 0
FacesTextIsOne = (layers : List (List (List (List Pt)))) (text other : List ℕ) → IsFacesText layers text → IsFacesText layers other → text ≡ other
