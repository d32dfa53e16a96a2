-- Shells as they are sorted (own).
use Rattle.std.specs.Prelude.{◌≡◌, ◌<◌, ◌-◌, ℕ, ℤ, List, [], All, AllPairs, get_or, length, map}
use Rattle.std.specs.List.{range_with_len}
use Rattle.std.specs.List.Sorted.{IsPermutation}
use Rattle.std.specs.declared.cmp.Ordering.{Ordering}
use Rattle.std.specs.declared.cmp.Ordering.TheVariants.{Less, Equal, Greater}
use Rattle.geom.specs.declared.point.Pt.{Pt}
use Rattle.geom.specs.ListOrder.{IsListBefore}
use Rattle.columns.specs.Answers.{coordinates_of}
use Rattle.polygon_order.specs.declared.given.PolygonColumns.{PolygonColumns}
use Rattle.polygon_order.specs.declared.shells.Shell.{Shell}
use Rattle.polygon_order.specs.Order.{polygons_of, shell_in}

-- the polygon with this number
abbrev pub polygon_at : PolygonColumns → ℕ → List (List Pt)
polygon_at columns number = get_or (polygons_of columns.coordinates.now columns.rings.now columns.polygons.now) number []

-- the polygons with these numbers
abbrev pub polygons_at : PolygonColumns → List ℕ → List (List (List Pt))
polygons_at columns numbers = map (polygon_at columns) numbers

-- the shell has the coordinates of that of the polygon with its number
pub record IsShellOf (columns : PolygonColumns) (s : Shell) : Type 0 where
  pub inside : s.number < length columns.polygons.now - 1
  pub points : s.coordinates.now ≡ coordinates_of (shell_in (polygon_at columns s.number))

-- one for each polygon
pub record AreShells (columns : PolygonColumns) (shells : List Shell) : Type 0 where
  pub are : All (IsShellOf columns) shells
  pub numbers : IsPermutation (range_with_len 0 (length columns.polygons.now - 1)) (map (λ s. s.number) shells)

-- how the points of two shells stand to each other
abbrev pub Compares : List Pt → List Pt → Ordering → Type 0
Compares ps qs Less = IsListBefore ps qs
Compares ps qs Equal = ps ≡ qs
Compares ps qs Greater = IsListBefore qs ps

-- the same of their coordinates
abbrev pub CompareShells : List ℤ → List ℤ → Ordering → Type 0
CompareShells s t order = (ps qs : List Pt) → s ≡ coordinates_of ps → t ≡ coordinates_of qs → Compares ps qs order

-- no shell stands before a lesser one
abbrev pub DoNotFall : List Shell → Type 0
DoNotFall shells = AllPairs (λ s t. (ps qs : List Pt) → s.coordinates.now ≡ coordinates_of ps → t.coordinates.now ≡ coordinates_of qs → ¬ (IsListBefore qs ps)) shells

-- and no two polygons have the same one
abbrev pub AreDistinct : PolygonColumns → List Shell → Type 0
AreDistinct columns shells = AllPairs (λ s t. IsListBefore (shell_in (polygon_at columns s.number)) (shell_in (polygon_at columns t.number))) shells
