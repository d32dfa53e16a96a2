-- Polygons as columns in the order of their shells (GeoArrow 0.1, Polygon, for the columns; the order is own).
use Rattle.std.specs.Prelude.{◌≡◌, ◌≢◌, ◌<◌, ◌≤◌, ◌-◌, ◌%◌, ℕ, ℤ, List, [], ◌∷◌, All, AllPairs, get_or, length}
use Rattle.std.specs.List.Sorted.{IsPermutation}
use Rattle.geom.specs.declared.point.Pt.{Pt}
use Rattle.geom.specs.ListOrder.{IsListBefore}
use Rattle.columns.specs.declared.answer.OwnedColumns.{OwnedColumns}
use Rattle.columns.specs.Answers.{HaveRings, offsets_from}
use Rattle.columns.specs.Layout.{cut, joined, pairs, plain_ring}
use Rattle.polygon_order.specs.declared.ordering.OrderFault.{OrderFault}
use Rattle.polygon_order.specs.declared.ordering.OrderFault.TheVariants.{Memory, ShellTwice}

-- ---- what columns have

-- the rings, each with its points as they are written
abbrev pub rings_of : List ℤ → List ℕ → List (List Pt)
rings_of coordinates rings = cut rings (pairs coordinates)

-- the polygons, each with its rings, the shell first
abbrev pub polygons_of : List ℤ → List ℕ → List ℕ → List (List (List Pt))
polygons_of coordinates rings polygons = cut polygons (rings_of coordinates rings)

-- the offsets ascend, so that each list between two has an item, and none lies beyond so many items
pub record AreOffsets (count : ℕ) (offsets : List ℕ) : Type 0 where
  pub ascending : AllPairs (λ o p. o < p) offsets
  pub inside : All (λ o. o ≤ count) offsets

-- each x has its y, each ring a point, and each polygon a ring
pub record AreWhole (coordinates : List ℤ) (rings polygons : List ℕ) : Type 0 where
  pub points : length coordinates % 2 ≡ 0
  pub rings_are : AreOffsets (length (pairs coordinates)) rings
  pub polygons_are : AreOffsets (length rings - 1) polygons

-- the columns of polygons as they are written
pub record AreColumnsAsWritten {M : Type 0} (polygons : List (List (List Pt))) (made : OwnedColumns M) : Type 0 where
  pub have : HaveRings (joined polygons) made
  pub offsets : made.polygons.items ≡ offsets_from 0 polygons

-- ---- the order

-- the points of a polygon's shell, without the last one, which is the first one again
abbrev pub shell_in : List (List Pt) → List Pt
shell_in [] = []
shell_in (shell ∷ holes) = plain_ring shell

-- the same polygons, each as often, in the order of their shells, of which no two are the same
pub record AreByShell (polygons all : List (List (List Pt))) : Type 0 where
  pub permutation : IsPermutation polygons all
  pub ascending : AllPairs (λ p q. IsListBefore (shell_in p) (shell_in q)) all

-- the columns of the same polygons in the order of their shells
pub record AreInShellOrder {M : Type 0} (coordinates : List ℤ) (rings polygons : List ℕ) (made : OwnedColumns M) : Type 0 where
  pub all : List (List (List Pt))
  pub by_shell : AreByShell (polygons_of coordinates rings polygons) all
  pub columns : AreColumnsAsWritten all made

-- ---- where there is no order

-- the polygon with this number has the shell of another one
pub record IsShellTwice (coordinates : List ℤ) (rings polygons : List ℕ) (number : ℕ) : Type 0 where
  pub inside : number < length polygons - 1
  pub other : ℕ
  pub other_inside : other < length polygons - 1
  pub apart : other ≢ number
  pub same : shell_in (get_or (polygons_of coordinates rings polygons) other []) ≡ shell_in (get_or (polygons_of coordinates rings polygons) number [])

-- two shells are the same, or memory ran out
abbrev pub FailsOrder : List ℤ → List ℕ → List ℕ → OrderFault → Type 0
FailsOrder coordinates rings polygons (ShellTwice number) = IsShellTwice coordinates rings polygons number
FailsOrder coordinates rings polygons Memory = Unit {0}
