-- Polygons in the order of their shells.
use Rattle.std.proofs.Common.{◌≡◌, ◌<◌, ◌-◌, List, [], ◌∷◌, length, get_or, map, refl, sym, subst, arith}
use Rattle.std.specs.Prelude.{AllPairs}
use Rattle.std.specs.List.{range_with_len}
use Rattle.std.specs.List.Sorted.{IsPermutation}
use Rattle.std.proofs.lemmas.List.{get_or-map, length-map}
use Rattle.std.proofs.lemmas.List.FromFn.{fill_by_all}
use Rattle.std.proofs.lemmas.List.Sorted.{IsPermutation-map}
use Rattle.geom.specs.ListOrder.{IsListBefore}
use Rattle.polygon_order.specs.declared.given.PolygonColumns.{PolygonColumns}
use Rattle.polygon_order.specs.declared.shells.Shell.{Shell}
use Rattle.polygon_order.specs.Order.{AreByShell, polygons_of, rings_of, shell_in}
use Rattle.polygon_order.specs.Shells.{AreDistinct, AreShells, polygon_at, polygons_at}
use Rattle.polygon_order.proofs.Cuts.{length_cut}

-- what holds of the images of each two, the first before the second, holds of each two images
pairs_mapped : {X Y : Type 0} (f : X → Y) (R : Y → Y → Type 0) (xs : List X) → AllPairs (λ x y. R (f x) (f y)) xs → AllPairs R (map f xs)
pairs_mapped f R [] h = λ i j d first last. absurd (omega (arith, last))
pairs_mapped f R (x ∷ xs) h = λ i j d first last.
    let long = length-map (x ∷ xs) f in
    let inside : j < length (x ∷ xs) = omega (arith, long, last) in
    subst (λ t. R t (get_or (map f (x ∷ xs)) j d)) (sym (get_or-map f (x ∷ xs) i x d (omega (arith, first, inside))))
    (subst (λ t. R (f (get_or (x ∷ xs) i x)) t) (sym (get_or-map f (x ∷ xs) j x d inside)) (h i j x first inside))

-- the polygons with all numbers, one after another, are the polygons
all_polygons : (columns : PolygonColumns)
    → polygons_of columns.coordinates.now columns.rings.now columns.polygons.now ≡ polygons_at columns (range_with_len 0 (length columns.polygons.now - 1))
all_polygons columns =
    let all = polygons_of columns.coordinates.now columns.rings.now columns.polygons.now in
    let count = length_cut columns.polygons.now (rings_of columns.coordinates.now columns.rings.now) in
    fill_by_all (polygon_at columns) all (length columns.polygons.now - 1) [] count (λ k inside. refl)

-- one shell for each polygon, in order and none twice, gives the order of the polygons
pub by_shells : (columns : PolygonColumns) (shells : List Shell) → AreShells columns shells → AreDistinct columns shells
    → AreByShell (polygons_of columns.coordinates.now columns.rings.now columns.polygons.now) (polygons_at columns (map (λ s. s.number) shells))
by_shells columns shells h distinct =
    let numbers = map (λ (s : Shell). s.number) shells in
    record {
      permutation = subst (λ t. IsPermutation t (polygons_at columns numbers)) (sym (all_polygons columns))
          (IsPermutation-map (polygon_at columns) (range_with_len 0 (length columns.polygons.now - 1)) numbers h.numbers);
      ascending = pairs_mapped (polygon_at columns) (λ p q. IsListBefore (shell_in p) (shell_in q)) numbers
          (pairs_mapped (λ s. s.number) (λ m n. IsListBefore (shell_in (polygon_at columns m)) (shell_in (polygon_at columns n))) shells distinct);
    }
