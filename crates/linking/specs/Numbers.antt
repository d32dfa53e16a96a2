-- How many hot pixels and how many records lie in each tile of a grid (own).
use Rattle.std.specs.Prelude.{◌≡◌, ◌≢◌, ◌↔◌, ℕ, ◌+◌, AllPairs, Contains, List, Some, length, slice_get, slice_set, sum_by}
use Rattle.geom.specs.declared.point.Pt.{Pt}
use Rattle.geom.specs.Box.{IsInBox}
use Rattle.grid.specs.Tiles.{Owns, Tiling, tile_count}
use Rattle.routing.specs.declared.record.Record.{Record}
use Rattle.linking.specs.declared.numbers.OwnedRect.{OwnedRect}
use Rattle.linking.specs.declared.rounded.TileNumbers.{TileNumbers}

-- those of the xs that have P count n, each as often as it weighs: a list has exactly these, each once
pub record IsCountOf {X : Type 0} (weight : X → ℕ) (xs : List X) (P : X → Type 0) (n : ℕ) : Type 0 where
  pub those : List X
  pub once : AllPairs (λ x y. x ≢ y) those
  pub exact : (x : X) → Contains those x ↔ (Contains xs x × P x)
  pub number_is : n ≡ sum_by weight those

-- the rectangle has exactly the points that the tile owns
abbrev pub HasOwned : Tiling → OwnedRect → Type 0
HasOwned g owned = (p : Pt) → IsInBox owned.rect.lo owned.rect.hi p ↔ Owns g owned.tile p

-- for each tile, how many of the xs, each as often as it weighs, have a pixel that it owns
pub record AreTileCounts {X : Type 0} (g : Tiling) (pixel_of : X → Pt) (weight : X → ℕ) (xs : List X) (counts : List ℕ) : Type 0 where
  pub one_each : length counts ≡ tile_count g
  pub each : (k n : ℕ) → slice_get counts k ≡ Some n → IsCountOf weight xs (λ x. Owns g k (pixel_of x)) n

-- the tile that owns the point has so many more
pub record CountsMore (g : Tiling) (p : Pt) (more : ℕ) (old new : List ℕ) : Type 0 where
  pub tile : ℕ
  pub owner : Owns g tile p
  pub count : ℕ
  pub is_at : slice_get old tile ≡ Some count
  pub new_is : new ≡ slice_set old tile (count + more)

-- the numbers of each tile are the two counts of its place
pub record ArePaired (hot records : List ℕ) (tiles : List TileNumbers) : Type 0 where
  pub one_each : length tiles ≡ length hot
  pub each : (k : ℕ) (n : TileNumbers) → slice_get tiles k ≡ Some n → (slice_get hot k ≡ Some n.hot) × (slice_get records k ≡ Some n.records)

-- for each tile, how many of the pixels it owns, and how many of the records, each as often as it weighs, have such a pixel
pub record AreNumbersOf (g : Tiling) (pixels : List Pt) (weight : Record → ℕ) (records : List Record) (tiles : List TileNumbers) : Type 0 where
  pub one_each : length tiles ≡ tile_count g
  pub each : (k : ℕ) (n : TileNumbers) → slice_get tiles k ≡ Some n → IsCountOf (λ p. 1) pixels (Owns g k) n.hot × IsCountOf weight records (λ r. Owns g k r.pixel) n.records
