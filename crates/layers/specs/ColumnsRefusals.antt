-- What two layers that are columns and a plan are refused for, and what is known where they aren't (own).
use Rattle.std.specs.Prelude.{◌≡◌, ◌⊎◌, ◌≤◌, ◌<◌, ◌+◌, ℕ, List}
use Rattle.geom.specs.declared.fault.Fault.{Fault}
use Rattle.geom.specs.declared.fault.Fault.TheVariants.{TooManySegments, BadTile, BadWorkers, TooManyTiles}
use Rattle.geom.specs.declared.fault.Part.TheVariants.{Run as OfRun}
use Rattle.geom.specs.declared.point.Pt.{Pt}
use Rattle.grid.specs.Tiles.{IsSide, Tiling, most_tiles, tile_count}
use Rattle.wkt.specs.declared.outline.Outline.{Outline}
use Rattle.columns.specs.declared.fault.ColumnsFault.{ColumnsFault}
use Rattle.columns.specs.declared.layout.Columns.{Columns}
use Rattle.columns.specs.Layout.{plain, rings_in}
use Rattle.columns.specs.Refusals.{AreAccepted, AreRefused}
use Rattle.layers.specs.declared.columns_checking.CheckedColumns.{CheckedColumns}
use Rattle.layers.specs.declared.columns_refused.ColumnsRefused.{ColumnsRefused}
use Rattle.layers.specs.declared.columns_refused.ColumnsRefused.TheVariants.{A, B, Run}
use Rattle.layers.specs.declared.plan.Plan.{Plan}
use Rattle.layers.specs.Grids.{IsGridOverRings, IsTooFine, IsUsableGrid, steps_count}
use Rattle.layers.specs.Refusals.{IsCrew, IsPlan}

-- the rings of the layer that columns are, whose first points are not repeated
abbrev pub rings_of : Columns → List (List Pt)
rings_of c = plain (rings_in c)

-- both layers are accepted
pub record AreBothAccepted (a b : Columns) : Type 0 where
  pub first : AreAccepted a
  pub second : AreAccepted b

-- the plan is within its limits, the layers with these rings have together at most so many segments, and the grid over them few tiles
pub record AreRingsReady (limit : ℕ) (plan : Plan) (rings_a rings_b : List (List Pt)) (grid : Tiling) : Type 0 where
  pub planned : IsPlan plan
  pub few : steps_count rings_a + steps_count rings_b ≤ limit
  pub is_grid : IsGridOverRings rings_a rings_b plan.side grid
  pub few_tiles : tile_count grid ≤ most_tiles

-- the plan and both layers are within their limits, and so is the grid over them
pub record AreColumnsReady (limit : ℕ) (plan : Plan) (a b : Columns) (grid : Tiling) : Type 0 where
  pub accepted : AreBothAccepted a b
  pub ready : AreRingsReady limit plan (rings_of a) (rings_of b) grid

-- nothing is refused before anything is made
abbrev pub MayRunColumns : ℕ → Plan → Columns → Columns → Type 0
MayRunColumns limit plan a b = (grid : Tiling) × AreColumnsReady limit plan a b grid

-- what is refused before anything is made: the first of these that is at fault
pub data AreColumnsRefused (limit : ℕ) (plan : Plan) (a b : Columns) : ColumnsRefused → Type 0 where
  bad_tile : ¬ IsSide plan.side → AreColumnsRefused limit plan a b (Run BadTile)
  bad_workers : IsSide plan.side → ¬ IsCrew plan.workers → AreColumnsRefused limit plan a b (Run BadWorkers)
  bad_a : {f : ColumnsFault} → IsPlan plan → AreRefused a f → AreColumnsRefused limit plan a b (A f)
  bad_b : {f : ColumnsFault} → IsPlan plan → AreAccepted a → AreRefused b f → AreColumnsRefused limit plan a b (B f)
  too_many : IsPlan plan → AreBothAccepted a b → limit < steps_count (rings_of a) + steps_count (rings_of b)
      → AreColumnsRefused limit plan a b (Run (TooManySegments (steps_count (rings_of a) + steps_count (rings_of b))))
  too_many_tiles : IsPlan plan → AreBothAccepted a b → steps_count (rings_of a) + steps_count (rings_of b) ≤ limit
      → (grid : Tiling) → IsGridOverRings (rings_of a) (rings_of b) plan.side grid → most_tiles < tile_count grid → AreColumnsRefused limit plan a b (Run (TooManyTiles (tile_count grid)))

-- two layers with these outlines have together at most so many segments, and the grid of this side over them few tiles
abbrev pub IsFewOver : ℕ → Outline → Outline → ℕ → Tiling → Type 0
IsFewOver limit a b side g = (a.segments + b.segments ≤ limit) × IsUsableGrid a.bounds b.bounds side g

-- they are refused for the number of their segments, or else for that of the tiles
abbrev pub IsManyOver : ℕ → Outline → Outline → ℕ → Fault → Type 0
IsManyOver limit a b side f =
    ((limit < a.segments + b.segments) × (f ≡ TooManySegments (a.segments + b.segments))) ⊎ ((a.segments + b.segments ≤ limit) × IsTooFine a.bounds b.bounds side OfRun f)

-- what was checked: plan, layers and the grid over them are within their limits, and the layers have these numbers of segments
pub record IsCheckOf (a b : Columns) (c : CheckedColumns) : Type 0 where
  pub ready : AreColumnsReady c.limits.segments c.plan a b c.grid
  pub segments_a : c.segments_a ≡ steps_count (rings_of a)
  pub segments_b : c.segments_b ≡ steps_count (rings_of b)
