-- What the faces of layers that are columns are refused for (own).
use Rattle.std.specs.Prelude.{◌<◌, ◌≤◌, ℕ, List, length}
use Rattle.geom.specs.declared.fault.Fault.TheVariants.{BadTile, BadWorkers, TooManySegments, TooManyTiles}
use Rattle.grid.specs.Tiles.{IsSide, Tiling, most_tiles, tile_count}
use Rattle.columns.specs.declared.fault.ColumnsFault.{ColumnsFault}
use Rattle.columns.specs.declared.layout.Columns.{Columns}
use Rattle.layers.specs.declared.plan.Plan.{Plan}
use Rattle.layers.specs.declared.columns_refused.FacesColumnsRefused.{FacesColumnsRefused}
use Rattle.layers.specs.declared.columns_refused.FacesColumnsRefused.TheVariants.{Layer, Run}
use Rattle.layers.specs.declared.faces_fault.FacesRefusal.TheVariants.{Usual, TooManyIds}
use Rattle.layers.specs.declared.faces_limits.FacesLimits.{FacesLimits}
use Rattle.layers.specs.ColumnLayers.{AllAccepted, AreColumnLayersReady, IsBadColumns, features_in}
use Rattle.layers.specs.FacesRefusals.{HaveIds}
use Rattle.layers.specs.FeatureSegments.{all_features, all_steps}
use Rattle.layers.specs.FeatureLayers.{IsGridOverLayers}
use Rattle.layers.specs.Refusals.{IsCrew, IsPlan}

-- what is refused: the first of these that is at fault
pub data IsFaceColumnsRefused (limits : FacesLimits) (plan : Plan) (layers : List Columns) : FacesColumnsRefused → Type 0 where
  bad_tile : ¬ IsSide plan.side → IsFaceColumnsRefused limits plan layers (Run (Usual BadTile))
  bad_workers : IsSide plan.side → ¬ IsCrew plan.workers → IsFaceColumnsRefused limits plan layers (Run (Usual BadWorkers))
  bad_layer : {number : ℕ} → {fault : ColumnsFault} → IsPlan plan → IsBadColumns layers number fault → IsFaceColumnsRefused limits plan layers (Layer number fault)
  too_many : IsPlan plan → AllAccepted layers → limits.segments < length (all_steps (features_in layers))
      → IsFaceColumnsRefused limits plan layers (Run (Usual (TooManySegments (length (all_steps (features_in layers))))))
  too_many_tiles : IsPlan plan → AllAccepted layers → length (all_steps (features_in layers)) ≤ limits.segments
      → (grid : Tiling) → IsGridOverLayers (features_in layers) plan.side grid → most_tiles < tile_count grid → IsFaceColumnsRefused limits plan layers (Run (Usual (TooManyTiles (tile_count grid))))
  too_many_ids : {ids : ℕ} → (grid : Tiling) → AreColumnLayersReady limits.segments plan layers grid → ∥ HaveIds (all_features (features_in layers)) ids ∥₁
      → limits.ids < ids → IsFaceColumnsRefused limits plan layers (Run (TooManyIds ids))
