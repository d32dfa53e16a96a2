-- Layers that are columns, for their faces: what is surveyed and checked of them (own).
use Rattle.std.specs.Prelude.{◌≡◌, ◌≤◌, ℕ, List, Some, length, map, slice_get, take}
use Rattle.std.specs.List.{AllByRecursion}
use Rattle.geom.specs.declared.point.Pt.{Pt}
use Rattle.grid.specs.Tiles.{AreBounds, Tiling, most_tiles, tile_count}
use Rattle.columns.specs.declared.fault.ColumnsFault.{ColumnsFault}
use Rattle.columns.specs.declared.layout.Columns.{Columns}
use Rattle.columns.specs.Layout.{feature_rings_in, plain}
use Rattle.columns.specs.Refusals.{AreAccepted, AreRefused}
use Rattle.layers.specs.declared.column_layers.CheckedColumnLayers.{CheckedColumnLayers}
use Rattle.layers.specs.declared.column_layers.SurveyedLayers.{SurveyedLayers}
use Rattle.layers.specs.declared.plan.Plan.{Plan}
use Rattle.layers.specs.declared.columns_refused.FacesColumnsRefused.{FacesColumnsRefused}
use Rattle.layers.specs.declared.columns_refused.FacesColumnsRefused.TheVariants.{Layer}
use Rattle.layers.specs.FeatureSegments.{all_steps}
use Rattle.layers.specs.FeatureLayers.{IsGridOverLayers}
use Rattle.layers.specs.Grids.{AreBoundsOf}
use Rattle.layers.specs.Refusals.{IsPlan}

-- the features that columns stand for, each a list of rings, whose first points are not repeated
abbrev pub features_of : Columns → List (List (List Pt))
features_of c = map plain (feature_rings_in c)

-- those of each layer
abbrev pub features_in : List Columns → List (List (List (List Pt)))
features_in layers = map features_of layers

-- each layer is accepted
abbrev pub AllAccepted : List Columns → Type 0
AllAccepted layers = AllByRecursion AreAccepted layers

-- the plan is within its limits, and so are the columns, which are accepted and have together at most so many segments, and the grid over them
pub record AreColumnLayersReady (limit : ℕ) (plan : Plan) (layers : List Columns) (grid : Tiling) : Type 0 where
  pub planned : IsPlan plan
  pub accepted : AllAccepted layers
  pub few : length (all_steps (features_in layers)) ≤ limit
  pub is_grid : IsGridOverLayers (features_in layers) plan.side grid
  pub few_tiles : tile_count grid ≤ most_tiles

-- nothing is refused before the layers are rounded
abbrev pub MayRoundColumns : ℕ → Plan → List Columns → Type 0
MayRoundColumns limit plan layers = (grid : Tiling) × AreColumnLayersReady limit plan layers grid

-- the layer at fault is the first one that is refused
pub record IsBadColumns (layers : List Columns) (number : ℕ) (fault : ColumnsFault) : Type 0 where
  pub layer : Columns
  pub is_at : slice_get layers number ≡ Some layer
  pub refused : AreRefused layer fault
  pub accepted : AllAccepted (take number layers)

-- what layers have together that are accepted
pub record AreSurveyed (layers : List Columns) (s : SurveyedLayers) : Type 0 where
  pub accepted : AllAccepted layers
  pub segments : s.segments ≡ length (all_steps (features_in layers))
  pub bounds : AreBoundsOf (all_steps (features_in layers)) s.bounds
  pub in_limit : AreBounds s.bounds

-- the first layer that is refused, as it is told
abbrev pub TellsBadColumns : List Columns → FacesColumnsRefused → Type 0
TellsBadColumns layers r = (number : ℕ) × (fault : ColumnsFault) × (r ≡ Layer number fault) × IsBadColumns layers number fault

-- what was checked: plan, layers and the grid over them are within their limits
abbrev pub IsCheckOfColumns : List Columns → CheckedColumnLayers → Type 0
IsCheckOfColumns layers c = AreColumnLayersReady c.limits.segments c.plan layers c.grid
