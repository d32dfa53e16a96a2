-- What a call for the faces of layers that are columns promises: its columns and report, and what it is refused for (own).
use Rattle.std.specs.Prelude.{◌≡◌, ◌≤◌, List, length, map}
use Rattle.geom.specs.declared.fault.Fault.TheVariants.{Memory}
use Rattle.geom.specs.declared.point.Pt.{Pt}
use Rattle.grid.specs.Tiles.{Tiling, tile_count}
use Rattle.columns.specs.declared.layout.Columns.{Columns}
use Rattle.cover_law.specs.Changing.{changing}
use Rattle.cover_law.specs.Faces.{AreFaces}
use Rattle.cover_law.specs.Rows.{Row}
use Rattle.linking.specs.Gathered.{AreTileNumbers}
use Rattle.linking.specs.declared.rounded.TileNumbers.{TileNumbers}
use Rattle.rows.specs.RowColumns.{AreRowColumns}
use Rattle.rows.specs.declared.row_columns.RowColumns.{RowColumns}
use Rattle.rows.specs.Made.{ids_in, row_of}
use Rattle.engine.specs.declared.bounded_rows.BoundedRows.{BoundedRows}
use Rattle.layers.specs.declared.plan.Plan.{Plan}
use Rattle.engine.specs.declared.faces_columns.FacesColumns.{FacesColumns}
use Rattle.layers.specs.declared.columns_refused.FacesColumnsRefused.{FacesColumnsRefused}
use Rattle.layers.specs.declared.columns_refused.FacesColumnsRefused.TheVariants.{Run}
use Rattle.layers.specs.declared.faces_fault.FacesRefusal.TheVariants.{Usual}
use Rattle.layers.specs.declared.faces_limits.FacesLimits.{FacesLimits}
use Rattle.engine.specs.declared.faces_report.FacesReport.{FacesReport}
use Rattle.engine.specs.declared.faces_run.FaceBorders.{FaceBorders}
use Rattle.layers.specs.ColumnLayers.{AreColumnLayersReady, MayRoundColumns, features_in}
use Rattle.layers.specs.FeatureSegments.{all_features, feature_steps}
use Rattle.layers.specs.Segments.{AllInLimit}
use Rattle.engine.specs.Rounds.{IsRemade, TellsTiles}
use Rattle.layers.specs.FaceColumnsRefusals.{IsFaceColumnsRefused}

-- ---- refusals

-- a refusal
abbrev pub DeclinesFaceColumns : FacesLimits → Plan → List Columns → FacesColumnsRefused → Type 0
DeclinesFaceColumns limits plan layers (Run (Usual Memory)) = MayRoundColumns limits.segments plan layers
DeclinesFaceColumns limits plan layers refused = IsFaceColumnsRefused limits plan layers refused

-- ---- an answer

-- The columns of the rows of the faces of layers, which are those of the law, in its order; and the numbers of their rounding over a grid, as
-- `AreFacesTold` has them of a text
pub record AreFaceColumnsTold {M : Type 0} (layers : List (List (List (List Pt)))) (grid : Tiling) (columns : RowColumns M) (report : FacesReport M) : Type 0 where
  pub face_rows : List Row
  pub are_faces : AreFaces (all_features layers) face_rows
  pub in_limit : AllInLimit are_faces.segments
  pub are_columns : AreRowColumns (map (λ features. length features) layers) face_rows columns
  pub edges : report.edges ≡ length (changing are_faces.edges)
  pub rows : report.rows ≡ length face_rows
  pub ids : report.ids ≡ ids_in face_rows
  pub tiles : List TileNumbers
  pub tiles_are : AreTileNumbers grid are_faces.segments (tile_count grid) tiles
  pub told : TellsTiles tiles report.hot report.records report.tiles.items

-- the columns of the faces of layers, and their report, which has the numbers of each layer's segments and features too
pub record AreFaceColumnsMade {M : Type 0} (limits : FacesLimits) (plan : Plan) (layers : List Columns) (columns : RowColumns M) (report : FacesReport M) : Type 0 where
  pub grid : Tiling
  pub ready : AreColumnLayersReady limits.segments plan layers grid
  pub faces : ∥ AreFaceColumnsTold (features_in layers) grid columns report ∥₁
  pub segments : map (λ l. l.segments) report.layers.items ≡ map (λ features. length (feature_steps features)) (features_in layers)
  pub features : map (λ l. l.features) report.layers.items ≡ map (λ features. length features) (features_in layers)
  pub few_ids : report.ids ≤ limits.ids
  pub remade : IsRemade report.remade

-- ---- what is known on the way

-- the columns of rows over borders, and the report
pub record AreColumnsOfBorders {M : Type 0} (borders : FaceBorders M) (rows : BoundedRows M) (made : FacesColumns M) : Type 0 where
  pub columns : AreRowColumns (map (λ z. z.features) borders.sizes.items) (map row_of rows.rows.items) made.columns
  pub layers : made.report.layers ≡ borders.sizes
  pub edges : made.report.edges ≡ length borders.rounded.borders.items
  pub count : made.report.rows ≡ length rows.rows.items
  pub ids : made.report.ids ≡ rows.ids
  pub told : TellsTiles borders.rounded.tiles.items made.report.hot made.report.records made.report.tiles.items
  pub remade : made.report.remade ≡ borders.rounded.remade
