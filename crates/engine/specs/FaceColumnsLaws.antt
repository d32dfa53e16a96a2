-- What layers determine of the columns of their faces, and that texts and columns of the same features have the same rows (own).
use Rattle.std.specs.Prelude.{◌≡◌, ℕ, List, length, map}
use Rattle.geom.specs.declared.point.Pt.{Pt}
use Rattle.columns.specs.declared.layout.Columns.{Columns}
use Rattle.cover_law.specs.Faces.{AreFaces}
use Rattle.cover_law.specs.Rows.{Row}
use Rattle.faces_text.specs.Text.{rows_text}
use Rattle.rows.specs.RowColumns.{AreRowColumns}
use Rattle.rows.specs.declared.row_columns.RowColumns.{RowColumns}
use Rattle.layers.specs.declared.plan.Plan.{Plan}
use Rattle.layers.specs.declared.columns_refused.FacesColumnsRefused.{FacesColumnsRefused}
use Rattle.layers.specs.declared.columns_refused.FacesColumnsRefused.TheVariants.{Run}
use Rattle.layers.specs.declared.faces_fault.FacesRefusal.TheVariants.{TooManyIds}
use Rattle.layers.specs.declared.faces_limits.FacesLimits.{FacesLimits}
use Rattle.engine.specs.declared.faces_report.FacesReport.{FacesReport}
use Rattle.layers.specs.ColumnLayers.{MayRoundColumns, features_in}
use Rattle.engine.specs.FaceColumns.{AreFaceColumnsMade}
use Rattle.layers.specs.FaceColumnsRefusals.{IsFaceColumnsRefused}
use Rattle.engine.specs.Faces.{AreFacesWritten}
use Rattle.layers.specs.FeatureSegments.{all_features}
use Rattle.layers.specs.FeatureLayers.{StandForLayers}

-- a text of faces and columns of faces are of the same rows, which are those of the layers
pub record AreOfOneRows {M : Type 0} (layers : List (List (List (List Pt)))) (text : List ℕ) (columns : RowColumns M) : Type 0 where
  pub face_rows : List Row
  pub are_faces : AreFaces (all_features layers) face_rows
  pub is_text : text ≡ rows_text (map (λ features. length features) layers) face_rows
  pub are_columns : AreRowColumns (map (λ features. length features) layers) face_rows columns

-- where texts and columns stand for the same features
abbrev pub FacesAreByColumns : Type 0 → Type 0 → Type 0
FacesAreByColumns M N = (limits other_limits : FacesLimits) (plan other : Plan) (texts : List (List ℕ)) (layers : List Columns) (text : List ℕ) (report : FacesReport M) (columns : RowColumns N) (told : FacesReport N)
    → StandForLayers texts (features_in layers) → AreFacesWritten limits plan texts text report → AreFaceColumnsMade other_limits other layers columns told
    → ∥ AreOfOneRows (features_in layers) text columns ∥₁

-- the columns hold the same rows
pub record AreOneRowColumns {M N : Type 0} (c : RowColumns M) (d : RowColumns N) : Type 0 where
  pub areas : c.twice_areas.items ≡ d.twice_areas.items
  pub numbers : c.features.numbers.items ≡ d.features.numbers.items
  pub offsets : c.features.offsets.items ≡ d.features.offsets.items
  pub coordinates : c.columns.coordinates.items ≡ d.columns.coordinates.items
  pub rings : c.columns.rings.items ≡ d.columns.rings.items
  pub polygons : c.columns.polygons.items ≡ d.columns.polygons.items
  pub begin : c.rows.items ≡ d.rows.items

-- The columns of faces are one: the features of the layers determine them, in whatever columns these stand, and whatever the tile side and the limits.
abbrev pub FaceColumnsAreOne : Type 0 → Type 0 → Type 0
FaceColumnsAreOne M N = (limits other_limits : FacesLimits) (plan other : Plan) (layers others : List Columns) (columns : RowColumns M) (columns' : RowColumns N) (report : FacesReport M) (report' : FacesReport N)
    → features_in layers ≡ features_in others → AreFaceColumnsMade limits plan layers columns report → AreFaceColumnsMade other_limits other others columns' report' → AreOneRowColumns columns columns'

-- a plan and layers are refused for one reason
abbrev pub FaceColumnsRefusalIsOne : Type 0
FaceColumnsRefusalIsOne = (limits : FacesLimits) (plan : Plan) (layers : List Columns) (f g : FacesColumnsRefused) → IsFaceColumnsRefused limits plan layers f → IsFaceColumnsRefused limits plan layers g → f ≡ g

-- and then they are not answered
abbrev pub RefusedFaceColumnsAreNotMade : Type 0 → Type 0
RefusedFaceColumnsAreNotMade M = (limits : FacesLimits) (plan : Plan) (layers : List Columns) (f : FacesColumnsRefused) (columns : RowColumns M) (report : FacesReport M)
    → IsFaceColumnsRefused limits plan layers f → AreFaceColumnsMade limits plan layers columns report → ⊥

-- nor does memory end the call where they are refused, but for too many features in all rows: these are counted in memory
abbrev pub RefusedMayNotRoundColumns : Type 0
RefusedMayNotRoundColumns = (limits : FacesLimits) (plan : Plan) (layers : List Columns) (f : FacesColumnsRefused)
    → IsFaceColumnsRefused limits plan layers f → MayRoundColumns limits.segments plan layers → (ids : ℕ) × (f ≡ Run (TooManyIds ids))
