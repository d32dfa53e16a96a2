-- What the calls for C answer for the faces of layers that are columns (own).
use Rattle.std.specs.Prelude.{◌≡◌, ◌<◌, ◌≤◌, ◌^◌, ◌⊎◌, ℕ, ℤ, List, length, map}
use Rattle.geom.specs.declared.point.Pt.{Pt}
use Rattle.grid.specs.Tiles.{IsSide, Tiling, most_tiles, tile_count}
use Rattle.grid.specs.declared.sides.TheConstants.{DEFAULT_SIDE}
use Rattle.columns.specs.declared.layout.Columns.{Columns}
use Rattle.columns.specs.Answers.{offsets_from}
use Rattle.columns.specs.Faults.{number_of}
use Rattle.columns.specs.Layout.{joined}
use Rattle.cover_law.specs.Areas.{row_area}
use Rattle.cover_law.specs.Faces.{AreFaces}
use Rattle.cover_law.specs.Rows.{Row}
use Rattle.rows.specs.Made.{ids_in}
use Rattle.rows.specs.RowColumns.{set_lists, shapes_in}
use Rattle.rows.specs.declared.row_columns.RowColumns.{RowColumns}
use Rattle.layers.specs.declared.columns_refused.FacesColumnsRefused.{FacesColumnsRefused}
use Rattle.layers.specs.declared.columns_refused.FacesColumnsRefused.TheVariants.{Layer, Run}
use Rattle.layers.specs.declared.faces_limits.FacesLimits.{FacesLimits}
use Rattle.layers.specs.declared.feature_reading.TheConstants.{MOST_LAYERS}
use Rattle.layers.specs.ColumnLayers.{AllAccepted, AreColumnLayersReady, features_in}
use Rattle.engine.specs.FaceColumns.{DeclinesFaceColumns}
use Rattle.layers.specs.FaultWords.{faces_status_of}
use Rattle.layers.specs.FeatureSegments.{all_features}
use Rattle.layers.specs.FeatureLayers.{IsGridOverLayers}
use Rattle.engine.specs.Runs.{alone}
use Rattle.overlay_c.specs.declared.columns_layer.OverlayColumns.{OverlayColumns}
use Rattle.overlay_c.specs.declared.face_rooms.OverlayFaceRooms.{OverlayFaceRooms}
use Rattle.overlay_c.specs.declared.faces_answer.OverlayFacesAnswer.{OverlayFacesAnswer}
use Rattle.overlay_c.specs.Columns.{AreListsOf, HoldsItems, Lists, columns_detail, columns_in, lists_of}
use Rattle.overlay_c.specs.Faces.{faces_detail, faces_number}

-- the columns of layers, as they are passed
abbrev pub layers_in : List OverlayColumns → List Columns
layers_in layers = map columns_in layers

-- ---- rows

-- seven columns, or what seven rooms have
pub record FaceLists : Type 0 where
  pub columns : Lists
  pub rows : List ℕ
  pub twice_areas : List ℤ
  pub ids : List ℕ
  pub lists : List ℕ

abbrev pub face_lists_of : {M : Type 0} → RowColumns M → FaceLists
face_lists_of c = record { columns = lists_of c.columns; rows = c.rows.items; twice_areas = c.twice_areas.items; ids = c.features.numbers.items; lists = c.features.offsets.items }

-- The columns of these rows, for layers with so many features (`AreRowColumns`): twice their areas; for each layer and each row the numbers
-- of the layer's features that the row has; their polygons, and where each row begins among these.
pub record AreFaceListsOf (counts : List ℕ) (rows : List Row) (c : FaceLists) : Type 0 where
  pub areas : c.twice_areas ≡ map row_area rows
  pub ids : c.ids ≡ joined (set_lists 0 counts rows)
  pub lists : c.lists ≡ offsets_from 0 (set_lists 0 counts rows)
  pub polygons : AreListsOf (joined (shapes_in rows)) c.columns
  pub begin : c.rows ≡ offsets_from 0 (shapes_in rows)

-- the columns of the rows of the faces of layers, which have at most so many features together
pub record AreListsOfFaces (ids : ℕ) (layers : List (List (List (List Pt)))) (c : FaceLists) : Type 0 where
  pub rows : List Row
  pub are_faces : AreFaces (all_features layers) rows
  pub few : ids_in rows ≤ ids
  pub are_lists : AreFaceListsOf (map (λ features. length features) layers) rows c

-- the layers and the tile side are within their limits, and so are the features of all rows; and these are the columns of the faces
pub record AreFaceColumns (limits : FacesLimits) (side : ℕ) (layers : List Columns) (c : FaceLists) : Type 0 where
  pub grid : Tiling
  pub ready : AreColumnLayersReady limits.segments (alone side) layers grid
  pub made : ∥ AreListsOfFaces limits.ids (features_in layers) c ∥₁

-- ---- answers

-- an answer that tells of no columns
abbrev pub told_of_faces : (status number part detail : ℕ) → OverlayFacesAnswer
told_of_faces status number part detail = record {
  coordinates = 0;
  rings = 0;
  polygons = 0;
  rows = 0;
  twice_areas = 0;
  ids = 0;
  lists = 0;
  detail = detail;
  status = status;
  number = number;
  part = part;
}

-- an answer that tells the lengths of columns
abbrev pub face_lengths : ℕ → FaceLists → OverlayFacesAnswer
face_lengths status c = record {
  coordinates = length c.columns.coordinates;
  rings = length c.columns.rings;
  polygons = length c.columns.polygons;
  rows = length c.rows;
  twice_areas = length c.twice_areas;
  ids = length c.ids;
  lists = length c.lists;
  detail = 0;
  status = status;
  number = 0;
  part = 0;
}

-- an answer that tells of a refusal over so many layers: of a layer as other calls on columns tell it, of the run as the calls on texts do
abbrev pub face_refusal : ℕ → FacesColumnsRefused → OverlayFacesAnswer
face_refusal layers (Layer number fault) = told_of_faces 3 (number_of fault) number (columns_detail fault)
face_refusal layers (Run refusal) = told_of_faces (faces_status_of refusal) (faces_number refusal) layers (faces_detail refusal)

-- why there are no columns: the layers are too many for the calls, or they are refused
pub data FailsFaceColumns (limits : FacesLimits) (side : ℕ) (layers : List Columns) : OverlayFacesAnswer → Type 0 where
  many_layers : MOST_LAYERS < length layers → FailsFaceColumns limits side layers (told_of_faces 2 0 0 0)
  declined : (refused : FacesColumnsRefused) → length layers ≤ MOST_LAYERS → DeclinesFaceColumns limits (alone side) layers refused → FailsFaceColumns limits side layers (face_refusal (length layers) refused)

-- ---- rooms

-- what the rooms have
abbrev pub lists_in : OverlayFaceRooms → FaceLists
lists_in r = record {
  columns = record { coordinates = r.coordinates.now; rings = r.rings.now; polygons = r.polygons.now };
  rows = r.rows.now;
  twice_areas = r.twice_areas.now;
  ids = r.ids.now;
  lists = r.lists.now;
}

-- the rooms are those that were passed
pub record AreSameRooms (before after : OverlayFaceRooms) : Type 0 where
  pub coordinates : after.coordinates.ghost_name ≡ before.coordinates.ghost_name
  pub rings : after.rings.ghost_name ≡ before.rings.ghost_name
  pub polygons : after.polygons.ghost_name ≡ before.polygons.ghost_name
  pub rows : after.rows.ghost_name ≡ before.rows.ghost_name
  pub twice_areas : after.twice_areas.ghost_name ≡ before.twice_areas.ghost_name
  pub ids : after.ids.ghost_name ≡ before.ids.ghost_name
  pub lists : after.lists.ghost_name ≡ before.lists.ghost_name

-- each room begins with its column, and is as before behind it
pub record HoldFaceLists (c before after : FaceLists) : Type 0 where
  pub coordinates : HoldsItems c.columns.coordinates before.columns.coordinates after.columns.coordinates
  pub rings : HoldsItems c.columns.rings before.columns.rings after.columns.rings
  pub polygons : HoldsItems c.columns.polygons before.columns.polygons after.columns.polygons
  pub rows : HoldsItems c.rows before.rows after.rows
  pub twice_areas : HoldsItems c.twice_areas before.twice_areas after.twice_areas
  pub ids : HoldsItems c.ids before.ids after.ids
  pub lists : HoldsItems c.lists before.lists after.lists

-- some room is shorter than its column
abbrev pub AreShort : FaceLists → FaceLists → Type 0
AreShort rooms c =
    (length rooms.columns.coordinates < length c.columns.coordinates)
    ⊎ ((length rooms.columns.rings < length c.columns.rings)
    ⊎ ((length rooms.columns.polygons < length c.columns.polygons)
    ⊎ ((length rooms.rows < length c.rows)
    ⊎ ((length rooms.twice_areas < length c.twice_areas)
    ⊎ ((length rooms.ids < length c.ids)
    ⊎ (length rooms.lists < length c.lists))))))

-- no room is
pub record FitIn (rooms c : FaceLists) : Type 0 where
  pub coordinates : length c.columns.coordinates ≤ length rooms.columns.coordinates
  pub rings : length c.columns.rings ≤ length rooms.columns.rings
  pub polygons : length c.columns.polygons ≤ length rooms.columns.polygons
  pub rows : length c.rows ≤ length rooms.rows
  pub twice_areas : length c.twice_areas ≤ length rooms.twice_areas
  pub ids : length c.ids ≤ length rooms.ids
  pub lists : length c.lists ≤ length rooms.lists

-- the rooms are as before
pub record AreFaceListsKept (before after : FaceLists) : Type 0 where
  pub coordinates : after.columns.coordinates ≡ before.columns.coordinates
  pub rings : after.columns.rings ≡ before.columns.rings
  pub polygons : after.columns.polygons ≡ before.columns.polygons
  pub rows : after.rows ≡ before.rows
  pub twice_areas : after.twice_areas ≡ before.twice_areas
  pub ids : after.ids ≡ before.ids
  pub lists : after.lists ≡ before.lists

-- the columns were put into the rooms, or don't fit, and the rooms are as before
abbrev pub AreFacesPutOrSmall : FaceLists → FaceLists → FaceLists → OverlayFacesAnswer → Type 0
AreFacesPutOrSmall c before after answer =
    (HoldFaceLists c before after × (answer ≡ face_lengths 0 c)) ⊎ (AreShort before c × AreFaceListsKept before after × (answer ≡ face_lengths 4 c))

-- how a call that fills rooms ends: only an answer changes them, and nothing behind its columns
pub data FillsFaces (limits : FacesLimits) (side : ℕ) (layers : List Columns) (before after : FaceLists) : OverlayFacesAnswer → Type 0 where
  filled : (c : FaceLists) → AreFaceColumns limits side layers c → HoldFaceLists c before after → FillsFaces limits side layers before after (face_lengths 0 c)
  small : (c : FaceLists) → AreFaceColumns limits side layers c → AreShort before c → AreFaceListsKept before after → FillsFaces limits side layers before after (face_lengths 4 c)
  none_filled : {answer : OverlayFacesAnswer} → FailsFaceColumns limits side layers answer → AreFaceListsKept before after → FillsFaces limits side layers before after answer

-- ---- the side of a tile

-- the layers are accepted, and this side gives more tiles over them than there may be
pub record AreTooFineLayers (layers : List Columns) (side : ℕ) : Type 0 where
  pub accepted : AllAccepted layers
  pub grid : Tiling
  pub is_grid : IsGridOverLayers (features_in layers) side grid
  pub many : most_tiles < tile_count grid

-- the least power of two, from 2^18 = 262,144 on, that isn't too fine for these layers
pub record IsFittingSideOfLayers (layers : List Columns) (side : ℕ) : Type 0 where
  pub exponent : ℕ
  pub from : 18 ≤ exponent
  pub power : side ≡ 2 ^ exponent
  pub is_side : IsSide side
  pub few : ¬ AreTooFineLayers layers side
  pub least : (k : ℕ) → 18 ≤ k → k < exponent → AreTooFineLayers layers (2 ^ k)

-- the side of a tile for layers, where these aren't too many for the calls
pub data IsSideOfLayers (layers : List Columns) : ℕ → Type 0 where
  fitting : {side : ℕ} → length layers ≤ MOST_LAYERS → IsFittingSideOfLayers layers side → IsSideOfLayers layers side
  many_layers : MOST_LAYERS < length layers → IsSideOfLayers layers DEFAULT_SIDE
