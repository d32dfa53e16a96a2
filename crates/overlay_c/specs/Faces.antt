-- What the calls for C answer for the faces of layers (own).
use Rattle.std.specs.Prelude.{◌<◌, ◌≤◌, ℕ, List, length, map}
use Rattle.geom.specs.declared.point.Pt.{Pt}
use Rattle.geom.specs.Fault.{number_of}
use Rattle.grid.specs.Tiles.{Tiling}
use Rattle.grid.specs.declared.sides.TheConstants.{DEFAULT_SIDE}
use Rattle.faces_text.specs.Text.{IsFacesText}
use Rattle.rows.specs.Made.{ids_in}
use Rattle.layers.specs.declared.faces_fault.FacesFault.{FacesFault}
use Rattle.layers.specs.declared.faces_fault.FacesPart.{FacesPart}
use Rattle.layers.specs.declared.faces_fault.FacesPart.TheVariants.{Layer, Run}
use Rattle.layers.specs.declared.faces_fault.FacesRefusal.{FacesRefusal}
use Rattle.layers.specs.declared.faces_fault.FacesRefusal.TheVariants.{Usual, TooManyIds}
use Rattle.layers.specs.declared.faces_limits.FacesLimits.{FacesLimits}
use Rattle.layers.specs.declared.feature_reading.TheConstants.{MOST_LAYERS}
use Rattle.engine.specs.Faces.{DeclinesFaces}
use Rattle.layers.specs.FaultWords.{faces_status_of}
use Rattle.engine.specs.Fitting.{IsFittingSideOver}
use Rattle.layers.specs.FeatureLayers.{AreReady}
use Rattle.engine.specs.Runs.{alone}
use Rattle.overlay_c.specs.declared.answer.OverlayAnswer.{OverlayAnswer}
use Rattle.overlay_c.specs.declared.faces.OverlayLayer.{OverlayLayer}
use Rattle.overlay_c.specs.Boundary.{detail_of, plain}

-- the texts of layers, as they are passed
abbrev pub texts_in : List OverlayLayer → List (List ℕ)
texts_in layers = map (λ l. l.bytes.now) layers

-- the layers and the tile side are within their limits, and so are the features of all rows; and this is the text of the faces
pub record AreFacesMade (limits : FacesLimits) (side : ℕ) (texts : List (List ℕ)) (text : List ℕ) : Type 0 where
  pub layers : List (List (List (List Pt)))
  pub grid : Tiling
  pub ready : AreReady limits.segments (alone side) texts layers grid
  pub made : ∥ ((is : IsFacesText layers text) × (ids_in is.rows ≤ limits.ids)) ∥₁

-- the offset or the count that a refusal tells
abbrev pub faces_detail : FacesRefusal → ℕ
faces_detail (Usual fault) = detail_of fault
faces_detail (TooManyIds count) = count

abbrev pub faces_number : FacesRefusal → ℕ
faces_number (Usual fault) = number_of fault
faces_number (TooManyIds count) = 12

-- of so many layers: the number of one, from 0 on, or that of all for the run
abbrev pub faces_part : ℕ → FacesPart → ℕ
faces_part layers (Layer number) = number
faces_part layers Run = layers

-- an answer that tells of a fault over so many layers; its status is that of the program
abbrev pub faces_answer : ℕ → FacesFault → OverlayAnswer
faces_answer layers f = record { length = 0; detail = faces_detail f.refusal; status = faces_status_of f.refusal; number = faces_number f.refusal; part = faces_part layers f.at }

-- why there is no text: the layers are too many for the calls, or they are refused
pub data FailsFaces (limits : FacesLimits) (side : ℕ) (texts : List (List ℕ)) : OverlayAnswer → Type 0 where
  many_layers : MOST_LAYERS < length texts → FailsFaces limits side texts (plain 2 0)
  declined : (fault : FacesFault) → length texts ≤ MOST_LAYERS → DeclinesFaces limits (alone side) texts fault.at fault.refusal → FailsFaces limits side texts (faces_answer (length texts) fault)

-- the side of a tile for layers, where these aren't too many for the calls
pub data IsSideOver (texts : List (List ℕ)) : ℕ → Type 0 where
  fitting : {side : ℕ} → length texts ≤ MOST_LAYERS → IsFittingSideOver texts side → IsSideOver texts side
  many_layers : MOST_LAYERS < length texts → IsSideOver texts DEFAULT_SIDE
