-- What a call for the faces of layers promises: its text and report, what it is refused for, and what it does to the sink (own).
use Rattle.std.specs.Prelude.{◌≡◌, ◌<◌, ◌≤◌, ℕ, List, Result, MatchResult, length, map}
use Rattle.geom.specs.declared.directed.DirectedEdge.{DirectedEdge}
use Rattle.geom.specs.declared.fault.Fault.TheVariants.{Memory, Write}
use Rattle.geom.specs.declared.point.Pt.{Pt}
use Rattle.geom.specs.declared.segment.Seg.{Seg}
use Rattle.grid.specs.Tiles.{Tiling, tile_count}
use Rattle.cover_law.specs.Areas.{AreFeatureEdges, row_area, rows_with, sum_of, twice_area}
use Rattle.cover_law.specs.Borders.{AreFeatureSegments}
use Rattle.cover_law.specs.Changing.{changing}
use Rattle.cover_law.specs.Faces.{Tell}
use Rattle.faces_text.specs.Text.{IsFacesText}
use Rattle.linking.specs.Gathered.{AreTileNumbers}
use Rattle.linking.specs.declared.rounded.TileNumbers.{TileNumbers}
use Rattle.rows.specs.Made.{ids_in}
use Rattle.layers.specs.declared.plan.Plan.{Plan}
use Rattle.engine.specs.declared.faces_run.FaceBorders.{FaceBorders}
use Rattle.engine.specs.declared.faces_run.MadeFaces.{MadeFaces}
use Rattle.layers.specs.declared.faces_limits.FacesLimits.{FacesLimits}
use Rattle.layers.specs.declared.faces_fault.FacesFault.{FacesFault}
use Rattle.layers.specs.declared.faces_fault.FacesPart.{FacesPart}
use Rattle.layers.specs.declared.faces_fault.FacesPart.TheVariants.{Run}
use Rattle.layers.specs.declared.faces_fault.FacesRefusal.{FacesRefusal}
use Rattle.layers.specs.declared.faces_fault.FacesRefusal.TheVariants.{Usual, TooManyIds}
use Rattle.engine.specs.declared.faces_report.FacesReport.{FacesReport}
use Rattle.engine.specs.FaceBorders.{AreRoundedBorders}
use Rattle.layers.specs.FeatureSegments.{all_features, feature_steps}
use Rattle.layers.specs.FeatureLayers.{AreReady, MayRound, StandForLayers}
use Rattle.layers.specs.Segments.{AllInLimit}
use Rattle.engine.specs.Rounds.{IsRemade, TellsTiles}
use Rattle.results.specs.Sinks.{SentAll, SentPart, SinkState}
use Rattle.layers.specs.FacesRefusals.{IsFacesRefusedAt}

-- ---- an answer

-- The text of the faces of layers, and the numbers of their rounding over a grid: of the edges that are the border of some feature, of the rows and
-- their features, of the hot pixels and the records, of each tile and in all.
pub record AreFacesTold {M : Type 0} (layers : List (List (List (List Pt)))) (grid : Tiling) (text : List ℕ) (report : FacesReport M) : Type 0 where
  pub is_text : IsFacesText layers text
  pub edges : report.edges ≡ length (changing is_text.are_faces.edges)
  pub rows : report.rows ≡ length is_text.rows
  pub ids : report.ids ≡ ids_in is_text.rows
  pub tiles : List TileNumbers
  pub tiles_are : AreTileNumbers grid is_text.are_faces.segments (tile_count grid) tiles
  pub told : TellsTiles tiles report.hot report.records report.tiles.items

-- the text of the faces of layers, and its report, which has the numbers of each layer's segments and features too
pub record AreFacesWritten {M : Type 0} (limits : FacesLimits) (plan : Plan) (texts : List (List ℕ)) (text : List ℕ) (report : FacesReport M) : Type 0 where
  pub layers : List (List (List (List Pt)))
  pub grid : Tiling
  pub ready : AreReady limits.segments plan texts layers grid
  pub faces : ∥ AreFacesTold layers grid text report ∥₁
  pub segments : map (λ l. l.segments) report.layers.items ≡ map (λ features. length (feature_steps features)) layers
  pub features : map (λ l. l.features) report.layers.items ≡ map (λ features. length features) layers
  pub few_ids : report.ids ≤ limits.ids
  pub remade : IsRemade report.remade

-- ---- the sink

-- an answer: the sink took the text that goes with the report, and is settled
pub record AnswersFaces {M : Type 0} (limits : FacesLimits) (old new : SinkState) (plan : Plan) (texts : List (List ℕ)) (report : FacesReport M) : Type 0 where
  pub text : List ℕ
  pub written : AreFacesWritten limits plan texts text report
  pub sent : SentAll old new text

-- the sink failed, and had taken a beginning of the text of an answer
pub record FailedToSendFaces (M : Type 0) (limits : FacesLimits) (old new : SinkState) (plan : Plan) (texts : List (List ℕ)) : Type 0 where
  pub text : List ℕ
  pub report : FacesReport M
  pub written : AreFacesWritten limits plan texts text report
  pub sent : SentPart old new text

-- a refusal without a sink
abbrev pub DeclinesFaces : FacesLimits → Plan → List (List ℕ) → FacesPart → FacesRefusal → Type 0
DeclinesFaces limits plan texts part (Usual Memory) = (part ≡ Run) × MayRound limits.segments plan texts
DeclinesFaces limits plan texts part refusal = IsFacesRefusedAt limits plan texts part refusal

-- a refusal: where the sink failed, it took a beginning; otherwise it is as before
abbrev pub StopsFaces : (M : Type 0) → {S : Type 0} → FacesLimits → (S → SinkState) → S → S → Plan → List (List ℕ) → FacesPart → FacesRefusal → Type 0
StopsFaces M limits state old new plan texts part (Usual Write) = (part ≡ Run) × FailedToSendFaces M limits (state old) (state new) plan texts
StopsFaces M limits state old new plan texts part refusal = DeclinesFaces limits plan texts part refusal × (new ≡ old)

-- a call for the faces of layers
abbrev pub RunsFaces : {S M : Type 0} → FacesLimits → (S → SinkState) → S → S → Plan → List (List ℕ) → Result (FacesReport M) FacesFault → Type 0
RunsFaces {S} {M} limits state old new plan texts r =
    MatchResult r (λ report. AnswersFaces limits (state old) (state new) plan texts report) (λ f. StopsFaces M limits state old new plan texts f.at f.refusal)

-- the text that was made was sent, and its report is answered; or the sink failed, and had taken a beginning of the text
abbrev pub DeliversFaces : {M : Type 0} → SinkState → SinkState → MadeFaces M → Result (FacesReport M) FacesFault → Type 0
DeliversFaces old new made r =
    MatchResult r (λ report. (report ≡ made.report) × SentAll old new made.text) (λ f. (f.at ≡ Run) × (f.refusal ≡ Usual Write) × SentPart old new made.text)

-- ---- laws

-- the text of faces is one: whatever the tile side, the number of workers and the limits, and whatever the threads did
abbrev pub FacesTextIsOneWithin : Type 0 → Type 0 → Type 0
FacesTextIsOneWithin M N = (limits other_limits : FacesLimits) (texts : List (List ℕ)) (plan other : Plan) (text text' : List ℕ) (report : FacesReport M) (report' : FacesReport N)
    → AreFacesWritten limits plan texts text report → AreFacesWritten other_limits other texts text' report' → text ≡ text'

-- a plan and layers are refused for one reason, at one place
abbrev pub FacesRefusalIsOne : Type 0
FacesRefusalIsOne = (limits : FacesLimits) (plan : Plan) (texts : List (List ℕ)) (part other : FacesPart) (f g : FacesRefusal)
    → IsFacesRefusedAt limits plan texts part f → IsFacesRefusedAt limits plan texts other g → (part ≡ other) × (f ≡ g)

-- and then no text is their answer: none is sent whole, and no sink gets a beginning of one
abbrev pub RefusedAreNotWritten : Type 0 → Type 0
RefusedAreNotWritten M = (limits : FacesLimits) (plan : Plan) (texts : List (List ℕ)) (part : FacesPart) (f : FacesRefusal) (text : List ℕ) (report : FacesReport M)
    → IsFacesRefusedAt limits plan texts part f → AreFacesWritten limits plan texts text report → ⊥

-- nor does memory end the call where they are refused, but for too many features in all rows: these are counted in memory
abbrev pub RefusedMayNotRound : Type 0
RefusedMayNotRound = (limits : FacesLimits) (plan : Plan) (texts : List (List ℕ)) (part : FacesPart) (f : FacesRefusal)
    → IsFacesRefusedAt limits plan texts part f → MayRound limits.segments plan texts → (ids : ℕ) × (part ≡ Run) × (f ≡ TooManyIds ids)

-- what the rows of a text tell of the features of layers, over the rounded edges with the features whose border they are: every rational point lies in
-- the polygons of just the row of its cover set, each point that is covered lies in one, and of each feature the areas of the rows that have it add up
-- to its area as it was rounded
pub record TellOfLayers (layers : List (List (List (List Pt)))) (text : List ℕ) : Type 0 where
  pub is_text : IsFacesText layers text
  pub tell : Tell (length (all_features layers)) is_text.are_faces.edges is_text.rows
  pub areas : (f : ℕ) → f < length (all_features layers) → (directed : List DirectedEdge) → AreFeatureEdges is_text.are_faces.edges f directed
      → sum_of row_area (rows_with f is_text.rows) ≡ twice_area directed

-- a text of faces tells that of the layers that the texts stand for
abbrev pub WrittenFacesTell : Type 0 → Type 0
WrittenFacesTell M = (limits : FacesLimits) (plan : Plan) (texts : List (List ℕ)) (text : List ℕ) (report : FacesReport M) → AreFacesWritten limits plan texts text report
    → (layers : List (List (List (List Pt)))) × StandForLayers texts layers × ∥ TellOfLayers layers text ∥₁

-- ---- what is known on the way

-- the borders of the features of layers, as they are rounded together, with the sizes of the layers, and the tiles' numbers over a grid
pub record AreBordersOf {M : Type 0} (layers : List (List (List (List Pt)))) (grid : Tiling) (b : FaceBorders M) : Type 0 where
  pub segments : List Seg
  pub owners : List ℕ
  pub are_segments : AreFeatureSegments (all_features layers) segments owners
  pub in_limit : AllInLimit segments
  pub few : length (all_features layers) ≤ 2147483647
  pub rounded : AreRoundedBorders segments owners b.rounded
  pub segments_are : map (λ z. z.segments) b.sizes.items ≡ map (λ features. length (feature_steps features)) layers
  pub features_are : map (λ z. z.features) b.sizes.items ≡ map (λ features. length features) layers
  pub tiles_are : AreTileNumbers grid segments (tile_count grid) b.rounded.tiles.items
  pub remade : IsRemade b.rounded.remade

-- those of the layers that these texts stand for
pub record AreBordersOver {M : Type 0} (texts : List (List ℕ)) (grid : Tiling) (b : FaceBorders M) : Type 0 where
  pub layers : List (List (List (List Pt)))
  pub stand : StandForLayers texts layers
  pub of : AreBordersOf layers grid b
