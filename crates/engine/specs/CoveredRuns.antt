-- What a call for an operation on two layers that are read as covered promises: its text and report, what it is refused for, and what it does to
-- the sink (own).
use Rattle.std.specs.Prelude.{◌≡◌, ◌++◌, ℕ, List, [], ◌∷◌, Result, MatchResult, length}
use Rattle.geom.specs.declared.fault.Fault.TheVariants.{Write}
use Rattle.geom.specs.declared.op.Op.{Op}
use Rattle.geom.specs.declared.point.Pt.{Pt}
use Rattle.geom.specs.declared.segment.Seg.{Seg}
use Rattle.grid.specs.Tiles.{Tiling, tile_count}
use Rattle.cover_law.specs.Borders.{AreBordered, AreFeatureSegments}
use Rattle.cover_law.specs.Changing.{changing}
use Rattle.cover_law.specs.Cover.{Bordered}
use Rattle.linking.specs.Gathered.{AreTileNumbers}
use Rattle.linking.specs.declared.rounded.TileNumbers.{TileNumbers}
use Rattle.engine.specs.declared.engine.MadeInParts.{MadeInParts}
use Rattle.layers.specs.declared.plan.Plan.{Plan}
use Rattle.layers.specs.declared.faces_fault.FacesFault.{FacesFault}
use Rattle.layers.specs.declared.faces_fault.FacesPart.{FacesPart}
use Rattle.layers.specs.declared.faces_fault.FacesPart.TheVariants.{Run}
use Rattle.layers.specs.declared.faces_fault.FacesRefusal.{FacesRefusal}
use Rattle.layers.specs.declared.faces_fault.FacesRefusal.TheVariants.{Usual}
use Rattle.layers.specs.declared.faces_limits.FacesLimits.{FacesLimits}
use Rattle.results.specs.declared.text.Report.{Report}
use Rattle.engine.specs.CoveredResults.{IsCoveredText}
use Rattle.engine.specs.Faces.{DeclinesFaces}
use Rattle.layers.specs.FeatureSegments.{feature_steps}
use Rattle.layers.specs.FeatureLayers.{AreReady}
use Rattle.engine.specs.Rounds.{IsRemade, TellsTiles}
use Rattle.results.specs.Sinks.{SentAll, SentPart, SinkState}

-- ---- limits

-- so many segments of both layers together; the number of features in all rows has no limit, since no rows are made
abbrev pub covered_limits : ℕ → FacesLimits
covered_limits segments = record { segments = segments; ids = 18446744073709551615 }

-- ---- an answer

-- the text of the result on two layers of features, whose segments are rounded together
pub record IsCoveredOf (op : Op) (a b : List (List (List Pt))) (text : List ℕ) : Type 0 where
  pub segments : List Seg
  pub owners : List ℕ
  pub are_segments : AreFeatureSegments (a ++ b) segments owners
  pub edges : List Bordered
  pub are_bordered : AreBordered (length (a ++ b)) segments owners edges
  pub is_text : IsCoveredText op (length a) (length (a ++ b)) edges text

-- that text, and the numbers of the rounding over a grid: of the edges that are the border of some feature, of the hot pixels and the records, of
-- each tile and in all
pub record IsCoveredTold {M : Type 0} (op : Op) (a b : List (List (List Pt))) (grid : Tiling) (text : List ℕ) (report : Report M) : Type 0 where
  pub of : IsCoveredOf op a b text
  pub changing_edges : report.edges ≡ length (changing of.edges)
  pub tiles : List TileNumbers
  pub tiles_are : AreTileNumbers grid of.segments (tile_count grid) tiles
  pub told : TellsTiles tiles report.hot report.records report.tiles.items

-- the text of the result on two layers, and its report, which has the numbers of each layer's segments too
pub record IsCoveredWritten {M : Type 0} (segments : ℕ) (op : Op) (plan : Plan) (a b : List ℕ) (text : List ℕ) (report : Report M) : Type 0 where
  pub features_a : List (List (List Pt))
  pub features_b : List (List (List Pt))
  pub grid : Tiling
  pub ready : AreReady segments plan (a ∷ b ∷ []) (features_a ∷ features_b ∷ []) grid
  pub result : ∥ IsCoveredTold op features_a features_b grid text report ∥₁
  pub segments_a : report.segments_a ≡ length (feature_steps features_a)
  pub segments_b : report.segments_b ≡ length (feature_steps features_b)
  pub remade : IsRemade report.remade

-- ---- refusals and the sink

-- a refusal without a sink: as of the faces of both layers
abbrev pub DeclinesCovered : ℕ → Plan → List ℕ → List ℕ → FacesPart → FacesRefusal → Type 0
DeclinesCovered segments plan a b part refusal = DeclinesFaces (covered_limits segments) plan (a ∷ b ∷ []) part refusal

-- an answer: the sink took the text that goes with the report, and is settled
pub record AnswersCovered {M : Type 0} (segments : ℕ) (old new : SinkState) (op : Op) (plan : Plan) (a b : List ℕ) (report : Report M) : Type 0 where
  pub text : List ℕ
  pub written : IsCoveredWritten segments op plan a b text report
  pub sent : SentAll old new text

-- the sink failed, and had taken a beginning of the text of an answer
pub record FailedToSendCovered (M : Type 0) (segments : ℕ) (old new : SinkState) (op : Op) (plan : Plan) (a b : List ℕ) : Type 0 where
  pub text : List ℕ
  pub report : Report M
  pub written : IsCoveredWritten segments op plan a b text report
  pub sent : SentPart old new text

-- a refusal: where the sink failed, it took a beginning; otherwise it is as before
abbrev pub StopsCovered : (M : Type 0) → {S : Type 0} → ℕ → (S → SinkState) → S → S → Op → Plan → List ℕ → List ℕ → FacesPart → FacesRefusal → Type 0
StopsCovered M segments state old new op plan a b part (Usual Write) = (part ≡ Run) × FailedToSendCovered M segments (state old) (state new) op plan a b
StopsCovered M segments state old new op plan a b part refusal = DeclinesCovered segments plan a b part refusal × (new ≡ old)

-- a call for an operation on two layers that are read as covered
abbrev pub RunsCovered : {S M : Type 0} → ℕ → (S → SinkState) → S → S → Op → Plan → List ℕ → List ℕ → Result (Report M) FacesFault → Type 0
RunsCovered {S} {M} segments state old new op plan a b r =
    MatchResult r (λ report. AnswersCovered segments (state old) (state new) op plan a b report) (λ f. StopsCovered M segments state old new op plan a b f.at f.refusal)

-- the text that was made was sent, and its report is answered; or the sink failed, and had taken a beginning of the text
abbrev pub DeliversCovered : {M : Type 0} → SinkState → SinkState → MadeInParts M → Result (Report M) FacesFault → Type 0
DeliversCovered old new made r =
    MatchResult r (λ report. (report ≡ made.report) × SentAll old new made.text) (λ f. (f.at ≡ Run) × (f.refusal ≡ Usual Write) × SentPart old new made.text)

-- ---- a law

-- the text of the result is one: whatever the tile side, the number of workers and the limits, and whatever the threads did
abbrev pub CoveredTextIsOneWithin : Type 0 → Type 0 → Type 0
CoveredTextIsOneWithin M N = (segments other_segments : ℕ) (op : Op) (plan other : Plan) (a b text text' : List ℕ) (report : Report M) (report' : Report N)
    → IsCoveredWritten segments op plan a b text report → IsCoveredWritten other_segments op other a b text' report' → text ≡ text'
