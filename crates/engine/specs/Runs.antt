-- What a run of the engine answers, and what it does to the sink (own).
use Rattle.std.specs.Prelude.{◌≡◌, ℕ, List, Result, length, MatchResult}
use Rattle.geom.specs.declared.edge.Counted.{Counted}
use Rattle.geom.specs.declared.fault.Fault.{Fault}
use Rattle.geom.specs.declared.fault.Fault.TheVariants.{Memory, Write}
use Rattle.geom.specs.declared.fault.Part.{Part}
use Rattle.geom.specs.declared.fault.Part.TheVariants.{Run}
use Rattle.geom.specs.declared.fault.RunFault.{RunFault}
use Rattle.grid.specs.Tiles.{Tiling}
use Rattle.wkt.specs.LayerText.{Ring}
use Rattle.results.specs.declared.text.Report.{Report}
use Rattle.results.specs.Sinks.{SentAll, SentPart, SinkState}
use Rattle.results.specs.Texts.{edges_text_of}
use Rattle.linking.specs.declared.rounded.TileNumbers.{TileNumbers}
use Rattle.engine.specs.Rounds.{AreRoundedOver, IsRemade, TellsTiles}
use Rattle.engine.specs.declared.engine.MadeInParts.{MadeInParts}
use Rattle.layers.specs.declared.plan.Plan.{Plan}
use Rattle.layers.specs.Refusals.{IsReadyWithin, IsRefusedAtWithin, MayRunWithin, segment_count, segment_limit}

-- the report of these edges: they are the rounded edges of the layers, and its numbers are those of the segments, the edges, the hot pixels and the records, of each tile and in all; and no more pieces were made anew than a desk has places
pub record ReportsWithin {M : Type 0} (limit : ℕ) (plan : Plan) (a b : List ℕ) (counted : List Counted) (report : Report M) : Type 0 where
  pub rings_a : List Ring
  pub rings_b : List Ring
  pub grid : Tiling
  pub ready : IsReadyWithin limit plan a b rings_a rings_b grid
  pub segments_a : report.segments_a ≡ segment_count rings_a
  pub segments_b : report.segments_b ≡ segment_count rings_b
  pub edges : report.edges ≡ length counted
  pub tiles : List TileNumbers
  pub rounded : AreRoundedOver a b grid counted tiles
  pub told : TellsTiles tiles report.hot report.records report.tiles.items
  pub remade : IsRemade report.remade

-- the text of the edges, and their report
pub record AreEdgesWrittenWithin {M : Type 0} (limit : ℕ) (plan : Plan) (a b : List ℕ) (text : List ℕ) (report : Report M) : Type 0 where
  pub counted : List Counted
  pub text_is : text ≡ edges_text_of counted
  pub reports : ReportsWithin limit plan a b counted report

-- the text that was made was sent, and its report is answered; or the sink failed, and had taken a beginning of the text
abbrev pub Delivers : {M : Type 0} → SinkState → SinkState → MadeInParts M → Result (Report M) RunFault → Type 0
Delivers old new made r =
    MatchResult r (λ report. (report ≡ made.report) × SentAll old new made.text) (λ f. (f.at ≡ Run) × (f.fault ≡ Write) × SentPart old new made.text)

-- an answer: the sink took the text that goes with the report, and is settled
pub record AnswersWithin {R : Type 0} (limit : ℕ) (old new : SinkState) (plan : Plan) (a b : List ℕ) (IsAnswer : List ℕ → R → Type 0) (report : R) : Type 0 where
  pub may : MayRunWithin limit plan a b
  pub text : List ℕ
  pub is_answer : IsAnswer text report
  pub sent : SentAll old new text

-- the sink failed, and had taken a beginning of the text of an answer
pub record FailedToSendWithin {R : Type 0} (limit : ℕ) (old new : SinkState) (plan : Plan) (a b : List ℕ) (IsAnswer : List ℕ → R → Type 0) : Type 0 where
  pub may : MayRunWithin limit plan a b
  pub text : List ℕ
  pub report : R
  pub is_answer : IsAnswer text report
  pub sent : SentPart old new text

-- a refusal: where the sink failed, it took a beginning; otherwise it is as before
abbrev pub StopsWithin : {S R : Type 0} → ℕ → (S → SinkState) → S → S → Plan → List ℕ → List ℕ → (List ℕ → R → Type 0) → Part → Fault → Type 0
StopsWithin limit state old new plan a b IsAnswer part Write = (part ≡ Run) × FailedToSendWithin limit (state old) (state new) plan a b IsAnswer
StopsWithin limit state old new plan a b IsAnswer part Memory = (part ≡ Run) × MayRunWithin limit plan a b × (new ≡ old)
StopsWithin limit state old new plan a b IsAnswer part fault = IsRefusedAtWithin limit plan a b part fault × (new ≡ old)

-- a run on two layers, whose answers are these
abbrev pub RunsWithin : {S R : Type 0} → ℕ → (S → SinkState) → S → S → Plan → List ℕ → List ℕ → (List ℕ → R → Type 0) → Result R RunFault → Type 0
RunsWithin limit state old new plan a b IsAnswer r =
    MatchResult r (λ report. AnswersWithin limit (state old) (state new) plan a b IsAnswer report) (λ f. StopsWithin limit state old new plan a b IsAnswer f.at f.fault)

-- the plan of a caller without threads
abbrev pub alone : ℕ → Plan
alone side = record { side = side; workers = 1 }

-- a refusal without a sink
abbrev pub DeclinesWithin : ℕ → Plan → List ℕ → List ℕ → Part → Fault → Type 0
DeclinesWithin limit plan a b part Memory = (part ≡ Run) × MayRunWithin limit plan a b
DeclinesWithin limit plan a b part fault = IsRefusedAtWithin limit plan a b part fault

-- ---- the same where no limit is given

abbrev pub Reports : {M : Type 0} → Plan → List ℕ → List ℕ → List Counted → Report M → Type 0
Reports plan a b counted report = ReportsWithin segment_limit plan a b counted report

abbrev pub AreEdgesWritten : {M : Type 0} → Plan → List ℕ → List ℕ → List ℕ → Report M → Type 0
AreEdgesWritten plan a b text report = AreEdgesWrittenWithin segment_limit plan a b text report

abbrev pub Runs : {S R : Type 0} → (S → SinkState) → S → S → Plan → List ℕ → List ℕ → (List ℕ → R → Type 0) → Result R RunFault → Type 0
Runs state old new plan a b IsAnswer r = RunsWithin segment_limit state old new plan a b IsAnswer r

abbrev pub Declines : Plan → List ℕ → List ℕ → Part → Fault → Type 0
Declines plan a b part fault = DeclinesWithin segment_limit plan a b part fault
