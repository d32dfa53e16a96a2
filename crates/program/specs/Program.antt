-- What the program writes, and what it answers then (own).
use Rattle.std.specs.Prelude.{◌≡◌, ◌≢◌, ◌⊎◌, ℕ, Bool, true, false, List, [], ◌∷◌, ◌++◌, Option, Some, None, Result, Ok, Err, IfErr, MatchOption, MatchResult, codes, string_bytes}
use Rattle.std.specs.declared.alloc.Global.{Global}
use Rattle.clap.specs.Words.{Text}
use Rattle.grid.specs.declared.sides.TheConstants.{DEFAULT_SIDE}
use Rattle.engine.specs.CoveredRuns.{RunsCovered}
use Rattle.engine.specs.Measures.{IsMeasuredWithin}
use Rattle.engine.specs.MeasuresText.{measures_text_of}
use Rattle.engine.specs.declared.measures.Measured.{Measured}
use Rattle.layers.specs.FaultWords.{faces_line_of, faces_status_of, line_of, status_of}
use Rattle.engine.specs.Fitting.{IsFittingSide, IsFittingSideOver}
use Rattle.geom.specs.declared.fault.Fault.TheVariants.{TooManyTiles}
use Rattle.geom.specs.declared.fault.Part.TheVariants.{Run}
use Rattle.geom.specs.declared.fault.RunFault.{RunFault}
use Rattle.geom.specs.declared.op.Op.{Op}
use Rattle.engine.specs.Runs.{AreEdgesWrittenWithin, RunsWithin}
use Rattle.layers.specs.Refusals.{segment_limit, text_limit}
use Rattle.engine.specs.Results.{IsResultWrittenWithin}
use Rattle.results.specs.Sinks.{SentAll, SentPart, SinkState}
use Rattle.results.specs.Texts.{report_of}
use Rattle.layers.specs.declared.plan.Plan.{Plan}
use Rattle.layers.specs.declared.faces_fault.FacesFault.{FacesFault}
use Rattle.layers.specs.declared.faces_fault.FacesPart.TheVariants.{Run as AllLayers}
use Rattle.layers.specs.declared.faces_fault.FacesRefusal.TheVariants.{Usual}
use Rattle.results.specs.declared.text.Report.{Report}
use Rattle.program.specs.CommandLine.{IsAskedBy, IsRefusalOf, operation_covered, operation_measured}
use Rattle.program.specs.Loading.{Loads}
use Rattle.program.specs.declared.asked.CliFault.{CliFault}
use Rattle.program.specs.declared.asked.CliFault.TheVariants.{Unknown, CoveredEdges, AreasElsewhere, Help, Refused, Memory}
use Rattle.program.specs.declared.asked.Command.{Command}
use Rattle.program.specs.declared.asked.Command.TheVariants.{Edges, Apply}
use Rattle.program.specs.declared.asked.Request.{Request}
use Rattle.program.specs.declared.files.LoadFault.{LoadFault}
use Rattle.program.specs.declared.files.LoadFault.TheVariants.{Unreadable, Memory as NoRoom}

-- the text was sent: the sink took all of it, or failed
abbrev pub IsSent : SinkState → SinkState → List ℕ → Type 0
IsSent old new text = SentAll old new text ⊎ SentPart old new text

-- the status is 0 where the sink took the whole text, and 1 where it failed
abbrev pub Shows : SinkState → SinkState → List ℕ → ℕ → Type 0
Shows old new text status = ((status ≡ 0) × SentAll old new text) ⊎ ((status ≡ 1) × SentPart old new text)

-- the line of want of memory
abbrev pub memory_line : List ℕ
memory_line = codes "overlay: 10 out of memory" ++ 10 ∷ []

-- want of memory is told, with status 1
abbrev pub TellsMemory : SinkState → SinkState → ℕ → Type 0
TellsMemory old new status = (status ≡ 1) × IsSent old new memory_line

-- the line of a fault is told, with its status; or memory is wanted for the line
abbrev pub TellsFault : SinkState → SinkState → RunFault → ℕ → Type 0
TellsFault old new fault status = ((status ≡ status_of fault) × IsSent old new (line_of fault)) ⊎ TellsMemory old new status

-- the line of a fault is told, with its status; or memory is wanted for the line
abbrev pub TellsFacesFault : SinkState → SinkState → FacesFault → ℕ → Type 0
TellsFacesFault old new fault status = ((status ≡ faces_status_of fault.refusal) × IsSent old new (faces_line_of fault)) ⊎ TellsMemory old new status

-- a report is shown; or memory is wanted for its text
abbrev pub ShowsReport : {A : Type 0} → SinkState → SinkState → Report A → ℕ → Type 0
ShowsReport old new report status = Shows old new (report_of report) status ⊎ TellsMemory old new status

-- why a file isn't read is told, with status 1: by its own line, or that of want of memory
abbrev pub TellsFile : SinkState → SinkState → LoadFault → List ℕ → ℕ → Type 0
TellsFile old new Unreadable text status = (status ≡ 1) × IsSent old new text
TellsFile old new NoRoom text status = TellsMemory old new status

-- the line of a layer whose file can't be read
abbrev pub unread_a : List ℕ
unread_a = codes "overlay: A: cannot read" ++ 10 ∷ []

abbrev pub unread_b : List ℕ
unread_b = codes "overlay: B: cannot read" ++ 10 ∷ []

-- the line of a command word that isn't offered
abbrev pub unknown_line : List ℕ
unknown_line = codes "overlay: unknown command" ++ 10 ∷ []

-- the line where the edges of layers that are read as covered are asked for
abbrev pub covered_line : List ℕ
covered_line = codes "overlay: --covered goes with union, intersection, difference and symdifference" ++ 10 ∷ []

-- the line where areas of edges, or of an operation on layers that are read as covered, are asked for
abbrev pub areas_line : List ℕ
areas_line = codes "overlay: --areas goes with union, intersection, difference and symdifference, without --covered" ++ 10 ∷ []

-- what is said of a command line: help goes to the output, with status 0; all else to the other sink, with status 2, or 1 at want of memory
abbrev pub TellsLine : {O E : Type 0} → (O → SinkState) → (E → SinkState) → O → O → E → E → CliFault → ℕ → Type 0
TellsLine out_state err_state out out' err err' Unknown status = (status ≡ 2) × (out' ≡ out) × IsSent (err_state err) (err_state err') unknown_line
TellsLine out_state err_state out out' err err' CoveredEdges status = (status ≡ 2) × (out' ≡ out) × IsSent (err_state err) (err_state err') covered_line
TellsLine out_state err_state out out' err err' AreasElsewhere status = (status ≡ 2) × (out' ≡ out) × IsSent (err_state err) (err_state err') areas_line
TellsLine out_state err_state out out' err err' (Help text) status = (err' ≡ err) × Shows (out_state out) (out_state out') (string_bytes text) status
TellsLine out_state err_state out out' err err' (Refused text) status = (status ≡ 2) × (out' ≡ out) × IsSent (err_state err) (err_state err') (string_bytes text)
TellsLine out_state err_state out out' err err' Memory status = (out' ≡ out) × TellsMemory (err_state err) (err_state err') status

-- the limit of segments: the one that was given, or where none was the engine's
abbrev pub limit_of : Option ℕ → ℕ
limit_of None = segment_limit
limit_of (Some n) = n

-- the text that a command asks for, and its report
abbrev pub IsAskedText : {M : Type 0} → ℕ → Command → Plan → List ℕ → List ℕ → List ℕ → Report M → Type 0
IsAskedText limit Edges plan a b text report = AreEdgesWrittenWithin limit plan a b text report
IsAskedText limit (Apply op) plan a b text report = IsResultWrittenWithin limit op plan a b text report

-- the plan of a request, with this side of a tile
abbrev pub plan_of : Request → ℕ → Plan
plan_of request side = record { side = side; workers = request.workers }

-- a run that a request asks for, with this side of a tile and within its limit of segments
abbrev pub RunsFor : {S M : Type 0} → (S → SinkState) → S → S → Request → ℕ → List ℕ → List ℕ → Result (Report M) RunFault → Type 0
RunsFor state old new request side a b r =
    RunsWithin (limit_of request.segments) state old new (plan_of request side) a b (IsAskedText (limit_of request.segments) request.command (plan_of request side) a b) r

-- the side is the one that was given; where none was, the default one, or the one that fits the layers
abbrev pub IsChosenSide : Option ℕ → List ℕ → List ℕ → ℕ → Type 0
IsChosenSide given a b side = MatchOption given ((side ≡ DEFAULT_SIDE) ⊎ IsFittingSide a b side) (λ s. side ≡ s)

-- the side is the one that was given; where none was, the default one, or the one that fits the layers
abbrev pub IsChosenSideOver : Option ℕ → List (List ℕ) → ℕ → Type 0
IsChosenSideOver given texts side = MatchOption given ((side ≡ DEFAULT_SIDE) ⊎ IsFittingSideOver texts side) (λ s. side ≡ s)

-- where no side was given, the run isn't refused for too many tiles
abbrev pub IsFitted : {R : Type 0} → Option ℕ → Result R RunFault → Type 0
IsFitted None r = IfErr r (λ f. (count : ℕ) → f.at ≡ Run → f.fault ≢ TooManyTiles count)
IsFitted (Some side) r = Unit {0}

-- where no side was given, the layers aren't refused for too many tiles
abbrev pub IsFittedOver : {M : Type 0} → Option ℕ → Result M FacesFault → Type 0
IsFittedOver None r = IfErr r (λ f. (count : ℕ) → f.at ≡ AllLayers → f.refusal ≢ Usual (TooManyTiles count))
IsFittedOver (Some side) r = Unit {0}

-- a run that a request asks for on two layers
abbrev pub Performs : {S M : Type 0} → (S → SinkState) → S → S → Request → List ℕ → List ℕ → Result (Report M) RunFault → Type 0
Performs state old new request a b r = (side : ℕ) × IsChosenSide request.side a b side × RunsFor state old new request side a b r × IsFitted request.side r

-- an operation that a request asks for with its areas, with this side of a tile and within its limit of segments: the text is that of the operation without them
abbrev pub RunsMeasuredFor : {S M : Type 0} → (S → SinkState) → S → S → Request → Op → ℕ → List ℕ → List ℕ → Result (Measured (Report M)) RunFault → Type 0
RunsMeasuredFor state old new request op side a b r =
    RunsWithin (limit_of request.segments) state old new (plan_of request side) a b
    (λ text m. IsMeasuredWithin (limit_of request.segments) op (plan_of request side) a b text m.answer m.measures) r

abbrev pub PerformsMeasured : {S M : Type 0} → (S → SinkState) → S → S → Request → Op → List ℕ → List ℕ → Result (Measured (Report M)) RunFault → Type 0
PerformsMeasured state old new request op a b r = (side : ℕ) × IsChosenSide request.side a b side × RunsMeasuredFor state old new request op side a b r × IsFitted request.side r

-- an operation on layers that are read as covered, as a request asks for it, with this side of a tile and within its limit of segments
abbrev pub RunsCoveredFor : {S M : Type 0} → (S → SinkState) → S → S → Request → Op → ℕ → List ℕ → List ℕ → Result (Report M) FacesFault → Type 0
RunsCoveredFor state old new request op side a b r = RunsCovered (limit_of request.segments) state old new op (plan_of request side) a b r

abbrev pub PerformsCovered : {S M : Type 0} → (S → SinkState) → S → S → Request → Op → List ℕ → List ℕ → Result (Report M) FacesFault → Type 0
PerformsCovered state old new request op a b r = (side : ℕ) × IsChosenSideOver request.side (a ∷ b ∷ []) side × RunsCoveredFor state old new request op side a b r × IsFittedOver request.side r

-- what is told of an answer: its report, where one is wanted
abbrev pub TellsAnswer : {E M : Type 0} → (E → SinkState) → E → E → Bool → Report M → ℕ → Type 0
TellsAnswer state err err' true report status = ShowsReport (state err) (state err') report status
TellsAnswer state err err' false report status = (status ≡ 0) × (err' ≡ err)

-- what is told of a run
abbrev pub TellsRun : {E M : Type 0} → (E → SinkState) → E → E → Bool → Result (Report M) RunFault → ℕ → Type 0
TellsRun state err err' wanted r status = MatchResult r (λ report. TellsAnswer state err err' wanted report status) (λ fault. TellsFault (state err) (state err') fault status)

abbrev pub TellsCoveredRun : {E M : Type 0} → (E → SinkState) → E → E → Bool → Result (Report M) FacesFault → ℕ → Type 0
TellsCoveredRun state err err' wanted r status =
    MatchResult r (λ report. TellsAnswer state err err' wanted report status) (λ fault. TellsFacesFault (state err) (state err') fault status)

-- the text that is told of a measured answer: its report, where one is wanted, and behind it the lines of its measures
abbrev pub measured_text_of : {M : Type 0} → Bool → Measured (Report M) → List ℕ
measured_text_of true m = report_of m.answer ++ measures_text_of m.measures
measured_text_of false m = measures_text_of m.measures

-- it is shown; or memory is wanted for it
abbrev pub ShowsMeasured : {M : Type 0} → SinkState → SinkState → Bool → Measured (Report M) → ℕ → Type 0
ShowsMeasured old new wanted m status = Shows old new (measured_text_of wanted m) status ⊎ TellsMemory old new status

abbrev pub TellsMeasuredRun : {E M : Type 0} → (E → SinkState) → E → E → Bool → Result (Measured (Report M)) RunFault → ℕ → Type 0
TellsMeasuredRun state err err' wanted r status =
    MatchResult r (λ m. ShowsMeasured (state err) (state err') wanted m status) (λ fault. TellsFault (state err) (state err') fault status)

-- two layers are run by parity, which is told
abbrev pub DoesUnmeasured : {O E : Type 0} → (O → SinkState) → (E → SinkState) → O → O → E → E → Request → List ℕ → List ℕ → ℕ → Type 0
DoesUnmeasured out_state err_state out out' err err' request a b status =
    (r : Result (Report Global) RunFault) × Performs out_state out out' request a b r × TellsRun err_state err err' request.report r status

-- an operation on two layers by parity is run, which is told, and so are its areas
abbrev pub DoesMeasured : {O E : Type 0} → (O → SinkState) → (E → SinkState) → O → O → E → E → Request → List ℕ → List ℕ → Op → ℕ → Type 0
DoesMeasured out_state err_state out out' err err' request a b op status =
    (r : Result (Measured (Report Global)) RunFault) × PerformsMeasured out_state out out' request op a b r × TellsMeasuredRun err_state err err' request.report r status

-- two layers are run by parity, with areas or without
abbrev pub DoesByParity : {O E : Type 0} → (O → SinkState) → (E → SinkState) → O → O → E → E → Request → List ℕ → List ℕ → ℕ → Type 0
DoesByParity out_state err_state out out' err err' request a b status = MatchOption (operation_measured request.command request.areas)
    (DoesUnmeasured out_state err_state out out' err err' request a b status) (λ op. DoesMeasured out_state err_state out out' err err' request a b op status)

-- two layers that are read as covered are run, which is told
abbrev pub DoesCovered : {O E : Type 0} → (O → SinkState) → (E → SinkState) → O → O → E → E → Request → List ℕ → List ℕ → Op → ℕ → Type 0
DoesCovered out_state err_state out out' err err' request a b op status =
    (r : Result (Report Global) FacesFault) × PerformsCovered out_state out out' request op a b r × TellsCoveredRun err_state err err' request.report r status

-- two layers are run, read as it is asked for
abbrev pub DoesOn : {O E : Type 0} → (O → SinkState) → (E → SinkState) → O → O → E → E → Request → List ℕ → List ℕ → ℕ → Type 0
DoesOn out_state err_state out out' err err' request a b status = MatchOption (operation_covered request.command request.covered)
    (DoesByParity out_state err_state out out' err err' request a b status) (λ op. DoesCovered out_state err_state out out' err err' request a b op status)

-- a file can't be loaded: this is told by its fault and this line, with status 1 and no output
abbrev pub EndsUnread : {F O E : Type 0} → Loads F → (E → SinkState) → F → F → O → O → E → E → Text → List ℕ → ℕ → Type 0
EndsUnread loads err_state files files' out out' err err' name line status =
    (fault : LoadFault) × loads files name (Err fault) files' × (out' ≡ out) × TellsFile (err_state err) (err_state err') fault line status

-- file B is loaded, and run with the text of file A; or it can't be loaded
abbrev pub DoesWithB : {F O E : Type 0} → Loads F → (O → SinkState) → (E → SinkState) → F → F → O → O → E → E → Request → List ℕ → ℕ → Type 0
DoesWithB loads out_state err_state files files' out out' err err' request a status = EndsUnread loads err_state files files' out out' err err' request.b.now unread_b status
    ⊎ ((b : List ℕ) × loads files request.b.now (Ok b) files' × DoesOn out_state err_state out out' err err' request a b status)

-- a request is done: file A is loaded, and then file B; or file A can't be loaded, and file B is not tried
abbrev pub Does : {F O E : Type 0} → Loads F → (O → SinkState) → (E → SinkState) → F → F → O → O → E → E → Request → ℕ → Type 0
Does {F} loads out_state err_state files files' out out' err err' request status = EndsUnread loads err_state files files' out out' err err' request.a.now unread_a status
    ⊎ ((a : List ℕ) × (between : F) × loads files request.a.now (Ok a) between × DoesWithB loads out_state err_state between files' out out' err err' request a status)

-- a command line is done: what it asks for is done; or it is told why it isn't accepted, and nothing is loaded
abbrev pub DoesLine : {F O E : Type 0} → (ℕ → Loads F) → (O → SinkState) → (E → SinkState) → F → F → O → O → E → E → List Text → ℕ → Type 0
DoesLine loads out_state err_state files files' out out' err err' words status =
    ((request : Request) × IsAskedBy words request × Does (loads (text_limit (limit_of request.segments))) out_state err_state files files' out out' err err' request status)
    ⊎ ((fault : CliFault) × IsRefusalOf words fault × (files' ≡ files) × TellsLine out_state err_state out out' err err' fault status)
