-- What the program writes about faces, and what it answers then (own).
use Rattle.std.specs.Prelude.{◌≡◌, ◌⊎◌, ℕ, Bool, true, false, List, [], ◌∷◌, ◌++◌, Option, Result, MatchResult, codes, map}
use Rattle.std.specs.declared.alloc.Global.{Global}
use Rattle.clap.specs.Words.{Text}
use Rattle.engine.specs.Faces.{RunsFaces}
use Rattle.layers.specs.FacesRefusals.{faces_limits}
use Rattle.layers.specs.Refusals.{text_limit}
use Rattle.engine.specs.FaceWords.{faces_report_of}
use Rattle.layers.specs.FaultWords.{layer_name}
use Rattle.results.specs.Sinks.{SinkState}
use Rattle.layers.specs.declared.plan.Plan.{Plan}
use Rattle.layers.specs.declared.faces_fault.FacesFault.{FacesFault}
use Rattle.layers.specs.declared.faces_limits.FacesLimits.{FacesLimits}
use Rattle.engine.specs.declared.faces_report.FacesReport.{FacesReport}
use Rattle.program.specs.Loading.{AreLoadedInTurn, AreSomeLoaded, IsFirstUnread, Loads}
use Rattle.program.specs.FacesLine.{IsFacesAskedBy, IsFacesRefusalOf, asks_for_faces}
use Rattle.program.specs.NodedLine.{asks_for_noded}
use Rattle.program.specs.NodedProgram.{DoesNodedLine}
use Rattle.program.specs.Program.{DoesLine, IsChosenSideOver, IsFittedOver, Shows, TellsFacesFault, TellsFile, TellsLine, TellsMemory, limit_of}
use Rattle.program.specs.declared.asked.CliFault.{CliFault}
use Rattle.program.specs.declared.asked.FacesRequest.{FacesRequest}
use Rattle.program.specs.declared.files.LoadFault.{LoadFault}

-- the line of a layer whose file can't be read
abbrev pub unread_line : ℕ → List ℕ
unread_line number = codes "overlay: " ++ (layer_name number ++ (codes ": cannot read" ++ 10 ∷ []))

-- why the layers of these names aren't read is told: the first that can't be loaded, by its number and fault; or memory is wanted
abbrev pub TellsUnreadLayer : {F : Type 0} → Loads F → F → F → List Text → SinkState → SinkState → ℕ → Type 0
TellsUnreadLayer loads files files' names old new status =
    ((number : ℕ) × (fault : LoadFault) × IsFirstUnread loads files names number fault files' × (TellsFile old new fault (unread_line number) status ⊎ TellsMemory old new status))
    ⊎ (AreSomeLoaded loads files names files' × TellsMemory old new status)

-- a report is shown; or memory is wanted for its text
abbrev pub ShowsFacesReport : {A : Type 0} → SinkState → SinkState → FacesReport A → ℕ → Type 0
ShowsFacesReport old new report status = Shows old new (faces_report_of report) status ⊎ TellsMemory old new status

-- the limits: the number of segments that was given, or where none was the engine's
abbrev pub faces_limits_of : Option ℕ → FacesLimits
faces_limits_of segments = record faces_limits { segments = limit_of segments }

-- the plan of a request, with this side of a tile
abbrev pub faces_plan_of : FacesRequest → ℕ → Plan
faces_plan_of request side = record { side = side; workers = request.workers }

-- the call that a request asks for on the texts of layers, with this side of a tile
abbrev pub RunsFacesFor : {S M : Type 0} → (S → SinkState) → S → S → FacesRequest → ℕ → List (List ℕ) → Result (FacesReport M) FacesFault → Type 0
RunsFacesFor state old new request side texts r = RunsFaces (faces_limits_of request.segments) state old new (faces_plan_of request side) texts r

abbrev pub PerformsFaces : {S M : Type 0} → (S → SinkState) → S → S → FacesRequest → List (List ℕ) → Result (FacesReport M) FacesFault → Type 0
PerformsFaces state old new request texts r = (side : ℕ) × IsChosenSideOver request.side texts side × RunsFacesFor state old new request side texts r × IsFittedOver request.side r

-- what is told of an answer: its report, where one is wanted
abbrev pub TellsFacesAnswer : {E M : Type 0} → (E → SinkState) → E → E → Bool → FacesReport M → ℕ → Type 0
TellsFacesAnswer state err err' true report status = ShowsFacesReport (state err) (state err') report status
TellsFacesAnswer state err err' false report status = (status ≡ 0) × (err' ≡ err)

abbrev pub TellsFacesRun : {E M : Type 0} → (E → SinkState) → E → E → Bool → Result (FacesReport M) FacesFault → ℕ → Type 0
TellsFacesRun state err err' wanted r status =
    MatchResult r (λ report. TellsFacesAnswer state err err' wanted report status) (λ fault. TellsFacesFault (state err) (state err') fault status)

-- the faces of these texts of layers are asked for, which is told
abbrev pub DoesFacesOn : {O E : Type 0} → (O → SinkState) → (E → SinkState) → O → O → E → E → FacesRequest → List (List ℕ) → ℕ → Type 0
DoesFacesOn out_state err_state out out' err err' request texts status =
    (r : Result (FacesReport Global) FacesFault) × PerformsFaces out_state out out' request texts r × TellsFacesRun err_state err err' request.report r status

abbrev pub layer_names : FacesRequest → List Text
layer_names request = map (λ n. n.now) request.layers.items

-- a request is done: the layers are loaded in the order of the request, and their faces are asked for; or not all are read, which is told, with no output
abbrev pub DoesFaces : {F O E : Type 0} → Loads F → (O → SinkState) → (E → SinkState) → F → F → O → O → E → E → FacesRequest → ℕ → Type 0
DoesFaces loads out_state err_state files files' out out' err err' request status =
    ((out' ≡ out) × TellsUnreadLayer loads files files' (layer_names request) (err_state err) (err_state err') status)
    ⊎ ((texts : List (List ℕ)) × AreLoadedInTurn loads files (layer_names request) texts files' × DoesFacesOn out_state err_state out out' err err' request texts status)

-- a command line of `faces` is done: what it asks for is done; or it is told why it isn't accepted, and nothing is loaded
abbrev pub DoesFacesLine : {F O E : Type 0} → (ℕ → Loads F) → (O → SinkState) → (E → SinkState) → F → F → O → O → E → E → List Text → ℕ → Type 0
DoesFacesLine loads out_state err_state files files' out out' err err' words status =
    ((request : FacesRequest) × IsFacesAskedBy words request × DoesFaces (loads (text_limit (limit_of request.segments))) out_state err_state files files' out out' err err' request status)
    ⊎ ((fault : CliFault) × IsFacesRefusalOf words fault × (files' ≡ files) × TellsLine out_state err_state out out' err err' fault status)

-- any command line is done
pub record DoesAnyLine {F O E : Type 0} (loads : ℕ → Loads F) (out_state : O → SinkState) (err_state : E → SinkState) (files files' : F) (out out' : O) (err err' : E) (words : List Text) (status : ℕ) : Type 0 where
  pub of_faces : asks_for_faces words ≡ true → DoesFacesLine loads out_state err_state files files' out out' err err' words status
  pub of_noded : asks_for_faces words ≡ false → asks_for_noded words ≡ true → DoesNodedLine loads out_state err_state files files' out out' err err' words status
  pub of_two_layers : asks_for_faces words ≡ false → asks_for_noded words ≡ false → DoesLine loads out_state err_state files files' out out' err err' words status
