-- What the program writes about a text of edges, and what it answers then (own).
use Rattle.std.specs.Prelude.{◌≡◌, ◌⊎◌, ℕ, List, [], ◌∷◌, ◌++◌, Result, Ok, Err, codes}
use Rattle.clap.specs.Words.{Text}
use Rattle.results.specs.Sinks.{SinkState}
use Rattle.edge_test.specs.Tested.{IsTextTested}
use Rattle.edge_test.specs.Words.{status_of, text_fault_words}
use Rattle.edge_test.specs.declared.fault.TextFault.{TextFault}
use Rattle.edge_test.specs.declared.text.TheConstants.{LONGEST_TEXT}
use Rattle.program.specs.Loading.{Loads}
use Rattle.program.specs.NodedLine.{IsNodedAskedBy, IsNodedRefusalOf}
use Rattle.program.specs.Program.{EndsUnread, IsSent, Shows, TellsLine, TellsMemory}
use Rattle.program.specs.declared.asked.CliFault.{CliFault}
use Rattle.program.specs.declared.noded_cli.NodedRequest.{NodedRequest}

-- the line of a text that passes
abbrev pub noded_line : List ℕ
noded_line = codes "noded" ++ 10 ∷ []

-- the line of a file of edges that can't be read
abbrev pub unread_edges : List ℕ
unread_edges = codes "overlay: EDGES: cannot read" ++ 10 ∷ []

-- the line of why a text doesn't pass, with its LF
abbrev pub line_of_text : TextFault → List ℕ
line_of_text fault = codes "overlay: " ++ (text_fault_words fault ++ 10 ∷ [])

-- the line of why a text doesn't pass is told, with its status; or memory is wanted for the line
abbrev pub TellsTextFault : SinkState → SinkState → TextFault → ℕ → Type 0
TellsTextFault old new fault status = ((status ≡ status_of fault) × IsSent old new (line_of_text fault)) ⊎ TellsMemory old new status

-- a text that passes is shown so, and nothing else is said; of any other it is told why, and nothing is shown
abbrev pub TellsTested : {O E : Type 0} → (O → SinkState) → (E → SinkState) → O → O → E → E → Result (Unit {0}) TextFault → ℕ → Type 0
TellsTested out_state err_state out out' err err' (Ok _) status = (err' ≡ err) × Shows (out_state out) (out_state out') noded_line status
TellsTested out_state err_state out out' err err' (Err fault) status = (out' ≡ out) × TellsTextFault (err_state err) (err_state err') fault status

-- a request is done: its file is loaded, and its text tested, which is told; or the file can't be loaded
abbrev pub DoesNoded : {F O E : Type 0} → Loads F → (O → SinkState) → (E → SinkState) → F → F → O → O → E → E → NodedRequest → ℕ → Type 0
DoesNoded loads out_state err_state files files' out out' err err' request status = EndsUnread loads err_state files files' out out' err err' request.edges.now unread_edges status
    ⊎ ((text : List ℕ) × (r : Result (Unit {0}) TextFault) × loads files request.edges.now (Ok text) files' × IsTextTested request.workers text r × TellsTested out_state err_state out out' err err' r status)

-- a command line of `noded` is done: what it asks for is done; or it is told why it isn't accepted, and nothing is loaded
abbrev pub DoesNodedLine : {F O E : Type 0} → (ℕ → Loads F) → (O → SinkState) → (E → SinkState) → F → F → O → O → E → E → List Text → ℕ → Type 0
DoesNodedLine loads out_state err_state files files' out out' err err' words status =
    ((request : NodedRequest) × IsNodedAskedBy words request × DoesNoded (loads LONGEST_TEXT) out_state err_state files files' out out' err err' request status)
    ⊎ ((fault : CliFault) × IsNodedRefusalOf words fault × (files' ≡ files) × TellsLine out_state err_state out out' err err' fault status)
