-- What the program does with the words of a process (own).
use Rattle.std.specs.Prelude.{◌≡◌, ◌⊎◌, ℕ, List, [], ◌∷◌, ◌++◌, Option, IfSome, codes}
use Rattle.clap.specs.Words.{Text}
use Rattle.results.specs.Sinks.{SinkState}
use Rattle.program.specs.FacesProgram.{DoesAnyLine}
use Rattle.program.specs.Loading.{Loads}
use Rattle.program.specs.Program.{IsSent, TellsMemory}

-- the line where a word is no text
abbrev pub no_text_line : List ℕ
no_text_line = codes "overlay: a word is not UTF-8" ++ 10 ∷ []

-- there are no words, which is told: one is no text, or memory is wanted for them
abbrev pub TellsNoWords : SinkState → SinkState → ℕ → Type 0
TellsNoWords old new status = ((status ≡ 2) × IsSent old new no_text_line) ⊎ TellsMemory old new status

-- the command line of these words is done, which are those that are told where they are told; or there are none, and nothing is loaded or put out
abbrev pub DoesProcess : {F O E : Type 0} → Option (List Text) → (ℕ → Loads F) → (O → SinkState) → (E → SinkState) → F → F → O → O → E → E → ℕ → Type 0
DoesProcess told loads out_state err_state files files' out out' err err' status =
    ((words : List Text) × IfSome told (λ all. words ≡ all) × DoesAnyLine loads out_state err_state files files' out out' err err' words status)
    ⊎ ((files' ≡ files) × (out' ≡ out) × TellsNoWords (err_state err) (err_state err') status)
