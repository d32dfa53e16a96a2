-- What the words of a command line of `faces` ask for, by what `clap` matches them to.
use Rattle.std.specs.Prelude.{◌≡◌, ◌≢◌, ◌⊎◌, ◌<◌, ◌≤◌, Bool, true, false, List, [], ◌∷◌, Some, codes, is_some, length, map}
use Rattle.std.specs.Str.{bytes_eq}
use Rattle.clap.specs.Words.{AddsArg, AddsInTurn, App, Row, Rule, Text, IsAmong, Kinds, all_of, args_of, fault_of, groups_of, matches_of, new_app, new_rule, one_of, with_rule}
use Rattle.clap.specs.declared.builder.ArgAction.TheVariants.{Append}
use Rattle.clap.specs.declared.builder.arg.Arg.{Arg}
use Rattle.clap.specs.declared.builder.command.Command.{Command}
use Rattle.clap.specs.declared.builder.command.Command.TheViews.{out-Command}
use Rattle.clap.specs.declared.error.kind.ErrorKind.TheVariants.{DisplayHelp}
use Rattle.clap.specs.declared.parser.matches.Found.{Found}
use Rattle.clap.specs.Facts.{WantsDefault}
use Rattle.clap.specs.Matches.{matched_of}
use Rattle.program.specs.Arguments.{HasNumber, IsFlagArg, IsNumberArg, IsRequired, IsWanted, MayHaveNumber}
use Rattle.program.specs.CommandLine.{IsGivenNumber, IsHeldNumber, flag_rule, is_set, number_rule, word_rule}
use Rattle.program.specs.declared.asked.CliFault.{CliFault}
use Rattle.program.specs.declared.asked.CliFault.TheVariants.{Unknown, CoveredEdges, AreasElsewhere, Help, Refused, Memory}
use Rattle.program.specs.declared.asked.FacesRequest.{FacesRequest}

-- the word behind the program's name is `faces`
abbrev pub asks_for_faces : List Text → Bool
asks_for_faces [] = false
asks_for_faces (program ∷ []) = false
asks_for_faces (program ∷ word ∷ words) = bytes_eq word (codes "faces")

-- ---- the parser

-- one to 64 names of files
abbrev pub layers_rule : Rule
layers_rule = record (new_rule (codes "layers")) { action = Some Append; range = Some (record { start_inclusive = 1; end_inclusive = 64 }); value_names = 1; required = true }

-- `overlay faces a [b ..] [--tile N] [--workers N] [--segments N] [--report]`
unfoldable pub faces_app : App
faces_app = with_rule (with_rule (with_rule (with_rule (with_rule (with_rule (new_app (codes "overlay"))
    word_rule) layers_rule) (number_rule 0 (codes "tile") []))
    (number_rule 0 (codes "workers") (codes "4" ∷ []))) (number_rule 1 (codes "segments") [])) (flag_rule (codes "report"))

-- the command, as its arguments were added
pub record IsFacesCommand (c : Command) : Type 0 where
  pub start : Command
  pub word : Arg
  pub layers : Arg
  pub tile : Arg
  pub workers : Arg
  pub segments : Arg
  pub report : Arg
  pub chain : AddsInTurn AddsArg start (word ∷ layers ∷ tile ∷ workers ∷ segments ∷ report ∷ []) c
  pub no_args : args_of start ≡ []
  pub no_groups : groups_of start ≡ []
  pub no_globals : (out-Command start).has_globals ≡ false
  pub no_negation : (out-Command start).subcommand_negates_reqs ≡ false
  pub is_word : IsWanted (codes "command") word
  pub are_layers : IsRequired (codes "layers") layers
  pub is_tile : IsNumberArg 0 (codes "tile") tile
  pub is_workers : IsNumberArg 0 (codes "workers") workers
  pub workers_default : WantsDefault workers
  pub is_segments : IsNumberArg 1 (codes "segments") segments
  pub is_report : IsFlagArg (codes "report") report

-- the layers are there, and so is the number with a default; the others may be
pub record HasFacesWords (f : Found) : Type 0 where
  pub layers : is_some (matched_of f (codes "layers")) ≡ true
  pub tile : MayHaveNumber f (codes "tile")
  pub workers : HasNumber f (codes "workers")
  pub segments : MayHaveNumber f (codes "segments")

-- ---- what is asked for

-- the matches of the words, the first of which is the program's name
unfoldable pub faces_held : List Text → List Row
faces_held words = matches_of faces_app words

-- the kinds of fault that `clap` finds in the words
unfoldable pub faces_faults : List Text → Kinds
faces_faults words = fault_of faces_app words

pub record IsFacesRequestOf (rows : List Row) (r : FacesRequest) : Type 0 where
  pub layers : all_of (codes "layers") rows ≡ Some (map (λ n. n.now) r.layers.items)
  pub few : length r.layers.items ≤ 64
  pub side : IsGivenNumber (codes "tile") rows r.side
  pub workers : IsHeldNumber (codes "workers") rows r.workers
  pub segments : IsGivenNumber (codes "segments") rows r.segments
  pub report : r.report ≡ is_set (one_of (codes "report") rows)

-- more layers than there may be; or memory ran out
abbrev pub IsManyLayers : List Row → CliFault → Type 0
IsManyLayers rows (Refused text) = (layers : List Text) × (all_of (codes "layers") rows ≡ Some layers) × (64 < length layers)
IsManyLayers rows Memory = Unit {0}
IsManyLayers rows fault = ⊥

-- `clap` takes the words, and this is the request that they hold
abbrev pub IsFacesAskedBy : List Text → FacesRequest → Type 0
IsFacesAskedBy words request = (faces_faults words ≡ []) × IsFacesRequestOf (faces_held words) request

-- why the words are no request: `clap` does not take them, or they name too many layers; memory may run out on any words
abbrev pub IsFacesRefusalOf : List Text → CliFault → Type 0
IsFacesRefusalOf words Unknown = ⊥
IsFacesRefusalOf words CoveredEdges = ⊥
IsFacesRefusalOf words AreasElsewhere = ⊥
IsFacesRefusalOf words (Help text) = IsAmong DisplayHelp (faces_faults words)
IsFacesRefusalOf words (Refused text) = (faces_faults words ≢ []) ⊎ ((faces_faults words ≡ []) × IsManyLayers (faces_held words) (Refused text))
IsFacesRefusalOf words Memory = Unit {0}
