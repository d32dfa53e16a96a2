-- What the words of a command line of `noded` ask for, by what `clap` matches them to.
use Rattle.std.specs.Prelude.{◌≡◌, ◌≢◌, Bool, true, false, List, [], ◌∷◌, Some, codes, is_some}
use Rattle.std.specs.Str.{bytes_eq}
use Rattle.clap.specs.Words.{AddsArg, AddsInTurn, App, Row, Rule, Text, IsAmong, Kinds, args_of, fault_of, first_of, first_value, groups_of, matches_of, new_app, with_rule}
use Rattle.clap.specs.declared.builder.arg.Arg.{Arg}
use Rattle.clap.specs.declared.builder.command.Command.{Command}
use Rattle.clap.specs.declared.builder.command.Command.TheViews.{out-Command}
use Rattle.clap.specs.declared.error.kind.ErrorKind.TheVariants.{DisplayHelp}
use Rattle.clap.specs.declared.parser.matches.Found.{Found}
use Rattle.clap.specs.Facts.{WantsDefault}
use Rattle.program.specs.Arguments.{HasNumber, IsNumberArg, IsWanted}
use Rattle.program.specs.CommandLine.{IsHeldNumber, file_rule, number_rule, word_rule}
use Rattle.program.specs.declared.asked.CliFault.{CliFault}
use Rattle.program.specs.declared.asked.CliFault.TheVariants.{Unknown, CoveredEdges, AreasElsewhere, Help, Refused, Memory}
use Rattle.program.specs.declared.noded_cli.NodedRequest.{NodedRequest}

-- the word behind the program's name is `noded`
abbrev pub asks_for_noded : List Text → Bool
asks_for_noded [] = false
asks_for_noded (program ∷ []) = false
asks_for_noded (program ∷ word ∷ words) = bytes_eq word (codes "noded")

-- ---- the parser

abbrev pub edges_rule : Rule
edges_rule = file_rule (codes "edges")

-- `overlay noded edges [--workers N]`
unfoldable pub noded_app : App
noded_app = with_rule (with_rule (with_rule (new_app (codes "overlay"))
    word_rule) edges_rule) (number_rule 0 (codes "workers") (codes "4" ∷ []))

-- the command, as its arguments were added
pub record IsNodedCommand (c : Command) : Type 0 where
  pub start : Command
  pub word : Arg
  pub edges : Arg
  pub workers : Arg
  pub chain : AddsInTurn AddsArg start (word ∷ edges ∷ workers ∷ []) c
  pub no_args : args_of start ≡ []
  pub no_groups : groups_of start ≡ []
  pub no_globals : (out-Command start).has_globals ≡ false
  pub no_negation : (out-Command start).subcommand_negates_reqs ≡ false
  pub is_word : IsWanted (codes "command") word
  pub is_edges : IsWanted (codes "edges") edges
  pub is_workers : IsNumberArg 0 (codes "workers") workers
  pub workers_default : WantsDefault workers

-- the file is there, and so is the number with a default
pub record HasNodedWords (f : Found) : Type 0 where
  pub edges : is_some (first_value f (codes "edges")) ≡ true
  pub workers : HasNumber f (codes "workers")

-- ---- what is asked for

-- the matches of the words, the first of which is the program's name
unfoldable pub noded_held : List Text → List Row
noded_held words = matches_of noded_app words

-- the kinds of fault that `clap` finds in the words
unfoldable pub noded_faults : List Text → Kinds
noded_faults words = fault_of noded_app words

pub record IsNodedRequestOf (rows : List Row) (r : NodedRequest) : Type 0 where
  pub edges : first_of (codes "edges") rows ≡ Some r.edges.now
  pub workers : IsHeldNumber (codes "workers") rows r.workers

-- `clap` takes the words, and this is the request that they hold
abbrev pub IsNodedAskedBy : List Text → NodedRequest → Type 0
IsNodedAskedBy words request = (noded_faults words ≡ []) × IsNodedRequestOf (noded_held words) request

-- why the words are no request: `clap` does not take them; memory may run out on any words
abbrev pub IsNodedRefusalOf : List Text → CliFault → Type 0
IsNodedRefusalOf words Unknown = ⊥
IsNodedRefusalOf words CoveredEdges = ⊥
IsNodedRefusalOf words AreasElsewhere = ⊥
IsNodedRefusalOf words (Help text) = IsAmong DisplayHelp (noded_faults words)
IsNodedRefusalOf words (Refused text) = noded_faults words ≢ []
IsNodedRefusalOf words Memory = Unit {0}
