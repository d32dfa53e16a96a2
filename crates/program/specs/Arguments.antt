-- The parser's arguments, as far as they show that what is required is there.
use Rattle.std.specs.Prelude.{◌≡◌, ◌≤◌, ◌⊎◌, ℕ, true, false, is_some, [], ◌∷◌, Some, None, codes, pos}
use Rattle.clap.specs.Words.{AddsArg, AddsInTurn, IsPlainArg, IsSignedIn, Text, args_of, groups_of, first_value, one_text, without_minus}
use Rattle.clap.specs.Built.{TakesValue}
use Rattle.clap.specs.Facts.{WantsDefault, least_values}
use Rattle.clap.specs.declared.builder.ArgAction.TheVariants.{Set}
use Rattle.clap.specs.declared.builder.value_parser.ValueParser.TheVariants.{Signed}
use Rattle.clap.specs.declared.builder.arg.Arg.{Arg}
use Rattle.clap.specs.declared.builder.command.Command.{Command}
use Rattle.clap.specs.declared.builder.command.Command.TheViews.{out-Command}
use Rattle.clap.specs.declared.parser.matches.Found.{Found}

-- an argument of the command, one that excludes nothing
pub record IsOwnArg (id : Text) (a : Arg) : Type 0 where
  pub id_is : a.id.now ≡ id
  pub plain : IsPlainArg a
  pub local : a.global ≡ false

-- one that is required and takes a value
pub record IsWanted (id : Text) (a : Arg) : Type 0 where
  pub own : IsOwnArg id a
  pub takes_value : TakesValue a

-- one that is required
pub record IsRequired (id : Text) (a : Arg) : Type 0 where
  pub own : IsOwnArg id a
  pub required : a.required ≡ true

-- one that takes a number from the least one on, and below 2^32
pub record IsNumberArg (least : ℕ) (id : Text) (a : Arg) : Type 0 where
  pub own : IsOwnArg id a
  pub set : a.action ≡ Some Set
  pub no_delimiter : a.val_delim ≡ None
  pub one_value : 1 ≤ least_values a
  pub parser : a.value_parser ≡ Some (Signed (pos least) (pos 4294967295))

abbrev pub IsFlagArg : Text → Arg → Type 0
IsFlagArg id a = IsOwnArg id a

-- the command, as its arguments were added
pub record IsOverlayCommand (c : Command) : Type 0 where
  pub start : Command
  pub word : Arg
  pub a : Arg
  pub b : Arg
  pub tile : Arg
  pub workers : Arg
  pub segments : Arg
  pub report : Arg
  pub covered : Arg
  pub areas : Arg
  pub chain : AddsInTurn AddsArg start (word ∷ a ∷ b ∷ tile ∷ workers ∷ segments ∷ report ∷ covered ∷ areas ∷ []) c
  pub no_args : args_of start ≡ []
  pub no_groups : groups_of start ≡ []
  pub no_globals : (out-Command start).has_globals ≡ false
  pub no_negation : (out-Command start).subcommand_negates_reqs ≡ false
  pub is_word : IsWanted (codes "command") word
  pub is_a : IsWanted (codes "a") a
  pub is_b : IsWanted (codes "b") b
  pub is_tile : IsNumberArg 0 (codes "tile") tile
  pub is_workers : IsNumberArg 0 (codes "workers") workers
  pub workers_default : WantsDefault workers
  pub is_segments : IsNumberArg 1 (codes "segments") segments
  pub is_report : IsFlagArg (codes "report") report
  pub is_covered : IsFlagArg (codes "covered") covered
  pub is_areas : IsFlagArg (codes "areas") areas

-- the text of the id, of which a first hyphen is left out, is a number below 2^32
abbrev pub HasNumber : Found → Text → Type 0
HasNumber f id = (least : ℕ) × (t : Text) × (one_text f id ≡ Some (without_minus t)) × IsSignedIn (pos least) (pos 4294967295) t

-- the same, where the id has a text
abbrev pub MayHaveNumber : Found → Text → Type 0
MayHaveNumber f id = (one_text f id ≡ None) ⊎ HasNumber f id

-- the required words are there, and so is the number with a default; the others may be
pub record HasWords (f : Found) : Type 0 where
  pub word : is_some (first_value f (codes "command")) ≡ true
  pub a : is_some (first_value f (codes "a")) ≡ true
  pub b : is_some (first_value f (codes "b")) ≡ true
  pub tile : MayHaveNumber f (codes "tile")
  pub workers : HasNumber f (codes "workers")
  pub segments : MayHaveNumber f (codes "segments")
