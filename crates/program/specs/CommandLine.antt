-- What the words of a command line ask for, by what `clap` matches them to.
use Rattle.std.specs.Prelude.{◌≡◌, ◌≢◌, ◌⊎◌, ℕ, Bool, true, false, List, [], ◌∷◌, Option, Some, None, MatchOption, codes, pos, if◌then◌else◌}
use Rattle.std.specs.Str.{bytes_eq}
use Rattle.std.specs.Str.Parse.{IsNumeral, digits_value, without_leading_plus}
use Rattle.clap.specs.Words.{App, IsAmong, Kinds, Row, Rule, Text, fault_of, first_of, one_of, matches_of, new_app, new_rule, with_rule}
use Rattle.clap.specs.declared.builder.ArgAction.TheVariants.{Set, SetTrue}
use Rattle.clap.specs.declared.builder.value_parser.ValueParser.TheVariants.{Signed}
use Rattle.clap.specs.declared.error.kind.ErrorKind.TheVariants.{DisplayHelp}
use Rattle.geom.specs.declared.op.Op.{Op}
use Rattle.geom.specs.declared.op.Op.TheVariants.{Union, Intersection, Difference, SymDifference}
use Rattle.program.specs.declared.asked.Command.{Command}
use Rattle.program.specs.declared.asked.Command.TheVariants.{Edges, Apply}
use Rattle.program.specs.declared.asked.Request.{Request}
use Rattle.program.specs.declared.asked.CliFault.{CliFault}
use Rattle.program.specs.declared.asked.CliFault.TheVariants.{Unknown, CoveredEdges, AreasElsewhere, Help, Refused, Memory}

abbrev pub word_rule : Rule
word_rule = record (new_rule (codes "command")) { action = Some Set; required = true }

abbrev pub file_rule : Text → Rule
file_rule id = record (new_rule id) { action = Some Set; required = true; value_names = 1 }

-- a whole number from the least one on, and below 2^32, with these defaults
abbrev pub number_rule : ℕ → Text → List Text → Rule
number_rule least id defaults = record (new_rule id) {
  long = Some id;
  action = Some Set;
  value_names = 1;
  defaults = defaults;
  parser = Some (Signed (pos least) (pos 4294967295));
}

abbrev pub flag_rule : Text → Rule
flag_rule id = record (new_rule id) { long = Some id; action = Some SetTrue }

-- `overlay command a b [--tile N] [--workers N] [--segments N] [--report] [--covered] [--areas]`
unfoldable pub overlay_app : App
overlay_app = with_rule (with_rule (with_rule (with_rule (with_rule (with_rule (with_rule (with_rule (with_rule (new_app (codes "overlay"))
    word_rule) (file_rule (codes "a"))) (file_rule (codes "b"))) (number_rule 0 (codes "tile") []))
    (number_rule 0 (codes "workers") (codes "4" ∷ []))) (number_rule 1 (codes "segments") [])) (flag_rule (codes "report"))) (flag_rule (codes "covered"))) (flag_rule (codes "areas"))

-- the matches of the words, the first of which is the program's name
unfoldable pub held : List Text → List Row
held words = matches_of overlay_app words

-- the command words that are offered
abbrev pub command_of : Text → Option Command
command_of word =
    if bytes_eq word (codes "edges") then Some Edges else
    (if bytes_eq word (codes "union") then Some (Apply Union) else
    (if bytes_eq word (codes "intersection") then Some (Apply Intersection) else
    (if bytes_eq word (codes "difference") then Some (Apply Difference) else
    (if bytes_eq word (codes "symdifference") then Some (Apply SymDifference) else None))))

-- the text held for the id is this number's, in decimal digits
abbrev pub IsHeldNumber : Text → List Row → ℕ → Type 0
IsHeldNumber id rows n = (t : Text) × (one_of id rows ≡ Some t) × IsNumeral 10 (without_leading_plus t) × (n ≡ digits_value 10 (without_leading_plus t))

-- the number that is held for the id, where the words have one
abbrev pub IsGivenNumber : Text → List Row → Option ℕ → Type 0
IsGivenNumber id rows given = MatchOption given (one_of id rows ≡ None) (IsHeldNumber id rows)

-- the flag's text is `true`
abbrev pub is_set : Option Text → Bool
is_set None = false
is_set (Some t) = bytes_eq t (codes "true")

pub record IsRequestOf (rows : List Row) (r : Request) : Type 0 where
  pub word : Text
  pub has_word : first_of (codes "command") rows ≡ Some word
  pub command : command_of word ≡ Some r.command
  pub a : first_of (codes "a") rows ≡ Some r.a.now
  pub b : first_of (codes "b") rows ≡ Some r.b.now
  pub side : IsGivenNumber (codes "tile") rows r.side
  pub workers : IsHeldNumber (codes "workers") rows r.workers
  pub segments : IsGivenNumber (codes "segments") rows r.segments
  pub report : r.report ≡ is_set (one_of (codes "report") rows)
  pub covered : r.covered ≡ is_set (one_of (codes "covered") rows)
  pub goes_together : r.covered ≡ true → r.command ≢ Edges
  pub areas : r.areas ≡ is_set (one_of (codes "areas") rows)
  pub areas_of_parity : r.areas ≡ true → (r.command ≢ Edges) × (r.covered ≡ false)

-- the operation on layers that are read as covered, where that is asked for
abbrev pub operation_covered : Command → Bool → Option Op
operation_covered (Apply op) true = Some op
operation_covered (Apply op) false = None
operation_covered Edges covered = None

-- the operation whose areas are wanted, where that is asked for
abbrev pub operation_measured : Command → Bool → Option Op
operation_measured (Apply op) true = Some op
operation_measured (Apply op) false = None
operation_measured Edges areas = None

-- the kinds of fault that `clap` finds in the words
unfoldable pub faults : List Text → Kinds
faults words = fault_of overlay_app words

-- the command word is none that is offered
abbrev pub IsUnknown : List Row → Type 0
IsUnknown rows = (word : Text) × (first_of (codes "command") rows ≡ Some word) × (command_of word ≡ None)

-- the edges of layers that are read as covered are asked for
abbrev pub AreCoveredEdges : List Row → Type 0
AreCoveredEdges rows = (word : Text) × (first_of (codes "command") rows ≡ Some word) × (command_of word ≡ Some Edges) × (is_set (one_of (codes "covered") rows) ≡ true)

-- areas of edges, or of an operation on layers that are read as covered, are asked for
abbrev pub AreAreasElsewhere : List Row → Type 0
AreAreasElsewhere rows = (word : Text) × (first_of (codes "command") rows ≡ Some word) × (is_set (one_of (codes "areas") rows) ≡ true)
    × (((command_of word ≡ Some Edges) × (is_set (one_of (codes "covered") rows) ≡ false))
    ⊎ ((op : Op) × (command_of word ≡ Some (Apply op)) × (is_set (one_of (codes "covered") rows) ≡ true)))

-- why words that `clap` takes are no request: their command is unknown, or is none of an operation and `--covered` is there, or `--areas` is there and tells of nothing
abbrev pub IsRefusalIn : List Row → CliFault → Type 0
IsRefusalIn rows Unknown = IsUnknown rows
IsRefusalIn rows CoveredEdges = AreCoveredEdges rows
IsRefusalIn rows AreasElsewhere = AreAreasElsewhere rows
IsRefusalIn rows fault = ⊥

-- why there is no request: `clap` takes the words and they are none, or `clap` does not take them; memory may run out on any words
abbrev pub IsRefusalBy : Kinds → List Row → CliFault → Type 0
IsRefusalBy kinds rows Unknown = (kinds ≡ []) × IsRefusalIn rows Unknown
IsRefusalBy kinds rows CoveredEdges = (kinds ≡ []) × IsRefusalIn rows CoveredEdges
IsRefusalBy kinds rows AreasElsewhere = (kinds ≡ []) × IsRefusalIn rows AreasElsewhere
IsRefusalBy kinds rows (Help text) = IsAmong DisplayHelp kinds
IsRefusalBy kinds rows (Refused text) = kinds ≢ []
IsRefusalBy kinds rows Memory = Unit {0}

-- `clap` takes the words, and this is the request that they hold
abbrev pub IsAskedBy : List Text → Request → Type 0
IsAskedBy words request = (faults words ≡ []) × IsRequestOf (held words) request

-- why these words are no request
abbrev pub IsRefusalOf : List Text → CliFault → Type 0
IsRefusalOf words fault = IsRefusalBy (faults words) (held words) fault
