-- What the calls for C answer (own).
use Rattle.std.specs.Prelude.{◌≡◌, ◌≤◌, ◌<◌, ◌==◌, ◌⊎◌, ℕ, List, [], ◌++◌, codes, length, drop, Option, Some, None, if◌then◌else◌}
use Rattle.geom.specs.declared.op.Op.TheVariants.{Union, Intersection, Difference, SymDifference}
use Rattle.geom.specs.declared.edge.Counted.{Counted}
use Rattle.geom.specs.declared.fault.Fault.{Fault}
use Rattle.geom.specs.declared.fault.Fault.TheVariants.{LayerLong, Syntax, NumberRange, RingShort, RingOpen, TooManySegments, BadTile, TooManyTiles, Memory}
use Rattle.geom.specs.declared.fault.Part.{Part}
use Rattle.geom.specs.declared.fault.Part.TheVariants.{A, B, Run}
use Rattle.geom.specs.declared.segment.Seg.{Seg}
use Rattle.geom.specs.Fault.{fault_words, number_of}
use Rattle.geom.specs.Rounded.{AreRounded}
use Rattle.results.specs.Results.{IsResultText}
use Rattle.layers.specs.Segments.{AreSegmentsOf}
use Rattle.engine.specs.Runs.{DeclinesWithin, alone}
use Rattle.layers.specs.Refusals.{MayRunWithin}
use Rattle.results.specs.Texts.{edges_text_of}
use Rattle.layers.specs.FaultWords.{place_words, status_of_fault}
use Rattle.overlay_c.specs.declared.answer.OverlayAnswer.{OverlayAnswer}
use Rattle.overlay_c.specs.declared.made.Task.{Task}
use Rattle.overlay_c.specs.declared.made.Task.TheVariants.{Apply, Edges}

-- what the number of a call asks for
abbrev pub task_from : ℕ → Option Task
task_from call =
    if call == 0 then Some (Apply Union) else
    (if call == 1 then Some (Apply Intersection) else
    (if call == 2 then Some (Apply Difference) else
    (if call == 3 then Some (Apply SymDifference) else
    (if call == 4 then Some Edges else None))))

-- the text that is asked for, by the rounded edges of the two layers
abbrev pub IsAsked : Task → List Counted → List ℕ → Type 0
IsAsked (Apply op) counted text = IsResultText op counted text
IsAsked Edges counted text = text ≡ edges_text_of counted

-- the layers, with at most so many segments, and the tile side are within their limits, and this is the text that is asked for
pub record IsMade (limit : ℕ) (task : Task) (side : ℕ) (a b text : List ℕ) : Type 0 where
  pub may : MayRunWithin limit (alone side) a b
  pub segments : List Seg
  pub are_segments : AreSegmentsOf a b segments
  pub counted : List Counted
  pub rounded : ∥ AreRounded segments counted ∥₁
  pub asked : IsAsked task counted text

abbrev pub IsTextOf : (limit call side : ℕ) (a b text : List ℕ) → Type 0
IsTextOf limit call side a b text = (task : Task) × (task_from call ≡ Some task) × IsMade limit task side a b text

-- the offset or the count that a fault tells
abbrev pub detail_of : Fault → ℕ
detail_of (Syntax offset) = offset
detail_of (NumberRange offset) = offset
detail_of (RingShort offset) = offset
detail_of (RingOpen offset) = offset
detail_of (TooManySegments count) = count
detail_of (TooManyTiles count) = count
detail_of _ = 0

abbrev pub part_number : Part → ℕ
part_number A = 0
part_number B = 1
part_number Run = 2

-- an answer that tells of no fault
abbrev pub plain : (status size : ℕ) → OverlayAnswer
plain status size = record { length = size; detail = 0; status = status; number = 0; part = 0 }

-- an answer that tells of a fault; its status is that of the program
abbrev pub fault_answer : Part → Fault → OverlayAnswer
fault_answer part fault = record { length = 0; detail = detail_of fault; status = status_of_fault fault; number = number_of fault; part = part_number part }

-- the room begins with the text, and is as before behind it
pub record Holds (text before after : List ℕ) : Type 0 where
  pub fits : length text ≤ length before
  pub holds : after ≡ text ++ drop (length text) before

-- the text was put into the room, or it doesn't fit, and the room is as before
abbrev pub IsPut : (text before after : List ℕ) → OverlayAnswer → Type 0
IsPut text before after answer =
    (Holds text before after × (answer ≡ plain 0 (length text))) ⊎ ((length before < length text) × (after ≡ before) × (answer ≡ plain 4 (length text)))

-- why there is no text
pub data Fails (limit call side : ℕ) (a b : List ℕ) : OverlayAnswer → Type 0 where
  no_call : task_from call ≡ None → Fails limit call side a b (plain 2 0)
  declined : (task : Task) → task_from call ≡ Some task → (part : Part) (fault : Fault) → DeclinesWithin limit (alone side) a b part fault → Fails limit call side a b (fault_answer part fault)

-- how a call for the size of a text ends, by which text is asked for and why there may be none
pub data Sizes (IsText : List ℕ → Type 0) (IsFailure : OverlayAnswer → Type 0) : OverlayAnswer → Type 0 where
  sized : (text : List ℕ) → IsText text → Sizes IsText IsFailure (plain 0 (length text))
  none : {answer : OverlayAnswer} → IsFailure answer → Sizes IsText IsFailure answer

-- how a call that fills a room ends: only an answer changes the room, and nothing behind its text
pub data Fills (IsText : List ℕ → Type 0) (IsFailure : OverlayAnswer → Type 0) (before after : List ℕ) : OverlayAnswer → Type 0 where
  filled : (text : List ℕ) → IsText text → Holds text before after → Fills IsText IsFailure before after (plain 0 (length text))
  small : (text : List ℕ) → IsText text → length before < length text → after ≡ before → Fills IsText IsFailure before after (plain 4 (length text))
  none_filled : {answer : OverlayAnswer} → IsFailure answer → after ≡ before → Fills IsText IsFailure before after answer

-- ---- words

abbrev pub fault_from : (number detail : ℕ) → Option Fault
fault_from number detail =
    if number == 0 then Some LayerLong else
    (if number == 1 then Some (Syntax detail) else
    (if number == 2 then Some (NumberRange detail) else
    (if number == 3 then Some (RingShort detail) else
    (if number == 4 then Some (RingOpen detail) else
    (if number == 5 then Some (TooManySegments detail) else
    (if number == 6 then Some BadTile else
    (if number == 8 then Some (TooManyTiles detail) else
    (if number == 10 then Some Memory else None))))))))

abbrev pub part_from : ℕ → Part
part_from part = if part == 0 then A else (if part == 1 then B else Run)

abbrev pub told_words : Part → Option Fault → List ℕ
told_words part None = []
told_words part (Some fault) = place_words part ++ fault_words fault

-- the words of an answer without a text: for a fault those that the program prints behind its name
abbrev pub words_of : OverlayAnswer → List ℕ
words_of answer =
    if answer.status == 2 then codes "no such call" else
    (if answer.status == 4 then codes "the room is too small" else
    (if answer.status == 0 then [] else told_words (part_from answer.part) (fault_from answer.number answer.detail)))
