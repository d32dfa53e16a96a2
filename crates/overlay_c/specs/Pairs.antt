-- What the calls for C answer for pairs of features (own).
use Rattle.std.specs.Prelude.{◌≡◌, ◌<◌, ◌⊎◌, ℕ, List, Some, None, length}
use Rattle.geom.specs.declared.op.Op.{Op}
use Rattle.geom.specs.Canonical.{Shape}
use Rattle.columns.specs.declared.layout.Columns.{Columns}
use Rattle.columns.specs.Answers.{offsets_from}
use Rattle.columns.specs.Layout.{feature_rings_in, joined}
use Rattle.engine.specs.declared.columns_pairs.PairsOutput.{PairsOutput}
use Rattle.engine.specs.declared.columns_pairs.PairsRefused.{PairsRefused}
use Rattle.engine.specs.declared.columns_pairs.PairsRefused.TheVariants.{Layers, Unpaired}
use Rattle.engine.specs.ColumnsPairs.{AreResultsOfPairs, DeclinesPairs, MayRunPairs}
use Rattle.overlay_c.specs.declared.columns_answer.OverlayColumnsAnswer.{OverlayColumnsAnswer}
use Rattle.overlay_c.specs.Columns.{AreKept, AreListsOf, HoldLists, HoldsItems, IsSmallFor, Lists, columns_answer, lengths_answer, lists_of, op_from, refused_answer}

-- four columns, or what four rooms have
pub record PairLists : Type 0 where
  pub lists : Lists
  pub features : List ℕ

abbrev pub pair_lists_of : {M : Type 0} → PairsOutput M → PairLists
pair_lists_of made = record { lists = lists_of made.columns; features = made.features.items }

-- the layers are within their limits and have as many features as one another, and these are the columns of the polygons of the results of
-- the operation that is asked for, on each two features with one number, and where each result begins
pub record IsPairsResult (limit call : ℕ) (a b : Columns) (made : PairLists) : Type 0 where
  pub op : Op
  pub asked : op_from call ≡ Some op
  pub may : MayRunPairs limit a b
  pub results : List (List Shape)
  pub count : length results ≡ length (feature_rings_in a)
  pub are_results : AreResultsOfPairs op a b results
  pub columns : AreListsOf (joined results) made.lists
  pub features : made.features ≡ offsets_from 0 results

-- an answer that tells of a refusal
abbrev pub pairs_answer : PairsRefused → OverlayColumnsAnswer
pairs_answer (Layers refused) = columns_answer refused
pairs_answer (Unpaired feature) = refused_answer 3 17 2 feature

-- why there are no columns
pub data FailsPairs (limit call : ℕ) (a b : Columns) : OverlayColumnsAnswer → Type 0 where
  no_call : op_from call ≡ None → FailsPairs limit call a b (refused_answer 2 0 0 0)
  declined : (op : Op) → op_from call ≡ Some op → (refused : PairsRefused) → DeclinesPairs limit a b refused → FailsPairs limit call a b (pairs_answer refused)

pub record HoldPairLists (made before after : PairLists) : Type 0 where
  pub lists : HoldLists made.lists before.lists after.lists
  pub features : HoldsItems made.features before.features after.features

-- some column is longer than its room
abbrev pub IsSmallForPairs : PairLists → PairLists → Type 0
IsSmallForPairs made rooms = (length rooms.features < length made.features) ⊎ IsSmallFor made.lists rooms.lists

-- the rooms are as before
pub record ArePairsKept (before after : PairLists) : Type 0 where
  pub lists : AreKept before.lists after.lists
  pub features : after.features ≡ before.features

-- the columns were put into the rooms, or don't fit, and the rooms are as before
abbrev pub ArePairsPutOrSmall : PairLists → PairLists → PairLists → OverlayColumnsAnswer → Type 0
ArePairsPutOrSmall made before after answer =
    (HoldPairLists made before after × (answer ≡ lengths_answer 0 made.lists)) ⊎ (IsSmallForPairs made before × ArePairsKept before after × (answer ≡ lengths_answer 4 made.lists))

-- how a call that fills rooms ends: only an answer changes them, and nothing behind its columns
pub data FillsPairs (limit call : ℕ) (a b : Columns) (before after : PairLists) : OverlayColumnsAnswer → Type 0 where
  filled : (made : PairLists) → IsPairsResult limit call a b made → HoldPairLists made before after → FillsPairs limit call a b before after (lengths_answer 0 made.lists)
  small : (made : PairLists) → IsPairsResult limit call a b made → IsSmallForPairs made before → ArePairsKept before after → FillsPairs limit call a b before after (lengths_answer 4 made.lists)
  none_filled : {answer : OverlayColumnsAnswer} → FailsPairs limit call a b answer → ArePairsKept before after → FillsPairs limit call a b before after answer
