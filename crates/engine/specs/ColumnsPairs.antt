-- What a call for an operation on pairs of features of two layers promises: a result for each pair, and what it is refused for (own).
use Rattle.std.specs.Prelude.{◌≡◌, ◌≤◌, ◌<◌, ◌+◌, ℕ, List, [], get_or, length, min}
use Rattle.geom.specs.declared.edge.Counted.{Counted}
use Rattle.geom.specs.declared.fault.Fault.TheVariants.{TooManySegments, Memory}
use Rattle.geom.specs.declared.op.Op.{Op}
use Rattle.geom.specs.declared.point.Pt.{Pt}
use Rattle.geom.specs.declared.segment.Seg.{Seg}
use Rattle.geom.specs.Canonical.{Shape}
use Rattle.geom.specs.Rounded.{AreRounded}
use Rattle.geom.specs.Segments.{AreSegments}
use Rattle.columns.specs.declared.fault.ColumnsFault.{ColumnsFault}
use Rattle.columns.specs.declared.layout.Columns.{Columns}
use Rattle.columns.specs.Answers.{AreColumnsOf, offsets_from}
use Rattle.columns.specs.Layout.{feature_rings_in, joined, plain}
use Rattle.columns.specs.Refusals.{AreAccepted, AreRefused}
use Rattle.layers.specs.declared.columns_refused.ColumnsRefused.TheVariants.{A, B, Run}
use Rattle.engine.specs.declared.columns_pairs.PairResults.{PairResults}
use Rattle.engine.specs.declared.columns_pairs.PairsOutput.{PairsOutput}
use Rattle.engine.specs.declared.columns_pairs.PairsRefused.{PairsRefused}
use Rattle.engine.specs.declared.columns_pairs.PairsRefused.TheVariants.{Layers, Unpaired}
use Rattle.layers.specs.ColumnsRefusals.{AreBothAccepted, rings_of}
use Rattle.results.specs.Results.{IsResult}
use Rattle.layers.specs.Grids.{steps_count}

-- the polygons of the result over the rounded edges of two layers with these rings
pub record IsResultOfRings (op : Op) (rings_a rings_b : List (List Pt)) (polygons : List Shape) : Type 0 where
  pub segments : List Seg
  pub are_segments : AreSegments rings_a rings_b segments
  pub counted : List Counted
  pub rounded : ∥ AreRounded segments counted ∥₁
  pub result : IsResult op counted polygons

-- each list has the polygons of the result on the features of its number, as if there were no other features
abbrev pub AreResultsOfPairs : Op → Columns → Columns → List (List Shape) → Type 0
AreResultsOfPairs op a b results = (i : ℕ) → i < length results
    → IsResultOfRings op (plain (get_or (feature_rings_in a) i [])) (plain (get_or (feature_rings_in b) i [])) (get_or results i [])

-- the layers are accepted, have as many features as one another, and together at most so many segments
pub record MayRunPairs (limit : ℕ) (a b : Columns) : Type 0 where
  pub accepted : AreBothAccepted a b
  pub paired : length (feature_rings_in a) ≡ length (feature_rings_in b)
  pub few : steps_count (rings_of a) + steps_count (rings_of b) ≤ limit

-- an answer: a result for each pair, all their polygons as columns, and where each result begins among these
pub record ArePairsMade {M : Type 0} (limit : ℕ) (op : Op) (a b : Columns) (made : PairsOutput M) : Type 0 where
  pub may : MayRunPairs limit a b
  pub results : List (List Shape)
  pub count : length results ≡ length (feature_rings_in a)
  pub are_results : AreResultsOfPairs op a b results
  pub columns : AreColumnsOf (joined results) made.columns
  pub features : made.features.items ≡ offsets_from 0 results

-- what is refused before anything is made: the first of these that is at fault
pub data ArePairsRefused (limit : ℕ) (a b : Columns) : PairsRefused → Type 0 where
  bad_a : {f : ColumnsFault} → AreRefused a f → ArePairsRefused limit a b (Layers (A f))
  bad_b : {f : ColumnsFault} → AreAccepted a → AreRefused b f → ArePairsRefused limit a b (Layers (B f))
  unpaired : AreBothAccepted a b → ¬ (length (feature_rings_in a) ≡ length (feature_rings_in b))
      → ArePairsRefused limit a b (Unpaired (min (length (feature_rings_in a)) (length (feature_rings_in b))))
  too_many : AreBothAccepted a b → length (feature_rings_in a) ≡ length (feature_rings_in b) → limit < steps_count (rings_of a) + steps_count (rings_of b)
      → ArePairsRefused limit a b (Layers (Run (TooManySegments (steps_count (rings_of a) + steps_count (rings_of b)))))

-- a refusal
abbrev pub DeclinesPairs : ℕ → Columns → Columns → PairsRefused → Type 0
DeclinesPairs limit a b (Layers (Run Memory)) = MayRunPairs limit a b
DeclinesPairs limit a b refused = ArePairsRefused limit a b refused

-- two layers are refused for one reason
abbrev pub PairsRefusalIsOne : Type 0
PairsRefusalIsOne = (limit : ℕ) (a b : Columns) (f g : PairsRefused) → ArePairsRefused limit a b f → ArePairsRefused limit a b g → f ≡ g

-- and then they are not answered
abbrev pub RefusedPairsMayNotRun : Type 0
RefusedPairsMayNotRun = (limit : ℕ) (a b : Columns) (f : PairsRefused) → ArePairsRefused limit a b f → MayRunPairs limit a b → ⊥

-- the polygons of these results one after another, with an offset behind each result
pub record HaveResults {M : Type 0} (results : List (List Shape)) (r : PairResults M) : Type 0 where
  pub polygons : r.polygons.items ≡ joined results
  pub features : r.features.items ≡ offsets_from 0 results
