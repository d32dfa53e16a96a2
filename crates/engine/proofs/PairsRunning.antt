-- How a call on pairs ends, from what was checked and made, one result after another.
use Rattle.std.proofs.Common.{◌≡◌, ◌∙◌, ◌⊎◌, inl, inr, ℕ, ◌+◌, ◌<◌, ◌≤◌, ◌++◌, ◌∷◌, [], List, length, get_or, ap, ap₂, refl, subst, sym, arith}
use Rattle.std.specs.Prelude.{Result, Ok, Err, IfOk, MatchResult}
use Rattle.std.proofs.lemmas.Bool.{cases_lt}
use Rattle.std.proofs.lemmas.List.{get_or_append_left, get_or_push, length-append, length_push}
use Rattle.geom.specs.declared.fault.Fault.{Fault}
use Rattle.geom.specs.declared.fault.Fault.TheVariants.{LayerLong, Syntax, NumberRange, RingShort, RingOpen, TooManySegments, BadTile, BadWorkers, TooManyTiles, NotNoded, Memory, Write}
use Rattle.geom.specs.declared.fault.NoMemory.{NoMemory}
use Rattle.geom.specs.declared.op.Op.{Op}
use Rattle.geom.specs.Canonical.{Shape}
use Rattle.wkt.specs.declared.outline.Outline.{Outline}
use Rattle.wkt.specs.Outlines.{IsOutline}
use Rattle.columns.specs.declared.layout.Columns.{Columns}
use Rattle.columns.specs.Layout.{feature_rings_in, joined, plain}
use Rattle.columns.proofs.Written.{joined_more, one_list}
use Rattle.layers.specs.declared.columns_refused.ColumnsRefused.TheVariants.{A, B, Run}
use Rattle.engine.specs.declared.columns_pairs.PairResults.{PairResults}
use Rattle.engine.specs.declared.columns_pairs.PairsOutput.{PairsOutput}
use Rattle.engine.specs.declared.columns_pairs.PairsRefused.{PairsRefused}
use Rattle.engine.specs.declared.columns_pairs.PairsRefused.TheVariants.{Layers, Unpaired}
use Rattle.engine.specs.ColumnsPairs.{ArePairsMade, ArePairsRefused, AreResultsOfPairs, DeclinesPairs, HaveResults, IsResultOfRings, MayRunPairs, bad_a, bad_b, too_many, unpaired}
use Rattle.layers.specs.ColumnsRefusals.{AreBothAccepted, rings_of}
use Rattle.layers.specs.Grids.{steps_count}

-- ---- what is refused
module _ (limit : ℕ) (a b : Columns) (m n : Outline) (accepted : AreBothAccepted a b) (paired : length (feature_rings_in a) ≡ length (feature_rings_in b)) (o : IsOutline (rings_of a) m) (q : IsOutline (rings_of b) n) where
  same : m.segments + n.segments ≡ steps_count (rings_of a) + steps_count (rings_of b)
  same = ap₂ (λ (i j : ℕ). i + j) o.count q.count

  pub many_pairs : (fault : Fault) → fault ≡ TooManySegments (m.segments + n.segments) → limit < m.segments + n.segments → ArePairsRefused limit a b (Layers (Run fault))
  many_pairs fault is many =
      subst (λ (f : Fault). ArePairsRefused limit a b (Layers (Run f))) (sym (is ∙ ap (λ (k : ℕ). TooManySegments k) same)) (too_many accepted paired (subst (λ (k : ℕ). limit < k) same many))

  pub may_run : m.segments + n.segments ≤ limit → MayRunPairs limit a b
  may_run few = record { accepted = accepted; paired = paired; few = subst (λ (k : ℕ). k ≤ limit) same few }

-- ---- one result more
pub result_behind : {M N : Type 0} (results : List (List Shape)) (polygons : List Shape) (old : PairResults M) (new : PairResults N) (past : ℕ) → HaveResults results old
    → new.polygons.items ≡ old.polygons.items ++ polygons → new.features.items ≡ old.features.items ++ past ∷ [] → past ≡ length (old.polygons.items ++ polygons) → HaveResults (results ++ polygons ∷ []) new
result_behind results polygons old new past h added offset at =
    let all : old.polygons.items ++ polygons ≡ joined (results ++ polygons ∷ []) = ap (λ t. t ++ polygons) h.polygons ∙ sym (joined_more results polygons) in
    let long = ap length (joined_more results polygons) ∙ length-append (joined results) polygons in
    let whole = at ∙ ap length all in
    record {
      polygons = added ∙ all;
      features = offset ∙ ap (λ t. t ++ past ∷ []) h.features ∙ sym (one_list 0 past results polygons (omega (arith, whole, long)));
    }

-- the results of so many pairs
pub record AreMadeTo {M : Type 0} (op : Op) (a b : Columns) (count : ℕ) (r : PairResults M) : Type 0 where
  pub results : List (List Shape)
  pub have : HaveResults results r
  pub count_is : length results ≡ count
  pub are_results : AreResultsOfPairs op a b results

abbrev result_at : Op → Columns → Columns → ℕ → List Shape → Type 0
result_at op a b i polygons = IsResultOfRings op (plain (get_or (feature_rings_in a) i [])) (plain (get_or (feature_rings_in b) i [])) polygons

pub one_made : {M N : Type 0} (op : Op) (a b : Columns) (count : ℕ) (polygons : List Shape) (old : PairResults M) (new : PairResults N) → result_at op a b count polygons
    → ((results : List (List Shape)) → HaveResults results old → HaveResults (results ++ polygons ∷ []) new) → AreMadeTo op a b count old → AreMadeTo op a b (count + 1) new
one_made op a b count polygons old new result behind h = record {
  results = h.results ++ polygons ∷ [];
  have = behind h.results h.have;
  count_is = let e = length_push h.results polygons in omega (arith, e, h.count_is);
  are_results = λ i low. each i low (cases_lt i (length h.results));
}
  where
    each : (i : ℕ) → i < length (h.results ++ polygons ∷ []) → (i < length h.results) ⊎ (length h.results ≤ i) → result_at op a b i (get_or (h.results ++ polygons ∷ []) i [])
    each i low (inl l) = subst (λ (ps : List Shape). result_at op a b i ps) (sym (get_or_append_left h.results (polygons ∷ []) [] i l)) (h.are_results i l)
    each i low (inr l) =
        let e = length_push h.results polygons in
        let at : i ≡ count = omega (arith, e, low, l, h.count_is) in
        let here : get_or (h.results ++ polygons ∷ []) i [] ≡ polygons = get_or_push h.results polygons [] i (omega (arith, at, h.count_is)) in
        subst (λ (ps : List Shape). result_at op a b i ps) (sym here) (subst (λ (k : ℕ). result_at op a b k polygons) (sym at) result)

-- ---- how the call ends
never_memory : (limit : ℕ) (a b : Columns) (f : PairsRefused) → ArePairsRefused limit a b f → f ≡ Layers (Run Memory) → ⊥
never_memory limit a b f (bad_a r) e = cc
never_memory limit a b f (bad_b h r) e = cc
never_memory limit a b f (unpaired h n) e = cc
never_memory limit a b f (too_many h p k) e = cc

pub refused_pairs : (limit : ℕ) (a b : Columns) (f : PairsRefused) → ArePairsRefused limit a b f → DeclinesPairs limit a b f
refused_pairs limit a b (Unpaired n) r = r
refused_pairs limit a b (Layers (A f)) r = r
refused_pairs limit a b (Layers (B f)) r = r
refused_pairs limit a b (Layers (Run Memory)) r = absurd (never_memory limit a b (Layers (Run Memory)) r refl)
refused_pairs limit a b (Layers (Run LayerLong)) r = r
refused_pairs limit a b (Layers (Run (Syntax o))) r = r
refused_pairs limit a b (Layers (Run (NumberRange o))) r = r
refused_pairs limit a b (Layers (Run (RingShort o))) r = r
refused_pairs limit a b (Layers (Run (RingOpen o))) r = r
refused_pairs limit a b (Layers (Run (TooManySegments n))) r = r
refused_pairs limit a b (Layers (Run BadTile)) r = r
refused_pairs limit a b (Layers (Run BadWorkers)) r = r
refused_pairs limit a b (Layers (Run (TooManyTiles n))) r = r
refused_pairs limit a b (Layers (Run (NotNoded e f))) r = r
refused_pairs limit a b (Layers (Run Write)) r = r

pub pairs_end : {M : Type 0} (limit : ℕ) (op : Op) (a b : Columns) (r : Result (PairsOutput M) NoMemory) (answer : Result (PairsOutput M) PairsRefused) → MayRunPairs limit a b
    → IfOk r (ArePairsMade limit op a b) → MatchResult answer (λ m. r ≡ Ok m) (λ f. f ≡ Layers (Run Memory)) → MatchResult answer (ArePairsMade limit op a b) (DeclinesPairs limit a b)
pairs_end {M} limit op a b r (Ok made) may h is = subst (λ (t : Result (PairsOutput M) NoMemory). IfOk t (ArePairsMade limit op a b)) is h
pairs_end {M} limit op a b r (Err f) may h is = subst (λ (t : PairsRefused). DeclinesPairs limit a b t) (sym is) may
