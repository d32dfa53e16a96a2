-- From what the engine and the copies say to what a call on pairs says.
use Rattle.std.proofs.Common.{◌≡◌, inl, inr, ℕ, ap, arith, subst, sym}
use Rattle.std.specs.Prelude.{MatchResult, Some, Result, Ok, Err}
use Rattle.geom.specs.declared.op.Op.{Op}
use Rattle.columns.specs.declared.layout.Columns.{Columns}
use Rattle.engine.specs.declared.columns_pairs.PairsOutput.{PairsOutput}
use Rattle.engine.specs.ColumnsPairs.{ArePairsMade}
use Rattle.overlay_c.specs.declared.columns_answer.OverlayColumnsAnswer.{OverlayColumnsAnswer}
use Rattle.overlay_c.specs.Columns.{HoldsItems, IsPutOrSmall, op_from}
use Rattle.overlay_c.specs.Pairs.{ArePairsKept, ArePairsPutOrSmall, FailsPairs, FillsPairs, IsPairsResult, PairLists, filled, none_filled, pair_lists_of, small}

-- ---- four rooms

pub put_whole : (made before after : PairLists) (answer : OverlayColumnsAnswer) → IsPutOrSmall made.lists before.lists after.lists answer → answer.status ≡ 0 → HoldsItems made.features before.features after.features → ArePairsPutOrSmall made before after answer
put_whole made before after answer (inl (h, told)) e f = inl (record { lists = h; features = f }, told)
put_whole made before after answer (inr (few, kept, told)) e f = let s : answer.status ≡ 4 = ap (λ (w : OverlayColumnsAnswer). w.status) told in absurd (omega (arith, e, s))

-- ---- the call
module _ (limit call : ℕ) (a b : Columns) where
  pub pairs_are : {M : Type 0} (op : Op) → op_from call ≡ Some op → (made : PairsOutput M) → ArePairsMade limit op a b made → IsPairsResult limit call a b (pair_lists_of made)
  pairs_are op asked made h = record {
    op = op;
    asked = asked;
    may = h.may;
    results = h.results;
    count = h.count;
    are_results = h.are_results;
    columns = record { points = h.columns.have.points; rings = h.columns.have.offsets; polygons = h.columns.offsets };
    features = h.features;
  }

  put_fills : (made before after : PairLists) (answer : OverlayColumnsAnswer) → IsPairsResult limit call a b made → ArePairsPutOrSmall made before after answer → FillsPairs limit call a b before after answer
  put_fills made before after answer is (inl (h, told)) = subst (λ (w : OverlayColumnsAnswer). FillsPairs limit call a b before after w) (sym told) (filled made is h)
  put_fills made before after answer is (inr (few, kept, told)) = subst (λ (w : OverlayColumnsAnswer). FillsPairs limit call a b before after w) (sym told) (small made is few kept)

  pub pairs_fill : {M : Type 0} (made : Result (PairsOutput M) OverlayColumnsAnswer) (before after : PairLists) (answer : OverlayColumnsAnswer)
      → MatchResult made (λ m. IsPairsResult limit call a b (pair_lists_of m)) (λ w. FailsPairs limit call a b w)
      → MatchResult made (λ m. ArePairsPutOrSmall (pair_lists_of m) before after answer) (λ told. (answer ≡ told) × ArePairsKept before after) → FillsPairs limit call a b before after answer
  pairs_fill (Ok m) before after answer is h = put_fills (pair_lists_of m) before after answer is h
  pairs_fill (Err told) before after answer is h = subst (λ (w : OverlayColumnsAnswer). FillsPairs limit call a b before after w) (sym h.0) (none_filled is h.1)
