-- From what the engine and the copies say to what a call on columns says.
use Rattle.std.proofs.Common.{◌≡◌, inl, inr, ℕ, subst, sym}
use Rattle.std.specs.Prelude.{MatchResult, Some, Result, Ok, Err}
use Rattle.geom.specs.declared.op.Op.{Op}
use Rattle.columns.specs.declared.answer.OwnedColumns.{OwnedColumns}
use Rattle.columns.specs.declared.layout.Columns.{Columns}
use Rattle.engine.specs.declared.columns_output.ColumnsOutput.{ColumnsOutput}
use Rattle.engine.specs.ColumnsRuns.{AreColumnsMade}
use Rattle.engine.specs.Runs.{alone}
use Rattle.overlay_c.specs.declared.columns_answer.OverlayColumnsAnswer.{OverlayColumnsAnswer}
use Rattle.overlay_c.specs.Columns.{AreKept, FillsRooms, IsColumnsResult, IsPutOrSmall, Lists, filled, lists_of, none_filled, op_from, small}

module _ (limit call side : ℕ) (a b : Columns) where
  pub columns_result : {M : Type 0} (op : Op) → op_from call ≡ Some op → (made : ColumnsOutput M) → AreColumnsMade limit op (alone side) a b made → IsColumnsResult limit call side a b (lists_of made.columns)
  columns_result op asked made h = record {
    op = op;
    asked = asked;
    may = (h.reports.grid, record { accepted = h.accepted; ready = h.reports.ready });
    segments = h.reports.rounded.segments;
    are_segments = h.reports.rounded.are_segments;
    counted = h.counted;
    rounded = h.reports.rounded.rounded;
    shapes = h.polygons;
    result = h.result;
    columns = record { points = h.columns.have.points; rings = h.columns.have.offsets; polygons = h.columns.offsets };
  }

module _ (AreColumns : Lists → Type 0) (IsFailure : OverlayColumnsAnswer → Type 0) where
  put_fills : (c before after : Lists) (answer : OverlayColumnsAnswer) → AreColumns c → IsPutOrSmall c before after answer → FillsRooms AreColumns IsFailure before after answer
  put_fills c before after answer is (inl (h, told)) = subst (λ (w : OverlayColumnsAnswer). FillsRooms AreColumns IsFailure before after w) (sym told) (filled c is h)
  put_fills c before after answer is (inr (few, kept, told)) = subst (λ (w : OverlayColumnsAnswer). FillsRooms AreColumns IsFailure before after w) (sym told) (small c is few kept)

  pub fills : {M : Type 0} (made : Result (OwnedColumns M) OverlayColumnsAnswer) (before after : Lists) (answer : OverlayColumnsAnswer)
      → MatchResult made (λ c. AreColumns (lists_of c)) IsFailure
      → MatchResult made (λ c. IsPutOrSmall (lists_of c) before after answer) (λ told. (answer ≡ told) × AreKept before after) → FillsRooms AreColumns IsFailure before after answer
  fills (Ok c) before after answer is h = put_fills (lists_of c) before after answer is h
  fills (Err told) before after answer is h = subst (λ (w : OverlayColumnsAnswer). FillsRooms AreColumns IsFailure before after w) (sym h.0) (none_filled is h.1)
