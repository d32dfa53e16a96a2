-- From what the engine and the copies say of the faces of columns to what a call for C says.
use Rattle.std.proofs.Common.{◌≡◌, inl, inr, ℕ, ◌≤◌, List, subst, sym}
use Rattle.std.proofs.Math.Logic.{∥∥₁_map}
use Rattle.std.specs.Prelude.{MatchResult, Result, Ok, Err}
use Rattle.columns.specs.declared.layout.Columns.{Columns}
use Rattle.rows.specs.declared.row_columns.RowColumns.{RowColumns}
use Rattle.layers.specs.declared.faces_limits.FacesLimits.{FacesLimits}
use Rattle.engine.specs.declared.faces_report.FacesReport.{FacesReport}
use Rattle.engine.specs.FaceColumns.{AreFaceColumnsMade}
use Rattle.engine.specs.Runs.{alone}
use Rattle.overlay_c.specs.declared.faces_answer.OverlayFacesAnswer.{OverlayFacesAnswer}
use Rattle.overlay_c.specs.FacesColumns.{AreFaceColumns, AreFaceListsKept, AreFacesPutOrSmall, FaceLists, FailsFaceColumns, FillsFaces, face_lists_of, filled, none_filled, small}

module _ (limits : FacesLimits) (side : ℕ) (layers : List Columns) where
  -- the columns that were made, without their report
  pub are_columns : {M : Type 0} (made : RowColumns M) (report : FacesReport M) → AreFaceColumnsMade limits (alone side) layers made report → AreFaceColumns limits side layers (face_lists_of made)
  are_columns made report h = record {
    grid = h.grid;
    ready = h.ready;
    made = ∥∥₁_map h.faces (λ t. record {
      rows = t.face_rows;
      are_faces = t.are_faces;
      few = subst (λ (n : ℕ). n ≤ limits.ids) t.ids h.few_ids;
      are_lists = record {
        areas = t.are_columns.areas;
        ids = t.are_columns.features.numbers;
        lists = t.are_columns.features.offsets;
        polygons = record { points = t.are_columns.polygons.have.points; rings = t.are_columns.polygons.have.offsets; polygons = t.are_columns.polygons.offsets };
        begin = t.are_columns.begin;
      };
    });
  }

  put_fills : (c before after : FaceLists) (answer : OverlayFacesAnswer) → AreFaceColumns limits side layers c → AreFacesPutOrSmall c before after answer → FillsFaces limits side layers before after answer
  put_fills c before after answer is (inl (h, told)) = subst (λ (w : OverlayFacesAnswer). FillsFaces limits side layers before after w) (sym told) (filled c is h)
  put_fills c before after answer is (inr (few, kept, told)) = subst (λ (w : OverlayFacesAnswer). FillsFaces limits side layers before after w) (sym told) (small c is few kept)

  pub faces_fill : {M : Type 0} (made : Result (RowColumns M) OverlayFacesAnswer) (before after : FaceLists) (answer : OverlayFacesAnswer)
      → MatchResult made (λ m. AreFaceColumns limits side layers (face_lists_of m)) (λ w. FailsFaceColumns limits side layers w)
      → MatchResult made (λ m. AreFacesPutOrSmall (face_lists_of m) before after answer) (λ told. (answer ≡ told) × AreFaceListsKept before after) → FillsFaces limits side layers before after answer
  faces_fill (Ok m) before after answer is h = put_fills (face_lists_of m) before after answer is h
  faces_fill (Err told) before after answer is h = subst (λ (w : OverlayFacesAnswer). FillsFaces limits side layers before after w) (sym h.0) (none_filled is h.1)
