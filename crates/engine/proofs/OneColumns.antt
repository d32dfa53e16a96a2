-- Two answers on the same layers are the same columns, and the text of `run` is of the same polygons.
use Rattle.std.proofs.Common.{◌≡◌, ◌∙◌, ℕ, List, ap, subst, sym}
use Rattle.std.proofs.Props.{props}
use Rattle.geom.specs.declared.op.Op.{Op}
use Rattle.geom.specs.declared.point.Pt.{Pt}
use Rattle.geom.specs.Canonical.{Shape}
use Rattle.wkt.specs.Canonical.{multi_text}
use Rattle.wkt.specs.Refusals.{StandsFor}
use Rattle.columns.specs.declared.answer.OwnedColumns.{OwnedColumns}
use Rattle.columns.specs.declared.layout.Columns.{Columns}
use Rattle.columns.specs.Answers.{AreColumnsOf}
use Rattle.engine.specs.declared.columns_output.ColumnsOutput.{ColumnsOutput}
use Rattle.layers.specs.declared.plan.Plan.{Plan}
use Rattle.results.specs.declared.text.Report.{Report}
use Rattle.engine.specs.ColumnsLaws.{AreOfOnePolygons, AreOneColumns, ColumnsAnswerIsOne, ColumnsSizesAreOne, RunIsByColumns}
use Rattle.engine.specs.ColumnsRuns.{AreColumnsMade}
use Rattle.layers.specs.ColumnsRefusals.{rings_of}
use Rattle.engine.specs.Determined.{HaveOneSize}
use Rattle.engine.specs.Results.{IsResultWrittenWithin}
use Rattle.engine.specs.RingLayers.{ReportsOnRings}
use Rattle.engine.proofs.Determined.{text_prop}
use Rattle.engine.proofs.OneResultText.{polygons_of_one}
use Rattle.engine.proofs.RingLayers.{rings_counted, rings_size, text_reports}

columns_prop : {M N : Type 0} (c : OwnedColumns M) (d : OwnedColumns N) → IsProp (AreOneColumns c d)
columns_prop c d = hlevel props

columns_of_one : {M N : Type 0} (ps qs : List Shape) (c : OwnedColumns M) (d : OwnedColumns N) → AreColumnsOf ps c → AreColumnsOf qs d → ps ≡ qs → AreOneColumns c d
columns_of_one {M} ps qs c d h k e =
    let same : AreColumnsOf qs c = subst (λ (us : List Shape). AreColumnsOf us c) e h in
    record { coordinates = same.have.points ∙ sym k.have.points; rings = same.have.offsets ∙ sym k.have.offsets; polygons = same.offsets ∙ sym k.offsets }

module _ {M : Type 0} (limit : ℕ) (op : Op) (plan : Plan) (a b : Columns) (made : ColumnsOutput M) (h : AreColumnsMade limit op plan a b made) where
  -- the report is on any equal rings
  reports_on : (x y : List (List Pt)) → rings_of a ≡ x → rings_of b ≡ y → ReportsOnRings limit plan x y h.counted made.report
  reports_on x y e f = subst (λ (p : List (List Pt)). ReportsOnRings limit plan p y h.counted made.report) e (subst (λ (p : List (List Pt)). ReportsOnRings limit plan (rings_of a) p h.counted made.report) f h.reports)

same_columns : (M N : Type 0) (limit limit' : ℕ) (op : Op) (a b a' b' : Columns) (plan other : Plan) (made : ColumnsOutput M) (made' : ColumnsOutput N)
    → rings_of a ≡ rings_of a' → rings_of b ≡ rings_of b' → AreColumnsMade limit op plan a b made → AreColumnsMade limit' op other a' b' made' → AreOneColumns made.columns made'.columns
same_columns M N limit limit' op a b a' b' plan other made made' e f h k =
    rings_counted limit limit' plan other (rings_of a') (rings_of b') h.counted k.counted made.report made'.report (reports_on limit op plan a b made h (rings_of a') (rings_of b') e f) k.reports
    (columns_prop made.columns made'.columns)
    (λ same. columns_of_one h.polygons k.polygons made.columns made'.columns h.columns k.columns (polygons_of_one op h.counted k.counted h.polygons k.polygons h.result k.result same))

pub columns_answer_is_one : (M N : Type 0) → ColumnsAnswerIsOne M N
columns_answer_is_one M N = same_columns M N

same_sizes : (M N : Type 0) (limit limit' : ℕ) (op op' : Op) (a b a' b' : Columns) (plan other : Plan) (made : ColumnsOutput M) (made' : ColumnsOutput N)
    → rings_of a ≡ rings_of a' → rings_of b ≡ rings_of b' → AreColumnsMade limit op plan a b made → AreColumnsMade limit' op' other a' b' made' → HaveOneSize made.report made'.report
same_sizes M N limit limit' op op' a b a' b' plan other made made' e f h k =
    rings_size limit limit' plan other (rings_of a') (rings_of b') h.counted k.counted made.report made'.report (reports_on limit op plan a b made h (rings_of a') (rings_of b') e f) k.reports

pub columns_sizes_are_one : (M N : Type 0) → ColumnsSizesAreOne M N
columns_sizes_are_one M N = same_sizes M N

-- ---- and a text
by_columns : (M N : Type 0) (limit limit' : ℕ) (op : Op) (s t : List ℕ) (a b : Columns) (plan other : Plan) (text : List ℕ) (report : Report M) (made : ColumnsOutput N)
    → StandsFor s (rings_of a) → StandsFor t (rings_of b) → IsResultWrittenWithin limit op plan s t text report → AreColumnsMade limit' op other a b made
    → AreOfOnePolygons text made.columns × HaveOneSize report made.report
by_columns M N limit limit' op s t a b plan other text report made x y h k =
    let reports = text_reports limit plan s t h.counted report h.reports (rings_of a) (rings_of b) x y in (
      record {
        polygons = k.polygons;
        are_columns = k.columns;
        is_text = rings_counted limit limit' plan other (rings_of a) (rings_of b) h.counted k.counted report made.report reports k.reports (text_prop text (multi_text k.polygons))
            (λ same. h.result.written ∙ ap multi_text (polygons_of_one op h.counted k.counted h.result.polygons k.polygons h.result.result k.result same));
      },
      rings_size limit limit' plan other (rings_of a) (rings_of b) h.counted k.counted report made.report reports k.reports,
    )

pub run_is_by_columns : (M N : Type 0) → RunIsByColumns M N
run_is_by_columns M N = by_columns M N
