-- Rings and polygons that are copied, one after another.
use Rattle.std.proofs.Common.{◌≡◌, ◌∙◌, ℕ, ◌+◌, ◌-◌, ◌≤◌, ◌<◌, List, [], ◌∷◌, ◌++◌, append_assoc, length, get_or, sym, ap, subst, arith}
use Rattle.std.specs.Prelude.{slice_range}
use Rattle.std.proofs.lemmas.List.{length-append}
use Rattle.geom.specs.declared.point.Pt.{Pt}
use Rattle.columns.specs.declared.answer.OwnedColumns.{OwnedColumns}
use Rattle.columns.specs.Answers.{HaveRings}
use Rattle.columns.specs.Layout.{joined}
use Rattle.columns.proofs.Lists.{point_more}
use Rattle.columns.proofs.Written.{joined_more, length_offsets, one_list}
use Rattle.polygon_order.specs.Order.{AreColumnsAsWritten}

-- the ring behind those that are copied
pub ring_behind : {M : Type 0} (done all : List (List Pt)) (first ring next : ℕ) (made : OwnedColumns M) → first ≤ ring → ring < length all → next ≡ ring + 1
    → HaveRings ((done ++ slice_range all first ring) ++ get_or all ring [] ∷ []) made → HaveRings (done ++ slice_range all first next) made
ring_behind done all first ring next made low high after h =
    subst (λ t. HaveRings t made)
    (append_assoc done (slice_range all first ring) (get_or all ring [] ∷ []) ∙ ap (λ t. done ++ t) (sym (point_more all first ring next [] low high after))) h

-- a polygon behind those that are written, by its rings and its offset
pub polygon_behind : {M : Type 0} (done : List (List (List Pt))) (polygon : List (List Pt)) (old new : OwnedColumns M) (past : ℕ) → AreColumnsAsWritten done old
    → HaveRings (joined done ++ polygon) new → new.polygons.items ≡ old.polygons.items ++ past ∷ [] → past ≡ length new.rings.items - 1
    → AreColumnsAsWritten (done ++ polygon ∷ []) new
polygon_behind done polygon old new past h rings offset at =
    let long = ap length rings.offsets ∙ length_offsets 0 (joined done ++ polygon) in
    let parts = length-append (joined done) polygon in
    record {
      have = subst (λ t. HaveRings t new) (sym (joined_more done polygon)) rings;
      offsets = offset ∙ ap (λ t. t ++ past ∷ []) h.offsets ∙ sym (one_list 0 past done polygon (omega (arith, at, long, parts)));
    }
