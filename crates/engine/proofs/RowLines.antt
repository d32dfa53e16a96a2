-- The text of rows, row by row and in parts.
use Rattle.std.proofs.Common.{◌≡◌, ◌∙◌, ℕ, ◌+◌, ◌<◌, List, [], ◌∷◌, ◌++◌, flat_map, get_or, length, map, sym, take, ap}
use Rattle.std.specs.Prelude.{Vec, slice_range}
use Rattle.std.specs.List.{AllZip}
use Rattle.std.proofs.lemmas.Grind.{flat_map-append}
use Rattle.std.proofs.lemmas.List.{flat_map_more, map-append, map_more}
use Rattle.hands.specs.declared.part.Part.{Part}
use Rattle.hands.specs.Consecutive.{ArePartsOf}
use Rattle.hands.proofs.Consecutive.{behind_one_another}
use Rattle.faces_text.specs.Text.{row_text, rows_text}
use Rattle.rows.specs.declared.parts.Row.{Row}
use Rattle.rows.specs.Made.{row_of}
use Rattle.results.proofs.EdgeLines.{whole_range}
use Rattle.results.proofs.LineParts.{both_ranges, none_between}

-- one row more
pub row_more : {M : Type 0} (counts : List ℕ) (rows : List (Row M)) (k : ℕ) (row : Row M) (old new : List ℕ) → k < length rows → row ≡ get_or rows k row
    → old ≡ rows_text counts (map row_of (take k rows)) → new ≡ old ++ row_text counts (row_of row) → new ≡ rows_text counts (map row_of (take (k + 1) rows))
row_more {M} counts rows k row old new below is before more =
    more
    ∙ ap (λ (t : List ℕ). t ++ row_text counts (row_of row)) before
    ∙ flat_map_more (row_text counts) [] (map row_of (take k rows)) (row_of row)
    ∙ ap (λ (r : Row M). rows_text counts (map row_of (take k rows) ++ row_of r ∷ [])) is
    ∙ ap (rows_text counts) (sym (map_more row_of rows k row below))

-- what parts of rows have in their texts, one behind another, is the text of all
pub rows_in_parts : {M N : Type 0} (counts : List ℕ) (rows : List (Row M)) (ps : List Part) (texts : List (Vec ℕ N)) → ArePartsOf 0 (length rows) ps
    → AllZip (λ (p : Part) v. v.items ≡ rows_text counts (map row_of (slice_range rows p.from p.past))) ps texts → flat_map (λ v. v.items) texts ≡ rows_text counts (map row_of rows)
rows_in_parts {M} counts rows ps texts parts each =
    behind_one_another (λ v. v.items) (λ a b text. text ≡ rows_text counts (map row_of (slice_range rows a b)))
    (λ a. sym (ap (λ (rs : List (Row M)). rows_text counts (map row_of rs)) (none_between rows a)))
    (λ a b c text rest first second p q.
    (λ i. p i ++ q i)
    ∙ sym (flat_map-append (row_text counts) (map row_of (slice_range rows a b)) (map row_of (slice_range rows b c)))
    ∙ ap (rows_text counts) (sym (map-append row_of (slice_range rows a b) (slice_range rows b c)))
    ∙ ap (λ (rs : List (Row M)). rows_text counts (map row_of rs)) (sym (both_ranges rows a b c first second)))
    0 (length rows) ps texts parts each
    ∙ ap (λ (rs : List (Row M)). rows_text counts (map row_of rs)) (whole_range rows)
