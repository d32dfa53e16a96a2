-- The text of edges in parts.
use Rattle.std.proofs.Common.{◌≡◌, ◌∙◌, ◌-◌, ℕ, List, ◌++◌, arith, flat_map, length, take, sym, ap}
use Rattle.std.specs.Prelude.{Vec, slice_range}
use Rattle.std.specs.List.{AllZip}
use Rattle.std.proofs.lemmas.Grind.{flat_map-append}
use Rattle.std.proofs.lemmas.List.{take_all}
use Rattle.geom.specs.declared.edge.Counted.{Counted}
use Rattle.hands.specs.declared.part.Part.{Part}
use Rattle.hands.specs.Consecutive.{ArePartsOf}
use Rattle.hands.proofs.Consecutive.{behind_one_another}
use Rattle.results.specs.Texts.{edge_line, edges_text_of}
use Rattle.results.proofs.LineParts.{both_ranges, none_between}

pub whole_range : {X : Type 0} (xs : List X) → slice_range xs 0 (length xs) ≡ xs
whole_range xs =
    let all : length xs - 0 ≡ length xs = omega arith in
    ap (λ (n : ℕ). take n xs) all ∙ take_all (length xs) xs (omega arith)

-- what parts of edges have in their texts, one behind another, is the text of all
pub edges_in_parts : {M : Type 0} (edges : List Counted) (ps : List Part) (texts : List (Vec ℕ M)) → ArePartsOf 0 (length edges) ps
    → AllZip (λ (p : Part) v. v.items ≡ edges_text_of (slice_range edges p.from p.past)) ps texts → flat_map (λ v. v.items) texts ≡ edges_text_of edges
edges_in_parts edges ps texts parts each =
    behind_one_another (λ v. v.items) (λ a b text. text ≡ edges_text_of (slice_range edges a b))
    (λ a. sym (ap edges_text_of (none_between edges a)))
    (λ a b c text rest first second p q. (λ i. p i ++ q i) ∙ sym (flat_map-append edge_line (slice_range edges a b) (slice_range edges b c)) ∙ ap edges_text_of (sym (both_ranges edges a b c first second)))
    0 (length edges) ps texts parts each
    ∙ ap edges_text_of (whole_range edges)
