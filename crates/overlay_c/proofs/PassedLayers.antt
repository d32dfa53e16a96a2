-- The texts or columns of layers that were passed, put into a list one after another.
use Rattle.std.proofs.Common.{◌≡◌, ◌∙◌, Bor, ℕ, ◌+◌, ◌<◌, List, [], ◌∷◌, ◌++◌, ap, arith, get_or, length, map, subst, suc, sym, take}
use Rattle.std.proofs.Math.ListN.{set}
use Rattle.std.proofs.Math.Seq.{take-suc, take-suc-set}
use Rattle.std.proofs.lemmas.List.{map-append}
use Rattle.columns.specs.declared.layout.Columns.{Columns}
use Rattle.overlay_c.specs.declared.columns_layer.OverlayColumns.{OverlayColumns}
use Rattle.overlay_c.specs.declared.faces.OverlayLayer.{OverlayLayer}
use Rattle.overlay_c.specs.Columns.{columns_in}
use Rattle.overlay_c.specs.Faces.{texts_in}
use Rattle.overlay_c.specs.FacesColumns.{layers_in}

abbrev now_of : Bor (List ℕ) → List ℕ
now_of t = t.now

abbrev text_of : OverlayLayer → List ℕ
text_of l = l.bytes.now

-- one more text stands in the list
pub one_more : (texts : List (Bor (List ℕ))) (layers : List OverlayLayer) (n : ℕ) (d : OverlayLayer) → n < length texts → n < length layers → map now_of (take n texts) ≡ texts_in (take n layers)
    → map now_of (take (n + 1) (set texts n (get_or layers n d).bytes)) ≡ texts_in (take (n + 1) layers)
one_more texts layers n d below within same =
    let l = get_or layers n d in
    let next : suc n ≡ n + 1 = omega arith in
    subst (λ (k : ℕ). map now_of (take k (set texts n l.bytes)) ≡ texts_in (take k layers)) next
    (ap (λ (ts : List (Bor (List ℕ))). map now_of ts) (take-suc-set texts n l.bytes below)
    ∙ map-append now_of (take n texts) (l.bytes ∷ [])
    ∙ ap (λ (ts : List (List ℕ)). ts ++ (text_of l ∷ [])) same
    ∙ sym (ap texts_in (take-suc layers n d within) ∙ map-append text_of (take n layers) (l ∷ [])))

-- the columns of one more layer stand in the list
pub one_more_layer : (all : List Columns) (layers : List OverlayColumns) (n : ℕ) (d : OverlayColumns) (next : Columns) → next ≡ columns_in (get_or layers n d) → n < length all → n < length layers
    → take n all ≡ layers_in (take n layers) → take (n + 1) (set all n next) ≡ layers_in (take (n + 1) layers)
one_more_layer all layers n d next is below within same =
    let l = get_or layers n d in
    let more : suc n ≡ n + 1 = omega arith in
    subst (λ (k : ℕ). take k (set all n next) ≡ layers_in (take k layers)) more
    (take-suc-set all n next below
    ∙ ap (λ (cs : List Columns). cs ++ (next ∷ [])) same
    ∙ ap (λ (c : Columns). layers_in (take n layers) ++ (c ∷ [])) is
    ∙ sym (ap layers_in (take-suc layers n d within) ∙ map-append columns_in (take n layers) (l ∷ [])))
