-- Items whose boxes are in bins: the boxes one by one, and the bins that were found.
use Rattle.std.proofs.Common.{◌≡◌, ℕ, ◌+◌, ◌<◌, List, [], ◌∷◌, ◌++◌, sym, ◌∙◌, ap, subst, get_or, length, map, take, ⊎_elim}
use Rattle.std.proofs.Math.Logic.{∥∥₁_elim}
use Rattle.std.proofs.Props.{props}
use Rattle.std.specs.Prelude.{Contains}
use Rattle.std.proofs.lemmas.List.{map-append, take_more}
use Rattle.geom.specs.declared.point.Pt.{Pt}
use Rattle.geom.specs.declared.rect.Rect.{Rect}
use Rattle.geom.proofs.Lists.{contains_in, in_contains}
use Rattle.grid.specs.Tiles.{Tiling}
use Rattle.tiling.specs.Index.{AreIndexed}
use Rattle.grid.specs.Bins.{IsBin}
use Rattle.tiling.specs.Bins.{Binned}
use Rattle.linking.specs.Gathered.{AreBoxesBy, corners}
use Rattle.linking.proofs.Boxes.{member}
use Rattle.chain_gather.specs.Gathered.{AreBinsBy}

-- one box more
pub boxes_more : {X : Type 0} (box : X → Pt × Pt) (items : List X) (boxes new : List Rect) (i : ℕ) (x : X) (r : Rect) → i < length items → x ≡ get_or items i x → AreBoxesBy box (take i items) boxes → new ≡ boxes ++ r ∷ [] → corners r ≡ box x
    → AreBoxesBy box (take (i + 1) items) new
boxes_more {X = X} box items boxes new i x r l e h n same =
    let front : take (i + 1) items ≡ take i items ++ x ∷ [] = take_more items i x l ∙ ap (λ (y : X). take i items ++ y ∷ []) (sym e) in
    ap (map corners) n ∙ map-append corners boxes (r ∷ []) ∙ ap (λ (cs : List (Pt × Pt)). cs ++ corners r ∷ []) h ∙ ap (λ (p : Pt × Pt). map box (take i items) ++ p ∷ []) same
    ∙ sym (map-append box (take i items) (x ∷ [])) ∙ ap (map box) (sym front)

-- the bin that was found is one over the grid
pub bin_over : {X : Type 0} (box : X → Pt × Pt) (g : Tiling) (items : List X) (bins : Binned) (k : ℕ) (numbers : List ℕ) (are : AreBinsBy box g items bins) → ((boxes : List Rect) → AreIndexed boxes bins.items → IsBin bins.grid k boxes numbers) → IsBin g k are.boxes numbers
bin_over box g items bins k numbers are found = subst (λ (h : Tiling). IsBin h k are.boxes numbers) are.grid_is (found are.boxes are.indexed)

-- ---- a number that is known to be in a list
pub known_member : (xs : List ℕ) (n : ℕ) → ∥ Contains xs n ∥₁ → Contains xs n
known_member xs n h = ⊎_elim (λ i. in_contains xs n i) (λ no. absurd (∥∥₁_elim h (hlevel props) (λ c. no (contains_in xs n c)))) (member n xs)
