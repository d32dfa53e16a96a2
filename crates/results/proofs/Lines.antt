-- The lines of a report's tiles.
use Rattle.std.proofs.Common.{◌≡◌, ◌∙◌, ◌+◌, ◌<◌, ℕ, suc, zero-add, List, [], ◌∷◌, ◌++◌, length, take, get_or, append_assoc, ap, sym, arith}
use Rattle.std.proofs.lemmas.List.{append-nil, take_more, length-take-le}
use Rattle.results.specs.Texts.{tile_line, tile_lines}

lines_append : (k : ℕ) (xs ys : List (ℕ × ℕ)) → tile_lines k (xs ++ ys) ≡ tile_lines k xs ++ tile_lines (length xs + k) ys
lines_append k [] ys = ap (λ (n : ℕ). tile_lines n ys) (sym (zero-add k))
lines_append k (x ∷ xs) ys =
    ap (λ (t : List ℕ). tile_line k x ++ t) (lines_append (suc k) xs ys ∙ ap (λ (n : ℕ). tile_lines (suc k) xs ++ tile_lines n ys) (shift (length xs) k))
    ∙ sym (append_assoc (tile_line k x) (tile_lines (suc k) xs) (tile_lines (suc (length xs) + k) ys))
  where
    shift : (m n : ℕ) → m + suc n ≡ suc m + n
    shift m n = omega arith

pub lines_more : (front text new : List ℕ) (tiles : List (ℕ × ℕ)) (i : ℕ) (t : ℕ × ℕ) → i < length tiles → t ≡ get_or tiles i (0, 0)
    → text ≡ front ++ tile_lines 0 (take i tiles) → new ≡ text ++ tile_line i t → new ≡ front ++ tile_lines 0 (take (i + 1) tiles)
lines_more front text new tiles i t lt is e f =
    let more : take (i + 1) tiles ≡ take i tiles ++ t ∷ [] = take_more tiles i (0, 0) lt ∙ ap (λ (u : ℕ × ℕ). take i tiles ++ u ∷ []) (sym is) in
    let at : length (take i tiles) + 0 ≡ i = omega (arith, length-take-le {A = ℕ × ℕ}) in
    let last : tile_lines i (t ∷ []) ≡ tile_line i t = append-nil (tile_line i t) in
    f ∙ ap (λ (x : List ℕ). x ++ tile_line i t) e ∙ append_assoc front (tile_lines 0 (take i tiles)) (tile_line i t)
    ∙ ap (λ (x : List ℕ). front ++ x) (
    ap (λ (x : List ℕ). tile_lines 0 (take i tiles) ++ x) (sym last)
    ∙ ap (λ (n : ℕ). tile_lines 0 (take i tiles) ++ tile_lines n (t ∷ [])) (sym at)
    ∙ sym (lines_append 0 (take i tiles) (t ∷ []))
    ∙ ap (tile_lines 0) (sym more))
