-- Boxes as four columns.
use Rattle.std.proofs.Common.{◌≡◌, ℕ, zero, suc, ◌+◌, ◌-◌, ◌<◌, List, [], ◌∷◌, ◌++◌, length, get_or, refl, sym, ap, ◌∙◌, arith, w32, FitsSigned, ℤ, pos, inl, inr}
use Rattle.std.proofs.lemmas.List.{get_or_append_left, get_or_past, length_push, get_or_push}
use Rattle.std.proofs.lemmas.Bool.{cases_lt, cases_eq}
use native.Mathlib.Nat.{suc_inj, suc-ne-zero}
use Rattle.geom.specs.declared.rect.Rect.{Rect}
use Rattle.lane_tests.specs.Columns.{Ends, IsColumn, AreColumns, pairs_of, corners, pair_at, nowhere, passing, touches, touching_numbers}

pub length-pairs_of : (ls bs rs ts : List ℤ) → length bs ≡ length ls → length rs ≡ length ls → length ts ≡ length ls → length (pairs_of ls bs rs ts) ≡ length ls
length-pairs_of [] bs rs ts e f g = refl
length-pairs_of (l ∷ ls) [] rs ts e f g = absurd (suc-ne-zero _ (sym e))
length-pairs_of (l ∷ ls) (b ∷ bs) [] ts e f g = absurd (suc-ne-zero _ (sym f))
length-pairs_of (l ∷ ls) (b ∷ bs) (r ∷ rs) [] e f g = absurd (suc-ne-zero _ (sym g))
length-pairs_of (l ∷ ls) (b ∷ bs) (r ∷ rs) (t ∷ ts) e f g = ap suc (length-pairs_of ls bs rs ts (suc_inj e) (suc_inj f) (suc_inj g))

pub get_or-pairs_of : (ls bs rs ts : List ℤ) (k : ℕ) → length bs ≡ length ls → length rs ≡ length ls → length ts ≡ length ls → get_or (pairs_of ls bs rs ts) k nowhere ≡ pair_at ls bs rs ts k
get_or-pairs_of [] [] [] [] k e f g = refl
get_or-pairs_of [] (b ∷ bs) rs ts k e f g = absurd (suc-ne-zero _ e)
get_or-pairs_of [] [] (r ∷ rs) ts k e f g = absurd (suc-ne-zero _ f)
get_or-pairs_of [] [] [] (t ∷ ts) k e f g = absurd (suc-ne-zero _ g)
get_or-pairs_of (l ∷ ls) [] rs ts k e f g = absurd (suc-ne-zero _ (sym e))
get_or-pairs_of (l ∷ ls) (b ∷ bs) [] ts k e f g = absurd (suc-ne-zero _ (sym f))
get_or-pairs_of (l ∷ ls) (b ∷ bs) (r ∷ rs) [] k e f g = absurd (suc-ne-zero _ (sym g))
get_or-pairs_of (l ∷ ls) (b ∷ bs) (r ∷ rs) (t ∷ ts) zero e f g = refl
get_or-pairs_of (l ∷ ls) (b ∷ bs) (r ∷ rs) (t ∷ ts) (suc k) e f g = get_or-pairs_of ls bs rs ts k (suc_inj e) (suc_inj f) (suc_inj g)

pairs_of_push : (ls bs rs ts : List ℤ) (l b r t : ℤ) → length bs ≡ length ls → length rs ≡ length ls → length ts ≡ length ls
    → pairs_of (ls ++ l ∷ []) (bs ++ b ∷ []) (rs ++ r ∷ []) (ts ++ t ∷ []) ≡ pairs_of ls bs rs ts ++ (record { x = l; y = b }, record { x = r; y = t }) ∷ []
pairs_of_push [] [] [] [] l b r t e f g = refl
pairs_of_push [] (x ∷ bs) rs ts l b r t e f g = absurd (suc-ne-zero _ e)
pairs_of_push [] [] (x ∷ rs) ts l b r t e f g = absurd (suc-ne-zero _ f)
pairs_of_push [] [] [] (x ∷ ts) l b r t e f g = absurd (suc-ne-zero _ g)
pairs_of_push (x ∷ ls) [] rs ts l b r t e f g = absurd (suc-ne-zero _ (sym e))
pairs_of_push (x ∷ ls) (y ∷ bs) [] ts l b r t e f g = absurd (suc-ne-zero _ (sym f))
pairs_of_push (x ∷ ls) (y ∷ bs) (z ∷ rs) [] l b r t e f g = absurd (suc-ne-zero _ (sym g))
pairs_of_push (x ∷ ls) (y ∷ bs) (z ∷ rs) (w ∷ ts) l b r t e f g = ap (λ xs. (record { x = x; y = y }, record { x = z; y = w }) ∷ xs) (pairs_of_push ls bs rs ts l b r t (suc_inj e) (suc_inj f) (suc_inj g))

pub column_push : (xs : List ℤ) (x : ℤ) → IsColumn xs → FitsSigned w32 x → IsColumn (xs ++ x ∷ [])
column_push xs x h f = record {
  fits = λ k. elim (cases_lt k (length xs)) [
    | inl below ↦ rw (get_or_append_left xs (x ∷ []) (pos 0) k below) (h.fits k)
    | inr past ↦ elim (cases_eq (length xs) k) [
      | inl here ↦ rw (get_or_push xs x (pos 0) k here) f
      | inr beyond ↦ rw (get_or_past (xs ++ x ∷ []) k (pos 0) (omega (arith, length_push xs x))) (record { sfits = omega arith })
    ]
  ];
}

pub pushed : (ls bs rs ts ls' bs' rs' ts' : List ℤ) (l b r t : ℤ) → AreColumns ls bs rs ts → ls' ≡ ls ++ l ∷ [] → bs' ≡ bs ++ b ∷ [] → rs' ≡ rs ++ r ∷ [] → ts' ≡ ts ++ t ∷ []
    → pairs_of ls' bs' rs' ts' ≡ pairs_of ls bs rs ts ++ (record { x = l; y = b }, record { x = r; y = t }) ∷ []
pushed ls bs rs ts ls' bs' rs' ts' l b r t h e f g i = rw (e, f, g, i) (pairs_of_push ls bs rs ts l b r t h.bottom_len h.right_len h.top_len)

pub columns_pushed : (ls bs rs ts ls' bs' rs' ts' : List ℤ) (l b r t : ℤ) → AreColumns ls bs rs ts → length ls < 4294967295 → FitsSigned w32 l → FitsSigned w32 b → FitsSigned w32 r → FitsSigned w32 t
    → ls' ≡ ls ++ l ∷ [] → bs' ≡ bs ++ b ∷ [] → rs' ≡ rs ++ r ∷ [] → ts' ≡ ts ++ t ∷ [] → AreColumns ls' bs' rs' ts'
columns_pushed ls bs rs ts ls' bs' rs' ts' l b r t h few fl fb fr ft e f g i = rw (e, f, g, i) (record {
  left = column_push ls l h.left fl;
  bottom = column_push bs b h.bottom fb;
  right = column_push rs r h.right fr;
  top = column_push ts t h.top ft;
  bottom_len = length_push bs b ∙ ap (λ n. n + 1) h.bottom_len ∙ sym (length_push ls l);
  right_len = length_push rs r ∙ ap (λ n. n + 1) h.right_len ∙ sym (length_push ls l);
  top_len = length_push ts t ∙ ap (λ n. n + 1) h.top_len ∙ sym (length_push ls l);
  few = omega (arith, length_push ls l);
})

-- the numbers found by columns are those found by pairs
by_columns : (pairs : List Ends) (ls bs rs ts : List ℤ) (r : Rect) (from to : ℕ) → AreColumns ls bs rs ts → pairs_of ls bs rs ts ≡ pairs
    → passing (λ k. touches (pair_at ls bs rs ts k) (corners r)) from (to - from) ≡ touching_numbers pairs r from to
by_columns pairs ls bs rs ts r from to h e =
    let at : (k : ℕ) → pair_at ls bs rs ts k ≡ get_or pairs k nowhere = λ k. sym (get_or-pairs_of ls bs rs ts k h.bottom_len h.right_len h.top_len) ∙ ap (λ xs. get_or xs k nowhere) e in
    λ i. passing (λ k. touches (at k i) (corners r)) from (to - from)

pub by_slices : (pairs : List Ends) (ls bs rs ts ls' bs' rs' ts' : List ℤ) (r : Rect) (from to : ℕ) (out : List ℕ) → AreColumns ls bs rs ts → pairs_of ls bs rs ts ≡ pairs
    → ls' ≡ ls → bs' ≡ bs → rs' ≡ rs → ts' ≡ ts → out ≡ passing (λ k. touches (pair_at ls' bs' rs' ts' k) (corners r)) from (to - from) → out ≡ touching_numbers pairs r from to
by_slices pairs ls bs rs ts ls' bs' rs' ts' r from to out h e p q s t f =
    f ∙ (λ i. passing (λ k. touches (pair_at (p i) (q i) (s i) (t i) k) (corners r)) from (to - from)) ∙ by_columns pairs ls bs rs ts r from to h e
