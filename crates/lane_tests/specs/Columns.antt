-- Pairs of points by columns, and what eight lanes compute of them (own).
use Rattle.std.specs.Prelude.{◌≡◌, ℕ, ℤ, pos, ◌-◌, ◌<◌, ◌^◌, Bool, ◌&&◌, List, [], ◌∷◌, filter, map, length, get_or, int_le, FitsSigned}
use Rattle.std.specs.List.{range_with_len}
use Rattle.std.specs.Int.{w32}
use lib.Lanes.{mask_l}
use Rattle.geom.specs.declared.point.Pt.{Pt}
use Rattle.geom.specs.declared.rect.Rect.{Rect}

-- the corners of a box, or the ends of a segment or an edge
abbrev pub Ends : Type 0
Ends = Pt × Pt

abbrev pub corners : Rect → Ends
corners r = (r.lo, r.hi)

-- whether the closed boxes of two pairs of corners have a common point
abbrev pub touches : Ends → Ends → Bool
touches a b = int_le a.0.x b.1.x && int_le a.0.y b.1.y && int_le b.0.x a.1.x && int_le b.0.y a.1.y

-- the pair that stands where there is none
abbrev pub nowhere : Ends
nowhere = (record { x = pos 0; y = pos 0 }, record { x = pos 0; y = pos 0 })

-- of the n numbers from `from` on those that pass, ascending
unfoldable pub passing : (ℕ → Bool) → ℕ → ℕ → List ℕ
passing p from n = filter p (range_with_len from n)

-- the numbers from `from` to below `to`, ascending, of the boxes that touch a rectangle
abbrev pub touching_numbers : List Ends → Rect → ℕ → ℕ → List ℕ
touching_numbers pairs rect from to = passing (λ k. touches (get_or pairs k nowhere) (corners rect)) from (to - from)

-- the pairs that four columns hold
abbrev pub pairs_of : List ℤ → List ℤ → List ℤ → List ℤ → List Ends
pairs_of [] bs rs ts = []
pairs_of (l ∷ ls) [] rs ts = []
pairs_of (l ∷ ls) (b ∷ bs) [] ts = []
pairs_of (l ∷ ls) (b ∷ bs) (r ∷ rs) [] = []
pairs_of (l ∷ ls) (b ∷ bs) (r ∷ rs) (t ∷ ts) = (record { x = l; y = b }, record { x = r; y = t }) ∷ pairs_of ls bs rs ts

abbrev pub pair_at : List ℤ → List ℤ → List ℤ → List ℤ → ℕ → Ends
pair_at ls bs rs ts k = (record { x = get_or ls k (pos 0); y = get_or bs k (pos 0) }, record { x = get_or rs k (pos 0); y = get_or ts k (pos 0) })

-- the bits of the eight tests from `at` on
unfoldable pub mask_of : (ℕ → Bool) → ℕ → ℕ
mask_of p at = mask_l (map p (range_with_len at 8))

-- numbers of an i32 column
pub record IsColumn (xs : List ℤ) : Type 0 where
  pub fits : (k : ℕ) → FitsSigned w32 (get_or xs k (pos 0))

-- columns of one length
pub record AreColumns (ls bs rs ts : List ℤ) : Type 0 where
  pub left : IsColumn ls
  pub bottom : IsColumn bs
  pub right : IsColumn rs
  pub top : IsColumn ts
  pub bottom_len : length bs ≡ length ls
  pub right_len : length rs ≡ length ls
  pub top_len : length ts ≡ length ls
  pub few : length ls < 2 ^ 32
