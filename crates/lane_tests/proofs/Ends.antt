-- Lanes of the ends of edges.
use Rattle.lane_tests.proofs.PairLists.{get_or-pairs_of}
use Rattle.lane_tests.proofs.Pairs.{each_push}
use Rattle.std.proofs.Common.{ℕ, ◌+◌, ◌-◌, ◌%◌, ◌^◌, ◌≤◌, List, [], ◌∷◌, ◌++◌, length, get_or, map, take, drop, arith, w32, w64, FitsSigned, of_z, to_z, to_z-of_z, ℤ, pos, ◌+ℤ◌, ◌-ℤ◌, ◌*ℤ◌, lit<, sym, ap, subst, ◌≡◌, ◌∙◌}
use Rattle.std.proofs.lemmas.Int.{ints, fits_signed_mul}
use Rattle.std.specs.Prelude.{unsigned_abs}
use Rattle.geom.proofs.Bounds.{within_room}
use Rattle.geom.specs.Limit.{AreInLimit, IsWithin, coordinate_limit}
use Rattle.lane_tests.specs.Columns.{AreColumns, Ends, nowhere, pair_at, pairs_of}
use Rattle.lane_tests.specs.Edges.{AreNear}
use Rattle.lane_tests.specs.Above.{AreEnds, run_at, offset_at}
use Rattle.lane_tests.proofs.Values.{AreValues, from_column, from_numbers, from_splat, minus, plus}
use Rattle.std.specs.List.{range_with_len}
use mir.Val.{bits}
use lib.Lanes.{zip2}

difference_fits : (a b : ℤ) → IsWithin (2 ^ 28) a → IsWithin (2 ^ 28) b → FitsSigned w32 (a -ℤ b)
difference_fits a b h k = omega (arith, ints)

double_fits : (a : ℤ) → IsWithin (2 ^ 28) a → FitsSigned w32 (a +ℤ a)
double_fits a h = omega (arith, ints)

half_fits : (x : ℤ) → IsWithin (2 ^ 29 + 1) x → FitsSigned w32 x
half_fits x h = omega (arith, ints)

offset_fits : (x a : ℤ) → IsWithin (2 ^ 29 + 1) x → IsWithin (2 ^ 28) a → FitsSigned w32 (x -ℤ (a +ℤ a))
offset_fits x a h k = omega (arith, ints)

pub difference_abs : (a b : ℤ) → IsWithin (2 ^ 28) a → IsWithin (2 ^ 28) b → unsigned_abs (a -ℤ b) ≤ 2 ^ 29
difference_abs a b h k = omega (arith, ints)

offset_abs : (x a : ℤ) → IsWithin (2 ^ 29 + 1) x → IsWithin (2 ^ 28) a → unsigned_abs (x -ℤ (a +ℤ a)) ≤ 2 ^ 30 + 1
offset_abs x a h k = omega (arith, ints)

pub direction_abs : (x : ℤ) → IsWithin (2 ^ 29) x → unsigned_abs x ≤ 2 ^ 29
direction_abs x h = omega (arith, ints)

-- the four numbers of an element, as the code reads them
pub read_back : (ls bs rs ts : List ℤ) → AreEnds ls bs rs ts → (k : ℕ) → (to_z w32 (of_z w32 (get_or ls k (pos 0))) ≡ get_or ls k (pos 0)) × (to_z w32 (of_z w32 (get_or bs k (pos 0))) ≡ get_or bs k (pos 0)) × (to_z w32 (of_z w32 (get_or rs k (pos 0))) ≡ get_or rs k (pos 0)) × (to_z w32 (of_z w32 (get_or ts k (pos 0))) ≡ get_or ts k (pos 0))
read_back ls bs rs ts h k = (to_z-of_z (h.columns.left.fits k), to_z-of_z (h.columns.bottom.fits k), to_z-of_z (h.columns.right.fits k), to_z-of_z (h.columns.top.fits k))

abbrev eight : ℤ → List ℕ
eight y = of_z w32 y ∷ of_z w32 y ∷ of_z w32 y ∷ of_z w32 y ∷ of_z w32 y ∷ of_z w32 y ∷ of_z w32 y ∷ of_z w32 y ∷ []

module _ (ls bs rs ts : List ℤ) (at : ℕ) (h : AreEnds ls bs rs ts) (room : at + 8 ≤ length ls) where
  pub left : AreValues w32 at (λ k. get_or ls k (pos 0)) (map (of_z w32) (take 8 (drop at ls)))
  left = from_column ls at room h.columns.left

  pub bottom : AreValues w32 at (λ k. get_or bs k (pos 0)) (map (of_z w32) (take 8 (drop at bs)))
  bottom = from_column bs at (omega (arith, h.columns.bottom_len)) h.columns.bottom

  pub right : AreValues w32 at (λ k. get_or rs k (pos 0)) (map (of_z w32) (take 8 (drop at rs)))
  right = from_column rs at (omega (arith, h.columns.right_len)) h.columns.right

  pub top : AreValues w32 at (λ k. get_or ts k (pos 0)) (map (of_z w32) (take 8 (drop at ts)))
  top = from_column ts at (omega (arith, h.columns.top_len)) h.columns.top

  pub run_fits : (k : ℕ) → FitsSigned w32 (run_at ls rs k)
  run_fits k = difference_fits (get_or rs k (pos 0)) (get_or ls k (pos 0)) (h.near k).2 (h.near k).0

  pub rise_fits : (k : ℕ) → FitsSigned w32 (run_at bs ts k)
  rise_fits k = difference_fits (get_or ts k (pos 0)) (get_or bs k (pos 0)) (h.near k).3 (h.near k).1

  pub run_abs : (k : ℕ) → unsigned_abs (run_at ls rs k) ≤ 2 ^ 29
  run_abs k = difference_abs (get_or rs k (pos 0)) (get_or ls k (pos 0)) (h.near k).2 (h.near k).0

  pub rise_abs : (k : ℕ) → unsigned_abs (run_at bs ts k) ≤ 2 ^ 29
  rise_abs k = difference_abs (get_or ts k (pos 0)) (get_or bs k (pos 0)) (h.near k).3 (h.near k).1

  pub left_double : (k : ℕ) → FitsSigned w32 (get_or ls k (pos 0) +ℤ get_or ls k (pos 0))
  left_double k = double_fits (get_or ls k (pos 0)) (h.near k).0

  pub bottom_double : (k : ℕ) → FitsSigned w32 (get_or bs k (pos 0) +ℤ get_or bs k (pos 0))
  bottom_double k = double_fits (get_or bs k (pos 0)) (h.near k).1

  pub run : AreValues w32 at (run_at ls rs) (zip2 (λ a b. (a + (2 ^ bits w32 - b)) % 2 ^ bits w32) (map (of_z w32) (take 8 (drop at rs))) (map (of_z w32) (take 8 (drop at ls))))
  run = minus w32 right left run_fits

  pub rise : AreValues w32 at (run_at bs ts) (zip2 (λ a b. (a + (2 ^ bits w32 - b)) % 2 ^ bits w32) (map (of_z w32) (take 8 (drop at ts))) (map (of_z w32) (take 8 (drop at bs))))
  rise = minus w32 top bottom rise_fits

  module _ (x2 y2 : ℤ) (near_x : IsWithin (2 ^ 29 + 1) x2) (near_y : IsWithin (2 ^ 29 + 1) y2) where
    pub along_fits : (k : ℕ) → FitsSigned w32 (offset_at ls x2 k)
    along_fits k = offset_fits x2 (get_or ls k (pos 0)) near_x (h.near k).0

    pub up_fits : (k : ℕ) → FitsSigned w32 (offset_at bs y2 k)
    up_fits k = offset_fits y2 (get_or bs k (pos 0)) near_y (h.near k).1

    pub along : AreValues w32 at (offset_at ls x2) (zip2 (λ a b. (a + (2 ^ bits w32 - b)) % 2 ^ bits w32) (eight x2) (zip2 (λ a b. (a + b) % 2 ^ bits w32) (map (of_z w32) (take 8 (drop at ls))) (map (of_z w32) (take 8 (drop at ls)))))
    along = minus w32 (from_splat w32 at x2 (half_fits x2 near_x)) (plus w32 left left left_double) along_fits

    pub up : AreValues w32 at (offset_at bs y2) (zip2 (λ a b. (a + (2 ^ bits w32 - b)) % 2 ^ bits w32) (eight y2) (zip2 (λ a b. (a + b) % 2 ^ bits w32) (map (of_z w32) (take 8 (drop at bs))) (map (of_z w32) (take 8 (drop at bs)))))
    up = minus w32 (from_splat w32 at y2 (half_fits y2 near_y)) (plus w32 bottom bottom bottom_double) up_fits

    pub over_fits : (k : ℕ) → FitsSigned w64 (run_at ls rs k *ℤ offset_at bs y2 k)
    over_fits k = fits_signed_mul w64 (run_at ls rs k) (offset_at bs y2 k) (2 ^ 29) (2 ^ 30 + 1) (run_abs k) (offset_abs y2 (get_or bs k (pos 0)) near_y (h.near k).1) (lit< tt)

    pub under_fits : (k : ℕ) → FitsSigned w64 (run_at bs ts k *ℤ offset_at ls x2 k)
    under_fits k = fits_signed_mul w64 (run_at bs ts k) (offset_at ls x2 k) (2 ^ 29) (2 ^ 30 + 1) (rise_abs k) (offset_abs x2 (get_or ls k (pos 0)) near_x (h.near k).0) (lit< tt)

    -- lanes with the two products, from what the code says of them
    pub compared : (r : List ℤ × List ℤ) → r.0 ≡ map (λ k. run_at ls rs k *ℤ offset_at bs (to_z w32 (of_z w32 y2)) k) (range_with_len at 8) → r.1 ≡ map (λ k. run_at bs ts k *ℤ offset_at ls (to_z w32 (of_z w32 x2)) k) (range_with_len at 8)
        → AreValues w64 at (λ k. run_at ls rs k *ℤ offset_at bs y2 k) (map (of_z w64) r.0) × AreValues w64 at (λ k. run_at bs ts k *ℤ offset_at ls x2 k) (map (of_z w64) r.1)
    compared r e f =
        let fx : FitsSigned w32 x2 = half_fits x2 near_x in
        let fy : FitsSigned w32 y2 = half_fits y2 near_y in
        (from_numbers w64 at (λ k. run_at ls rs k *ℤ offset_at bs y2 k) r.0 over_fits (simp to_z-of_z at e), from_numbers w64 at (λ k. run_at bs ts k *ℤ offset_at ls x2 k) r.1 under_fits (simp to_z-of_z at f))

  module _ (dx dy : ℤ) (near_x : IsWithin (2 ^ 29) dx) (near_y : IsWithin (2 ^ 29) dy) where
    pub run_dy_fits : (k : ℕ) → FitsSigned w64 (run_at ls rs k *ℤ dy)
    run_dy_fits k = fits_signed_mul w64 (run_at ls rs k) dy (2 ^ 29) (2 ^ 29) (run_abs k) (direction_abs dy near_y) (lit< tt)

    pub rise_dx_fits : (k : ℕ) → FitsSigned w64 (run_at bs ts k *ℤ dx)
    rise_dx_fits k = fits_signed_mul w64 (run_at bs ts k) dx (2 ^ 29) (2 ^ 29) (rise_abs k) (direction_abs dx near_x) (lit< tt)

-- ---- columns of points in the coordinate limit
pub ends_are : (ls bs rs ts : List ℤ) (pairs : List Ends) → AreColumns ls bs rs ts → pairs_of ls bs rs ts ≡ pairs → AreNear pairs → AreEnds ls bs rs ts
ends_are ls bs rs ts pairs h e n = record { columns = h; near = λ k. near k (at k) }
  where
    at : (k : ℕ) → get_or pairs k nowhere ≡ pair_at ls bs rs ts k
    at k = ap (λ ps. get_or ps k nowhere) (sym e) ∙ get_or-pairs_of ls bs rs ts k h.bottom_len h.right_len h.top_len

    near : (k : ℕ) → get_or pairs k nowhere ≡ pair_at ls bs rs ts k → IsWithin (2 ^ 28) (get_or ls k (pos 0)) × IsWithin (2 ^ 28) (get_or bs k (pos 0)) × IsWithin (2 ^ 28) (get_or rs k (pos 0)) × IsWithin (2 ^ 28) (get_or ts k (pos 0))
    near k p =
        let m : AreInLimit (pair_at ls bs rs ts k).0 (pair_at ls bs rs ts k).1 = subst (λ (e : Ends). AreInLimit e.0 e.1) p (n.near k) in
        (within_room _ m.a_in.x_in, within_room _ m.a_in.y_in, within_room _ m.b_in.x_in, within_room _ m.b_in.y_in)

none_near : AreInLimit nowhere.0 nowhere.1
none_near = let zero_near : IsWithin coordinate_limit (pos 0) = record { low = omega (arith, ints); high = omega (arith, ints) } in
    record { a_in = record { x_in = zero_near; y_in = zero_near }; b_in = record { x_in = zero_near; y_in = zero_near } }

pub no_points_near : AreNear []
no_points_near = record { near = λ k. none_near }

pub near_grown : (old now : List Ends) (e : Ends) → AreNear old → AreInLimit e.0 e.1 → now ≡ old ++ e ∷ [] → AreNear now
near_grown old now e h n f = rw f (record { near = each_push nowhere (λ e. AreInLimit e.0 e.1) old e h.near n })
