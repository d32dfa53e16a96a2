-- The common point of two segments that are not parallel, by determinants.
use Rattle.std.proofs.Common.{◌≡◌, ◌≢◌, [], ◌∷◌, refl, sym, ◌∙◌, ap, arith, subst}
use Rattle.std.proofs.Math.IntN.{ℤ, pos, ◌+ℤ◌, ◌-ℤ◌, ◌*ℤ◌}
use Rattle.std.specs.Prelude.{◌<ℤ◌, ◌≤ℤ◌}
use Rattle.geom.specs.declared.point.Pt.{Pt}
use Rattle.geom.specs.declared.segment.Seg.{Seg}
use Rattle.geom.specs.Pixel.{Point, nearest, pixel}
use Rattle.geom.specs.OnSegment.{IsAt}
use Rattle.geom.specs.Determinant.{determinant, turn}
use Rattle.geom.specs.Hot.{CrossIn}
use Rattle.crossing.specs.Crossing.{CrossesAt}
use Rattle.geom.proofs.Integers.{linear, mul_nonneg, mul_pos, cancel_nonneg, cancel_pos, unscale_eq}
use Rattle.geom.proofs.Nearest.{IsNearest, nearest-is, nearest-unique}
use Rattle.geom.proofs.Pixels.{same_point}
use Rattle.crossing.proofs.Ends.{point_along}
use Rattle.geom.proofs.Identity.{Term, var, num, ◌⊕◌, ◌⊖◌, ◌⊗◌, ring}
use Rattle.geom.proofs.Numbers.{positive_is_not_zero, gap_is, strict_gap_is, from_gap, from_strict_gap, weak}

gap_factor : (n x y : ℤ) → n *ℤ (y -ℤ x) ≡ (n *ℤ y) -ℤ (n *ℤ x)
gap_factor n x y = ring (n ∷ x ∷ y ∷ []) (var 0 ⊗ (var 2 ⊖ var 1)) ((var 0 ⊗ var 2) ⊖ (var 0 ⊗ var 1)) refl

cancel_equal : (n x y : ℤ) → pos 0 <ℤ n → n *ℤ x ≡ n *ℤ y → x ≡ y
cancel_equal n x y p e = unscale_eq x y n e p

-- ---- one point, written with two denominators, has one pixel

scale_low : (n x k q : ℤ) → n *ℤ ((pos 2 *ℤ x) -ℤ (k *ℤ ((pos 2 *ℤ q) -ℤ pos 1))) ≡ (pos 2 *ℤ (n *ℤ x)) -ℤ (k *ℤ (n *ℤ ((pos 2 *ℤ q) -ℤ pos 1)))
scale_low n x k q = ring (n ∷ x ∷ k ∷ q ∷ []) (var 0 ⊗ ((num (pos 2) ⊗ var 1) ⊖ (var 2 ⊗ ((num (pos 2) ⊗ var 3) ⊖ num (pos 1))))) ((num (pos 2) ⊗ (var 0 ⊗ var 1)) ⊖ (var 2 ⊗ (var 0 ⊗ ((num (pos 2) ⊗ var 3) ⊖ num (pos 1))))) refl

scale_high : (n x k q : ℤ) → n *ℤ ((k *ℤ ((pos 2 *ℤ q) +ℤ pos 1)) -ℤ (pos 2 *ℤ x)) ≡ (k *ℤ (n *ℤ ((pos 2 *ℤ q) +ℤ pos 1))) -ℤ (pos 2 *ℤ (n *ℤ x))
scale_high n x k q = ring (n ∷ x ∷ k ∷ q ∷ []) (var 0 ⊗ ((var 2 ⊗ ((num (pos 2) ⊗ var 3) ⊕ num (pos 1))) ⊖ (num (pos 2) ⊗ var 1))) ((var 2 ⊗ (var 0 ⊗ ((num (pos 2) ⊗ var 3) ⊕ num (pos 1)))) ⊖ (num (pos 2) ⊗ (var 0 ⊗ var 1))) refl

common_low : (k z n q : ℤ) → (pos 2 *ℤ (k *ℤ z)) -ℤ (k *ℤ (n *ℤ ((pos 2 *ℤ q) -ℤ pos 1))) ≡ k *ℤ ((pos 2 *ℤ z) -ℤ (n *ℤ ((pos 2 *ℤ q) -ℤ pos 1)))
common_low k z n q = ring (k ∷ z ∷ n ∷ q ∷ []) ((num (pos 2) ⊗ (var 0 ⊗ var 1)) ⊖ (var 0 ⊗ (var 2 ⊗ ((num (pos 2) ⊗ var 3) ⊖ num (pos 1))))) (var 0 ⊗ ((num (pos 2) ⊗ var 1) ⊖ (var 2 ⊗ ((num (pos 2) ⊗ var 3) ⊖ num (pos 1))))) refl

common_high : (k z n q : ℤ) → (k *ℤ (n *ℤ ((pos 2 *ℤ q) +ℤ pos 1))) -ℤ (pos 2 *ℤ (k *ℤ z)) ≡ k *ℤ ((n *ℤ ((pos 2 *ℤ q) +ℤ pos 1)) -ℤ (pos 2 *ℤ z))
common_high k z n q = ring (k ∷ z ∷ n ∷ q ∷ []) ((var 0 ⊗ (var 2 ⊗ ((num (pos 2) ⊗ var 3) ⊕ num (pos 1)))) ⊖ (num (pos 2) ⊗ (var 0 ⊗ var 1))) (var 0 ⊗ ((var 2 ⊗ ((num (pos 2) ⊗ var 3) ⊕ num (pos 1))) ⊖ (num (pos 2) ⊗ var 1))) refl

pub IsNearest-scaled : (z n x k q : ℤ) → pos 0 <ℤ n → pos 0 <ℤ k → n *ℤ x ≡ k *ℤ z → IsNearest z n q → IsNearest x k q
IsNearest-scaled z n x k q pn pk e h = record {
  low = from_gap _ _ (cancel_nonneg n _ pn (rw (scale_low n x k q, e, common_low k z n q) (mul_nonneg k _ (weak _ _ pk) (gap_is _ _ h.low))));
  high = from_strict_gap _ _ (cancel_pos n _ pn (rw (scale_high n x k q, e, common_high k z n q) (mul_pos k _ pk (strict_gap_is _ _ h.high))));
}

-- ---- elimination

-- a + (m / n) (b - a) = c + (k / l) (d - c) in one coordinate, without a division
common : (N z a u c v m n k l : ℤ) → pos 0 <ℤ N → n *ℤ z ≡ N *ℤ ((n *ℤ a) +ℤ (m *ℤ u)) → l *ℤ z ≡ N *ℤ ((l *ℤ c) +ℤ (k *ℤ v)) → (l *ℤ (m *ℤ u)) ≡ (n *ℤ (l *ℤ (c -ℤ a))) +ℤ (n *ℤ (k *ℤ v))
common N z a u c v m n k l pN e f =
    let g : l *ℤ (n *ℤ z) ≡ n *ℤ (l *ℤ z) = ring (l ∷ n ∷ z ∷ []) (var 0 ⊗ (var 1 ⊗ var 2)) (var 1 ⊗ (var 0 ⊗ var 2)) refl in
    let p : N *ℤ (l *ℤ ((n *ℤ a) +ℤ (m *ℤ u))) ≡ l *ℤ (N *ℤ ((n *ℤ a) +ℤ (m *ℤ u))) = ring (N ∷ l ∷ n ∷ a ∷ m ∷ u ∷ []) (var 0 ⊗ (var 1 ⊗ ((var 2 ⊗ var 3) ⊕ (var 4 ⊗ var 5)))) (var 1 ⊗ (var 0 ⊗ ((var 2 ⊗ var 3) ⊕ (var 4 ⊗ var 5)))) refl in
    let q : N *ℤ (n *ℤ ((l *ℤ c) +ℤ (k *ℤ v))) ≡ n *ℤ (N *ℤ ((l *ℤ c) +ℤ (k *ℤ v))) = ring (N ∷ n ∷ l ∷ c ∷ k ∷ v ∷ []) (var 0 ⊗ (var 1 ⊗ ((var 2 ⊗ var 3) ⊕ (var 4 ⊗ var 5)))) (var 1 ⊗ (var 0 ⊗ ((var 2 ⊗ var 3) ⊕ (var 4 ⊗ var 5)))) refl in
    let h : l *ℤ ((n *ℤ a) +ℤ (m *ℤ u)) ≡ n *ℤ ((l *ℤ c) +ℤ (k *ℤ v)) = cancel_equal N _ _ pN (p ∙ ap (λ x. l *ℤ x) (sym e) ∙ g ∙ ap (λ x. n *ℤ x) f ∙ sym q) in
    let s : l *ℤ ((n *ℤ a) +ℤ (m *ℤ u)) ≡ (n *ℤ (l *ℤ a)) +ℤ (l *ℤ (m *ℤ u)) = ring (l ∷ n ∷ a ∷ m ∷ u ∷ []) (var 0 ⊗ ((var 1 ⊗ var 2) ⊕ (var 3 ⊗ var 4))) ((var 1 ⊗ (var 0 ⊗ var 2)) ⊕ (var 0 ⊗ (var 3 ⊗ var 4))) refl in
    let t : n *ℤ ((l *ℤ c) +ℤ (k *ℤ v)) ≡ (n *ℤ (l *ℤ a)) +ℤ ((n *ℤ (l *ℤ (c -ℤ a))) +ℤ (n *ℤ (k *ℤ v))) = ring (n ∷ l ∷ c ∷ k ∷ v ∷ a ∷ []) (var 0 ⊗ ((var 1 ⊗ var 2) ⊕ (var 3 ⊗ var 4))) ((var 0 ⊗ (var 1 ⊗ var 5)) ⊕ ((var 0 ⊗ (var 1 ⊗ (var 2 ⊖ var 5))) ⊕ (var 0 ⊗ (var 3 ⊗ var 4)))) refl in
    cancel_add _ _ _ (sym s ∙ h ∙ t)
  where
    cancel_add : (x y z : ℤ) → x +ℤ y ≡ x +ℤ z → y ≡ z
    cancel_add x y z e = omega (arith, linear)

-- l (m u) = n (l w) + n (k v) in both coordinates
module _ (m n k l ux uy vx vy wx wy : ℤ) (pn : pos 0 <ℤ n) (pl : pos 0 <ℤ l)
    (ex : l *ℤ (m *ℤ ux) ≡ (n *ℤ (l *ℤ wx)) +ℤ (n *ℤ (k *ℤ vx))) (ey : l *ℤ (m *ℤ uy) ≡ (n *ℤ (l *ℤ wy)) +ℤ (n *ℤ (k *ℤ vy))) where
  pub first_parameter : m *ℤ determinant ux uy vx vy ≡ n *ℤ determinant wx wy vx vy
  first_parameter =
      let p : l *ℤ (m *ℤ determinant ux uy vx vy) ≡ ((l *ℤ (m *ℤ ux)) *ℤ vy) -ℤ ((l *ℤ (m *ℤ uy)) *ℤ vx) = ring (l ∷ m ∷ ux ∷ uy ∷ vx ∷ vy ∷ [])
      (var 0 ⊗ (var 1 ⊗ ((var 2 ⊗ var 5) ⊖ (var 3 ⊗ var 4)))) (((var 0 ⊗ (var 1 ⊗ var 2)) ⊗ var 5) ⊖ ((var 0 ⊗ (var 1 ⊗ var 3)) ⊗ var 4)) refl in
      let q : (((n *ℤ (l *ℤ wx)) +ℤ (n *ℤ (k *ℤ vx))) *ℤ vy) -ℤ (((n *ℤ (l *ℤ wy)) +ℤ (n *ℤ (k *ℤ vy))) *ℤ vx) ≡ l *ℤ (n *ℤ determinant wx wy vx vy) = ring (l ∷ n ∷ k ∷ wx ∷ wy ∷ vx ∷ vy ∷ [])
      ((((var 1 ⊗ (var 0 ⊗ var 3)) ⊕ (var 1 ⊗ (var 2 ⊗ var 5))) ⊗ var 6) ⊖ (((var 1 ⊗ (var 0 ⊗ var 4)) ⊕ (var 1 ⊗ (var 2 ⊗ var 6))) ⊗ var 5))
      (var 0 ⊗ (var 1 ⊗ ((var 3 ⊗ var 6) ⊖ (var 4 ⊗ var 5)))) refl in
      cancel_equal l _ _ pl (p ∙ ap (λ x. (x *ℤ vy) -ℤ ((l *ℤ (m *ℤ uy)) *ℤ vx)) ex ∙ ap (λ y. (((n *ℤ (l *ℤ wx)) +ℤ (n *ℤ (k *ℤ vx))) *ℤ vy) -ℤ (y *ℤ vx)) ey ∙ q)

  pub second_parameter : k *ℤ determinant ux uy vx vy ≡ l *ℤ determinant wx wy ux uy
  second_parameter =
      let fx : n *ℤ (k *ℤ vx) ≡ (l *ℤ (m *ℤ ux)) -ℤ (n *ℤ (l *ℤ wx)) = omega (arith, linear) in
      let fy : n *ℤ (k *ℤ vy) ≡ (l *ℤ (m *ℤ uy)) -ℤ (n *ℤ (l *ℤ wy)) = omega (arith, linear) in
      let p : n *ℤ (k *ℤ determinant ux uy vx vy) ≡ (ux *ℤ (n *ℤ (k *ℤ vy))) -ℤ (uy *ℤ (n *ℤ (k *ℤ vx))) = ring (n ∷ k ∷ ux ∷ uy ∷ vx ∷ vy ∷ [])
      (var 0 ⊗ (var 1 ⊗ ((var 2 ⊗ var 5) ⊖ (var 3 ⊗ var 4)))) ((var 2 ⊗ (var 0 ⊗ (var 1 ⊗ var 5))) ⊖ (var 3 ⊗ (var 0 ⊗ (var 1 ⊗ var 4)))) refl in
      let q : (ux *ℤ ((l *ℤ (m *ℤ uy)) -ℤ (n *ℤ (l *ℤ wy)))) -ℤ (uy *ℤ ((l *ℤ (m *ℤ ux)) -ℤ (n *ℤ (l *ℤ wx)))) ≡ n *ℤ (l *ℤ determinant wx wy ux uy) = ring (n ∷ l ∷ m ∷ ux ∷ uy ∷ wx ∷ wy ∷ [])
      ((var 3 ⊗ ((var 1 ⊗ (var 2 ⊗ var 4)) ⊖ (var 0 ⊗ (var 1 ⊗ var 6)))) ⊖ (var 4 ⊗ ((var 1 ⊗ (var 2 ⊗ var 3)) ⊖ (var 0 ⊗ (var 1 ⊗ var 5)))))
      (var 0 ⊗ (var 1 ⊗ ((var 5 ⊗ var 4) ⊖ (var 6 ⊗ var 3)))) refl in
      cancel_equal n _ _ pn (p ∙ ap (λ y. (ux *ℤ y) -ℤ (uy *ℤ (n *ℤ (k *ℤ vx)))) fy ∙ ap (λ x. (ux *ℤ ((l *ℤ (m *ℤ uy)) -ℤ (n *ℤ (l *ℤ wy)))) -ℤ (uy *ℤ x)) fx ∙ q)

-- ---- the law: det, e and f are the determinants, all turned round where the first is negative

-- m D = n E has 0 ≤ E ≤ D
pub fraction_within : (m n det e : ℤ) → pos 0 <ℤ n → pos 0 <ℤ det → pos 0 ≤ℤ m → m ≤ℤ n → m *ℤ det ≡ n *ℤ e → (pos 0 ≤ℤ e) × (e ≤ℤ det)
fraction_within m n det e pn pd lo hi h =
    let a : pos 0 ≤ℤ (n *ℤ e) = rw (← h) (mul_nonneg m det lo (weak _ _ pd)) in
    let g : n *ℤ (det -ℤ e) ≡ (n *ℤ det) -ℤ (n *ℤ e) = gap_factor n e det in
    let k : (n *ℤ det) -ℤ (m *ℤ det) ≡ (n -ℤ m) *ℤ det = ring (n ∷ m ∷ det ∷ []) ((var 0 ⊗ var 2) ⊖ (var 1 ⊗ var 2)) ((var 0 ⊖ var 1) ⊗ var 2) refl in
    let b : pos 0 ≤ℤ (n *ℤ (det -ℤ e)) = rw (g, ← h, k) (mul_nonneg (n -ℤ m) det (gap_is _ _ hi) (weak _ _ pd)) in
    (cancel_nonneg n e pn a, from_gap _ _ (cancel_nonneg n _ pn b))

-- z / N = a + (m / n) u and m / n = e / det, so z / N = (det a + e u) / det
pub over_det : (N z a u m n det e : ℤ) → pos 0 <ℤ n → n *ℤ z ≡ N *ℤ ((n *ℤ a) +ℤ (m *ℤ u)) → m *ℤ det ≡ n *ℤ e → N *ℤ ((det *ℤ a) +ℤ (e *ℤ u)) ≡ det *ℤ z
over_det N z a u m n det e pn h g =
    let p : n *ℤ (N *ℤ ((det *ℤ a) +ℤ (e *ℤ u))) ≡ (N *ℤ (det *ℤ (n *ℤ a))) +ℤ (N *ℤ ((n *ℤ e) *ℤ u)) = ring (n ∷ N ∷ det ∷ a ∷ e ∷ u ∷ []) (var 0 ⊗ (var 1 ⊗ ((var 2 ⊗ var 3) ⊕ (var 4 ⊗ var 5)))) ((var 1 ⊗ (var 2 ⊗ (var 0 ⊗ var 3))) ⊕ (var 1 ⊗ ((var 0 ⊗ var 4) ⊗ var 5))) refl in
    let q : (N *ℤ (det *ℤ (n *ℤ a))) +ℤ (N *ℤ ((m *ℤ det) *ℤ u)) ≡ det *ℤ (N *ℤ ((n *ℤ a) +ℤ (m *ℤ u))) = ring (n ∷ N ∷ det ∷ a ∷ m ∷ u ∷ []) ((var 1 ⊗ (var 2 ⊗ (var 0 ⊗ var 3))) ⊕ (var 1 ⊗ ((var 4 ⊗ var 2) ⊗ var 5))) (var 2 ⊗ (var 1 ⊗ ((var 0 ⊗ var 3) ⊕ (var 4 ⊗ var 5)))) refl in
    let r : det *ℤ (n *ℤ z) ≡ n *ℤ (det *ℤ z) = ring (det ∷ n ∷ z ∷ []) (var 0 ⊗ (var 1 ⊗ var 2)) (var 1 ⊗ (var 0 ⊗ var 2)) refl in
    cancel_equal n _ _ pn (p ∙ ap (λ x. (N *ℤ (det *ℤ (n *ℤ a))) +ℤ (N *ℤ (x *ℤ u))) (sym g) ∙ q ∙ ap (λ x. det *ℤ x) (sym h) ∙ r)

-- the determinants of the points (1, 2), (3, 4), (5, 6) and (7, 8), and Cramer's rule in one of their coordinates
abbrev whole : Term
whole = ((var 3 ⊖ var 1) ⊗ (var 8 ⊖ var 6)) ⊖ ((var 4 ⊖ var 2) ⊗ (var 7 ⊖ var 5))

abbrev along_first : Term
along_first = ((var 5 ⊖ var 1) ⊗ (var 8 ⊖ var 6)) ⊖ ((var 6 ⊖ var 2) ⊗ (var 7 ⊖ var 5))

abbrev along_second : Term
along_second = ((var 5 ⊖ var 1) ⊗ (var 4 ⊖ var 2)) ⊖ ((var 6 ⊖ var 2) ⊗ (var 3 ⊖ var 1))

abbrev place : Term → Term → Term → Term
place start end along = ((var 0 ⊗ whole) ⊗ start) ⊕ ((var 0 ⊗ along) ⊗ (end ⊖ start))

same_place_x : (s ax ay bx by cx cy dx dy : ℤ) →
    ((s *ℤ determinant (bx -ℤ ax) (by -ℤ ay) (dx -ℤ cx) (dy -ℤ cy)) *ℤ ax) +ℤ ((s *ℤ determinant (cx -ℤ ax) (cy -ℤ ay) (dx -ℤ cx) (dy -ℤ cy)) *ℤ (bx -ℤ ax))
    ≡ ((s *ℤ determinant (bx -ℤ ax) (by -ℤ ay) (dx -ℤ cx) (dy -ℤ cy)) *ℤ cx) +ℤ ((s *ℤ determinant (cx -ℤ ax) (cy -ℤ ay) (bx -ℤ ax) (by -ℤ ay)) *ℤ (dx -ℤ cx))
same_place_x s ax ay bx by cx cy dx dy = ring (s ∷ ax ∷ ay ∷ bx ∷ by ∷ cx ∷ cy ∷ dx ∷ dy ∷ []) (place (var 1) (var 3) along_first) (place (var 5) (var 7) along_second) refl

same_place_y : (s ax ay bx by cx cy dx dy : ℤ) →
    ((s *ℤ determinant (bx -ℤ ax) (by -ℤ ay) (dx -ℤ cx) (dy -ℤ cy)) *ℤ ay) +ℤ ((s *ℤ determinant (cx -ℤ ax) (cy -ℤ ay) (dx -ℤ cx) (dy -ℤ cy)) *ℤ (by -ℤ ay))
    ≡ ((s *ℤ determinant (bx -ℤ ax) (by -ℤ ay) (dx -ℤ cx) (dy -ℤ cy)) *ℤ cy) +ℤ ((s *ℤ determinant (cx -ℤ ax) (cy -ℤ ay) (bx -ℤ ax) (by -ℤ ay)) *ℤ (dy -ℤ cy))
same_place_y s ax ay bx by cx cy dx dy = ring (s ∷ ax ∷ ay ∷ bx ∷ by ∷ cx ∷ cy ∷ dx ∷ dy ∷ []) (place (var 2) (var 4) along_first) (place (var 6) (var 8) along_second) refl

apart : (s d det : ℤ) → pos 0 <ℤ det → det ≡ s *ℤ d → d ≢ pos 0
apart s d det p e z = positive_is_not_zero (s *ℤ d) (rw (← e) p) (ap (λ x. s *ℤ x) z ∙ ring (s ∷ []) (var 0 ⊗ num (pos 0)) (num (pos 0)) refl)

turned : (s m n d e det e' : ℤ) → det ≡ s *ℤ d → e' ≡ s *ℤ e → m *ℤ d ≡ n *ℤ e → m *ℤ det ≡ n *ℤ e'
turned s m n d e det e' p q h = rw (p, q) (ring (m ∷ s ∷ d ∷ []) (var 0 ⊗ (var 1 ⊗ var 2)) (var 1 ⊗ (var 0 ⊗ var 2)) refl ∙ ap (λ x. s *ℤ x) h ∙ ring (s ∷ n ∷ e ∷ []) (var 0 ⊗ (var 1 ⊗ var 2)) (var 1 ⊗ (var 0 ⊗ var 2)) refl)

module _ (s t : Seg) (g det e f : ℤ) (pd : pos 0 <ℤ det) (det_is : det ≡ g *ℤ turn s.a s.b t.a t.b) (e_is : e ≡ g *ℤ turn s.a t.a t.a t.b) (f_is : f ≡ g *ℤ turn s.a t.a s.a s.b) (p : Pt) where
  pub crosses : CrossesAt s.a s.b det e f p → CrossIn s t p
  crosses h =
      let z = point_along s.a s.b det e pd in
      record {
        not_parallel = apart g _ det pd det_is;
        z = z;
        on_first = (e, det, record { ratio = record { positive = pd; from = h.e_low; to = h.e_high }; x_is = refl; y_is = refl });
        on_second = (
          f,
          det,
          record {
            ratio = record { positive = pd; from = h.f_low; to = h.f_high };
            x_is = ap (λ x. det *ℤ x) (rw (det_is, e_is, f_is) (same_place_x g s.a.x s.a.y s.b.x s.b.y t.a.x t.a.y t.b.x t.b.y));
            y_is = ap (λ x. det *ℤ x) (rw (det_is, e_is, f_is) (same_place_y g s.a.x s.a.y s.b.x s.b.y t.a.x t.a.y t.b.x t.b.y));
          },
        );
        in_pixel = same_point (pixel z) p h.x_is h.y_is;
      }

  pub crossing_at : CrossIn s t p → CrossesAt s.a s.b det e f p
  crossing_at h = by_parameters h.z h.on_first.0 h.on_first.1 h.on_second.0 h.on_second.1 h.on_first.2 h.on_second.2 h.in_pixel
    where
      by_parameters : (z : Point) (m n k l : ℤ) → IsAt s.a s.b m n z → IsAt t.a t.b k l z → pixel z ≡ p → CrossesAt s.a s.b det e f p
      by_parameters z m n k l i j in_pixel =
          let ex = common z.n z.x s.a.x (s.b.x -ℤ s.a.x) t.a.x (t.b.x -ℤ t.a.x) m n k l z.positive i.x_is j.x_is in
          let ey = common z.n z.y s.a.y (s.b.y -ℤ s.a.y) t.a.y (t.b.y -ℤ t.a.y) m n k l z.positive i.y_is j.y_is in
          let first : m *ℤ det ≡ n *ℤ e = turned g _ _ _ _ _ _ det_is e_is (first_parameter m n k l _ _ _ _ _ _ i.ratio.positive j.ratio.positive ex ey) in
          let second : k *ℤ det ≡ l *ℤ f = turned g _ _ _ _ _ _ det_is f_is (second_parameter m n k l _ _ _ _ _ _ i.ratio.positive j.ratio.positive ex ey) in
          let we = fraction_within m n det e i.ratio.positive pd i.ratio.from i.ratio.to first in
          let wf = fraction_within k l det f j.ratio.positive pd j.ratio.from j.ratio.to second in
          let px : nearest z.x z.n ≡ p.x = ap (λ (q : Pt). q.x) in_pixel in
          let py : nearest z.y z.n ≡ p.y = ap (λ (q : Pt). q.y) in_pixel in
          record {
            e_low = we.0;
            e_high = we.1;
            f_low = wf.0;
            f_high = wf.1;
            x_is = nearest-unique _ det p.x pd (IsNearest-scaled z.x z.n _ det p.x z.positive pd (over_det z.n z.x s.a.x (s.b.x -ℤ s.a.x) m n det e i.ratio.positive i.x_is first) (subst (λ (q : ℤ). IsNearest z.x z.n q) px (nearest-is z.x z.n z.positive)));
            y_is = nearest-unique _ det p.y pd (IsNearest-scaled z.y z.n _ det p.y z.positive pd (over_det z.n z.y s.a.y (s.b.y -ℤ s.a.y) m n det e i.ratio.positive i.y_is first) (subst (λ (q : ℤ). IsNearest z.y z.n q) py (nearest-is z.y z.n z.positive)));
          }
