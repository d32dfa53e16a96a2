use Rattle.std.proofs.Common.{◌≡◌, ◌^◌, w32, w64, FitsSigned, to_z, of_z, to_z-of_z, lit<, arith, [], ◌∷◌, refl, ◌∙◌}
use Rattle.std.proofs.Math.IntN.{ℤ, pos, neg_ℤ, ◌+ℤ◌, ◌-ℤ◌, ◌*ℤ◌}
use Rattle.std.specs.Prelude.{◌≤ℤ◌}
use Rattle.std.specs.Int.{w128}
use Rattle.std.proofs.lemmas.Int.{ints}
use Rattle.geom.specs.Limit.{IsQuotientWithin, IsWithin, coordinate_limit}
use Rattle.geom.proofs.Integers.{linear, mul_nonneg}
use Rattle.geom.proofs.Bounds.{within_room, product_within, difference_within, fits_64, fits_128}
use Rattle.geom.proofs.Identity.{var, ◌⊕◌, ◌⊖◌, ◌⊗◌, ring}
use Rattle.geom.proofs.Numbers.{gap_is, from_gap}
use Rattle.crossing.proofs.common_point.numerator_at.Goals as goal

first_is : (det start s r : ℤ) → IsWithin (2 ^ 59) det → IsWithin (2 ^ 28) start → s ≡ to_z w32 (of_z w32 start) → r ≡ to_z w64 (of_z w64 det) *ℤ to_z w64 (of_z w64 s) → r ≡ det *ℤ start
first_is det start s r h k e f =
    let a : FitsSigned w64 det = fits_64 _ det (lit< tt) h in
    let b : FitsSigned w64 start = fits_64 _ start (lit< tt) k in
    let d : FitsSigned w32 start = omega (arith, ints) in
    let e' : s ≡ start = e ∙ to_z-of_z d in
    simp to_z-of_z at (rw e' at f)

rest_is : (det e start end d r : ℤ) → IsWithin (2 ^ 59) det → pos 0 ≤ℤ e → e ≤ℤ det → IsWithin (2 ^ 28) start → IsWithin (2 ^ 28) end → d ≡ to_z w32 (of_z w32 end) -ℤ to_z w32 (of_z w32 start) → r ≡ to_z w64 (of_z w64 e) *ℤ to_z w64 (of_z w64 d) → r ≡ e *ℤ (end -ℤ start)
rest_is det e start end d r h lo hi k j p q =
    let a : FitsSigned w64 e = omega (arith, ints) in
    let b : FitsSigned w32 start = omega (arith, ints) in
    let c : FitsSigned w32 end = omega (arith, ints) in
    let f : FitsSigned w64 (end -ℤ start) = fits_64 _ (end -ℤ start) (lit< tt) (difference_within (2 ^ 28) (2 ^ 28) end start j k) in
    let p' : d ≡ end -ℤ start = simp to_z-of_z at p in
    simp to_z-of_z at (rw p' at q)

above : (det e s t l : ℤ) → ((det *ℤ s) +ℤ (e *ℤ (t -ℤ s))) -ℤ (det *ℤ l) ≡ ((det -ℤ e) *ℤ (s -ℤ l)) +ℤ (e *ℤ (t -ℤ l))
above det e s t l = ring (det ∷ e ∷ s ∷ t ∷ l ∷ []) (((var 0 ⊗ var 2) ⊕ (var 1 ⊗ (var 3 ⊖ var 2))) ⊖ (var 0 ⊗ var 4)) (((var 0 ⊖ var 1) ⊗ (var 2 ⊖ var 4)) ⊕ (var 1 ⊗ (var 3 ⊖ var 4))) refl

below : (det e s t l : ℤ) → (det *ℤ l) -ℤ ((det *ℤ s) +ℤ (e *ℤ (t -ℤ s))) ≡ ((det -ℤ e) *ℤ (l -ℤ s)) +ℤ (e *ℤ (l -ℤ t))
below det e s t l = ring (det ∷ e ∷ s ∷ t ∷ l ∷ []) ((var 0 ⊗ var 4) ⊖ ((var 0 ⊗ var 2) ⊕ (var 1 ⊗ (var 3 ⊖ var 2)))) (((var 0 ⊖ var 1) ⊗ (var 4 ⊖ var 2)) ⊕ (var 1 ⊗ (var 4 ⊖ var 3))) refl

sum_nonneg : (x y : ℤ) → pos 0 ≤ℤ x → pos 0 ≤ℤ y → pos 0 ≤ℤ (x +ℤ y)
sum_nonneg x y h k = omega (arith, linear)

inside : (det e s t : ℤ) → pos 0 ≤ℤ e → e ≤ℤ det → IsWithin coordinate_limit s → IsWithin coordinate_limit t
    → ((det *ℤ neg_ℤ (pos coordinate_limit)) ≤ℤ ((det *ℤ s) +ℤ (e *ℤ (t -ℤ s)))) × (((det *ℤ s) +ℤ (e *ℤ (t -ℤ s))) ≤ℤ (det *ℤ pos coordinate_limit))
inside det e s t lo hi h k = (
  from_gap _ _ (rw (above det e s t (neg_ℤ (pos coordinate_limit))) (sum_nonneg _ _ (mul_nonneg (det -ℤ e) _ (gap_is _ _ hi) (omega (arith, ints))) (mul_nonneg e _ lo (omega (arith, ints))))),
  from_gap _ _ (rw (below det e s t (pos coordinate_limit)) (sum_nonneg _ _ (mul_nonneg (det -ℤ e) _ (gap_is _ _ hi) (omega (arith, ints))) (mul_nonneg e _ lo (omega (arith, ints))))),
)

sum_fits : (det x y u v : ℤ) → IsWithin (2 ^ 59) det → IsWithin (2 ^ 87) x → (u ≡ x) × (v ≡ y) → ((det *ℤ neg_ℤ (pos coordinate_limit)) ≤ℤ (x +ℤ y)) × ((x +ℤ y) ≤ℤ (det *ℤ pos coordinate_limit))
    → FitsSigned w128 (to_z w128 (of_z w128 u) +ℤ to_z w128 (of_z w128 v)) × (to_z w128 (of_z w128 (to_z w128 (of_z w128 u) +ℤ to_z w128 (of_z w128 v))) ≡ x +ℤ y)
sum_fits det x y u v h k e b =
    let f : FitsSigned w128 x = fits_128 _ x (lit< tt) k in
    let g : FitsSigned w128 y = omega (arith, ints) in
    let s : FitsSigned w128 (x +ℤ y) = omega (arith, ints) in
    (rw (e.0, e.1) (simp to_z-of_z s), rw (e.0, e.1) (simp to_z-of_z))

all : (det e start end s d r q : ℤ) → IsWithin (2 ^ 59) det → pos 0 ≤ℤ e → e ≤ℤ det → IsWithin coordinate_limit start → IsWithin coordinate_limit end
    → s ≡ to_z w32 (of_z w32 start) → d ≡ to_z w32 (of_z w32 end) -ℤ to_z w32 (of_z w32 start)
    → r ≡ to_z w64 (of_z w64 det) *ℤ to_z w64 (of_z w64 s) → q ≡ to_z w64 (of_z w64 e) *ℤ to_z w64 (of_z w64 d)
    → FitsSigned w128 (to_z w128 (of_z w128 r) +ℤ to_z w128 (of_z w128 q)) × (to_z w128 (of_z w128 (to_z w128 (of_z w128 r) +ℤ to_z w128 (of_z w128 q))) ≡ (det *ℤ start) +ℤ (e *ℤ (end -ℤ start)))
all det e start end s d r q h lo hi j k a b f g =
    let j' = within_room start j in
    let k' = within_room end k in
    sum_fits det (det *ℤ start) (e *ℤ (end -ℤ start)) r q h (product_within (2 ^ 59) (2 ^ 28) det start h j') (first_is det start s r h j' a f, rest_is det e start end d q h lo hi j' k' b g) (inside det e start end lo hi j k)

pub overflow_add-result : goal.overflow_add-result
overflow_add-result c = (all c.args.det c.args.e c.args.start c.args.end _ _ _ _ c.requires.det_small c.requires.low c.requires.high c.requires.start_in c.requires.end_in c.from.ensures c.difference.ensures c.wide_product-first.ensures c.wide_product-rest.ensures).0

sum_is : (r x : ℤ) → r ≡ x → (det : ℤ) → (det *ℤ neg_ℤ (pos coordinate_limit)) ≤ℤ x → x ≤ℤ (det *ℤ pos coordinate_limit) → IsQuotientWithin coordinate_limit r det
sum_is r x e det h k = rw e (record { low = h; high = k })

pub returns-clause-value : goal.returns-clause-value
returns-clause-value c = (all c.args.det c.args.e c.args.start c.args.end _ _ _ _ c.requires.det_small c.requires.low c.requires.high c.requires.start_in c.requires.end_in c.from.ensures c.difference.ensures c.wide_product-first.ensures c.wide_product-rest.ensures).1

pub returns-clause-within : goal.returns-clause-within
returns-clause-within c =
    let b = inside c.args.det c.args.e c.args.start c.args.end c.requires.low c.requires.high c.requires.start_in c.requires.end_in in
    sum_is _ _ (all c.args.det c.args.e c.args.start c.args.end _ _ _ _ c.requires.det_small c.requires.low c.requires.high c.requires.start_in c.requires.end_in c.from.ensures c.difference.ensures c.wide_product-first.ensures c.wide_product-rest.ensures).1 c.args.det b.0 b.1
