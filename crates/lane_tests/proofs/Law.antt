-- What the lanes compute of an edge is what is said of it.
use Rattle.std.proofs.Common.{◌≡◌, ℕ, ◌+◌, ◌*◌, ◌%◌, ◌^◌, ◌≤◌, take, drop, cond, Bool, true, false, ◌&&◌, ◌||◌, List, [], ◌∷◌, get_or, length, map, refl, sym, ap, ◌∙◌, arith, ℤ, pos, ◌+ℤ◌, ◌-ℤ◌, ◌*ℤ◌}
use Rattle.std.proofs.lemmas.Int.{ints, by_lt_z, unsigned_abs-mul}
use Rattle.std.proofs.lemmas.Nat.{mul-le}
use Rattle.std.proofs.lemmas.List.Sums.{sum_by-cons}
use Rattle.std.proofs.lemmas.List.{take_all}
use Rattle.std.specs.List.{range_with_len, count_by}
use Rattle.std.specs.Prelude.{◌<ℤ◌, ◌≤ℤ◌, int_lt, int_le, unsigned_abs, ◌==◌}
use Rattle.geom.specs.Limit.{IsWithin, coordinate_limit}
use Rattle.lane_tests.specs.Columns.{Ends, pair_at, pairs_of, nowhere}
use Rattle.lane_tests.proofs.Lanes.{by_number}
use Rattle.lane_tests.proofs.PairLists.{length-pairs_of, get_or-pairs_of}
use Rattle.lane_tests.proofs.Ends.{difference_abs, direction_abs}
use Rattle.geom.specs.Parity.{parity}
use Rattle.geom.specs.declared.edge.Edge.{Edge}
use Rattle.lane_tests.specs.Edges.{ends}
use Rattle.lane_tests.specs.Probe.{IsProbe, point_of}
use Rattle.lane_tests.specs.Above.{AreEnds, HasRoom, IsFloor, counting, is_above, is_over, offset_at, run_at}
use Rattle.lane_tests.specs.declared.points.Probe.{Probe}
use Rattle.geom.proofs.Identity.{var, num, ◌⊕◌, ◌⊖◌, ◌⊗◌, ring}
use Rattle.geom.proofs.Tests.{lt_yes, lt_no, le_yes, le_no}

same_lt : (a b x y : ℤ) → (a <ℤ b → x <ℤ y) → (b ≤ℤ a → y ≤ℤ x) → int_lt a b ≡ int_lt x y
same_lt a b x y f g = by_lt_z a b (λ h. lt_yes a b h ∙ sym (lt_yes x y (f h))) (λ h. lt_no a b h ∙ sym (lt_no x y (g h)))

same_le : (a b x y : ℤ) → (a ≤ℤ b → x ≤ℤ y) → (b <ℤ a → y <ℤ x) → int_le a b ≡ int_le x y
same_le a b x y f g = by_lt_z b a (λ h. le_no a b h ∙ sym (le_no x y (g h))) (λ h. le_yes a b h ∙ sym (le_yes x y (f h)))

-- ---- columns
covers_low_in : (a c x2 dx : ℤ) → IsWithin (2 ^ 29) dx → IsFloor c x2 dx → a ≤ℤ c → (pos (2 ^ 64) *ℤ a) ≤ℤ ((pos (2 ^ 63) *ℤ x2) +ℤ dx)
covers_low_in a c x2 dx w f h = by_lt_z dx (pos 0) (λ n. let k = f.left n in omega (arith, ints, k.0)) (λ n. let k = f.not_left n in omega (arith, ints, k.0))

covers_low_out : (a c x2 dx : ℤ) → IsWithin (2 ^ 29) dx → IsFloor c x2 dx → c <ℤ a → ((pos (2 ^ 63) *ℤ x2) +ℤ dx) <ℤ (pos (2 ^ 64) *ℤ a)
covers_low_out a c x2 dx w f h = by_lt_z dx (pos 0) (λ n. let k = f.left n in omega (arith, ints, k.1)) (λ n. let k = f.not_left n in omega (arith, ints, k.1))

covers_low : (a c x2 dx : ℤ) → IsWithin (2 ^ 29) dx → IsFloor c x2 dx → int_le a c ≡ int_le (pos (2 ^ 64) *ℤ a) ((pos (2 ^ 63) *ℤ x2) +ℤ dx)
covers_low a c x2 dx w f = same_le _ _ _ _ (covers_low_in a c x2 dx w f) (covers_low_out a c x2 dx w f)

covers_high : (a c x2 dx : ℤ) → IsWithin (2 ^ 29) dx → IsFloor c x2 dx → int_lt c a ≡ int_lt ((pos (2 ^ 63) *ℤ x2) +ℤ dx) (pos (2 ^ 64) *ℤ a)
covers_high a c x2 dx w f = same_lt _ _ _ _ (covers_low_out a c x2 dx w f) (covers_low_in a c x2 dx w f)

-- ---- above
gap : (px py rx ry x2 y2 dx dy : ℤ) →
    (ry *ℤ (((pos (2 ^ 63) *ℤ x2) +ℤ dx) -ℤ (pos (2 ^ 64) *ℤ px))) -ℤ (rx *ℤ (((pos (2 ^ 63) *ℤ y2) +ℤ dy) -ℤ (pos (2 ^ 64) *ℤ py)))
    ≡ (pos (2 ^ 63) *ℤ ((ry *ℤ (x2 -ℤ (px +ℤ px))) -ℤ (rx *ℤ (y2 -ℤ (py +ℤ py))))) +ℤ ((ry *ℤ dx) -ℤ (rx *ℤ dy))
gap px py rx ry x2 y2 dx dy =
    let PX = var 0 in let PY = var 1 in let RX = var 2 in let RY = var 3 in let SX = var 4 in let SY = var 5 in let DX = var 6 in let DY = var 7 in
    let K = num (pos (2 ^ 64)) in let H = num (pos (2 ^ 63)) in
    ring (px ∷ py ∷ rx ∷ ry ∷ x2 ∷ y2 ∷ dx ∷ dy ∷ [])
    ((RY ⊗ (((H ⊗ SX) ⊕ DX) ⊖ (K ⊗ PX))) ⊖ (RX ⊗ (((H ⊗ SY) ⊕ DY) ⊖ (K ⊗ PY))))
    ((H ⊗ ((RY ⊗ (SX ⊖ (PX ⊕ PX))) ⊖ (RX ⊗ (SY ⊖ (PY ⊕ PY))))) ⊕ ((RY ⊗ DX) ⊖ (RX ⊗ DY))) refl

-- u and v are the two sides at the midpoint, s and t along the direction, f and g at the point
decides : (u v s t f g : ℤ) → IsWithin (2 ^ 60) (t -ℤ s) → (g -ℤ f) ≡ (pos (2 ^ 63) *ℤ (v -ℤ u)) +ℤ (t -ℤ s) → int_lt u v || (int_le u v && int_lt s t) ≡ int_lt f g
decides u v s t f g w e = by_lt_z u v
    (λ h. rw (lt_yes u v h) (sym (lt_yes f g (strictly u v s t f g w e h))))
    (λ h. rw (lt_no u v h) (by_lt_z v u
    (λ k. rw (le_no u v k) (sym (lt_no f g (below u v s t f g w e k))))
    (λ k. rw (le_yes u v k) (same_lt s t f g (tied_in u v s t f g w e h k) (tied_out u v s t f g w e h k)))))
  where
    strictly : (u v s t f g : ℤ) → IsWithin (2 ^ 60) (t -ℤ s) → (g -ℤ f) ≡ (pos (2 ^ 63) *ℤ (v -ℤ u)) +ℤ (t -ℤ s) → u <ℤ v → f <ℤ g
    strictly u v s t f g w e h = omega (arith, ints)

    below : (u v s t f g : ℤ) → IsWithin (2 ^ 60) (t -ℤ s) → (g -ℤ f) ≡ (pos (2 ^ 63) *ℤ (v -ℤ u)) +ℤ (t -ℤ s) → v <ℤ u → g ≤ℤ f
    below u v s t f g w e h = omega (arith, ints)

    tied_in : (u v s t f g : ℤ) → IsWithin (2 ^ 60) (t -ℤ s) → (g -ℤ f) ≡ (pos (2 ^ 63) *ℤ (v -ℤ u)) +ℤ (t -ℤ s) → v ≤ℤ u → u ≤ℤ v → s <ℤ t → f <ℤ g
    tied_in u v s t f g w e h k l = omega (arith, ints)

    tied_out : (u v s t f g : ℤ) → IsWithin (2 ^ 60) (t -ℤ s) → (g -ℤ f) ≡ (pos (2 ^ 63) *ℤ (v -ℤ u)) +ℤ (t -ℤ s) → v ≤ℤ u → u ≤ℤ v → t ≤ℤ s → g ≤ℤ f
    tied_out u v s t f g w e h k l = omega (arith, ints)

-- ---- both
below_zero : (u v : ℤ) → int_lt u v ≡ int_lt (u -ℤ v) (pos 0)
below_zero u v = same_lt u v (u -ℤ v) (pos 0) (less u v) (not_less u v)
  where
    less : (u v : ℤ) → u <ℤ v → (u -ℤ v) <ℤ pos 0
    less u v h = omega (arith, ints)

    not_less : (u v : ℤ) → v ≤ℤ u → pos 0 ≤ℤ (u -ℤ v)
    not_less u v h = omega (arith, ints)

product_within : (a b : ℤ) → unsigned_abs a ≤ 2 ^ 29 → unsigned_abs b ≤ 2 ^ 29 → unsigned_abs (a *ℤ b) ≤ 2 ^ 58
product_within a b h k = rw (unsigned_abs-mul a b) (mul-le (unsigned_abs a) (unsigned_abs b) (2 ^ 29) (2 ^ 29) h k)

apart_within : (s t : ℤ) → unsigned_abs s ≤ 2 ^ 58 → unsigned_abs t ≤ 2 ^ 58 → IsWithin (2 ^ 60) (t -ℤ s)
apart_within s t h k = record { low = omega (arith, ints); high = omega (arith, ints) }

pub above_is : (ls bs rs ts : List ℤ) (h : AreEnds ls bs rs ts) (column : ℤ) (z : Probe) → HasRoom z → IsFloor column z.x2 z.dx → (k : ℕ)
    → is_above ls bs rs ts column z k ≡ is_over (pair_at ls bs rs ts k) (point_of z)
above_is ls bs rs ts h column z w f k =
    let px = get_or ls k (pos 0) in
    let py = get_or bs k (pos 0) in
    let rx = run_at ls rs k in
    let ry = run_at bs ts k in
    let a = difference_abs (get_or rs k (pos 0)) px (h.near k).2 (h.near k).0 in
    let b = difference_abs (get_or ts k (pos 0)) py (h.near k).3 (h.near k).1 in
    let s = product_within rx z.dy a (direction_abs z.dy w.dy) in
    let t = product_within ry z.dx b (direction_abs z.dx w.dx) in
    let low = covers_low px column z.x2 z.dx w.dx f in
    let high = covers_high (get_or rs k (pos 0)) column z.x2 z.dx w.dx f in
    let up = decides (rx *ℤ offset_at bs z.y2 k) (ry *ℤ offset_at ls z.x2 k) (rx *ℤ z.dy) (ry *ℤ z.dx) (rx *ℤ (((pos (2 ^ 63) *ℤ z.y2) +ℤ z.dy) -ℤ (pos (2 ^ 64) *ℤ py))) (ry *ℤ (((pos (2 ^ 63) *ℤ z.x2) +ℤ z.dx) -ℤ (pos (2 ^ 64) *ℤ px))) (apart_within (rx *ℤ z.dy) (ry *ℤ z.dx) s t) (gap px py rx ry z.x2 z.y2 z.dx z.dy) in
    (λ i. (low i && high i) && up i) ∙ (λ i. (int_le (pos (2 ^ 64) *ℤ px) (point_of z).x && int_lt (point_of z).x (pos (2 ^ 64) *ℤ get_or rs k (pos 0))) && below_zero (rx *ℤ ((point_of z).y -ℤ (pos (2 ^ 64) *ℤ py))) (ry *ℤ ((point_of z).x -ℤ (pos (2 ^ 64) *ℤ px))) i)

count_map : {X Y : Type 0} (p : Y → Bool) (f : X → Y) (xs : List X) → count_by p (map f xs) ≡ count_by (λ x. p (f x)) xs
count_map p f [] = refl
count_map p f (x ∷ xs) = sum_by-cons (λ y. cond (p y) 1 0) (f x) (map f xs) ∙ ap (λ n. cond (p (f x)) 1 0 + n) (count_map p f xs) ∙ sym (sum_by-cons (λ x. cond (p (f x)) 1 0) x xs)

pub counted : (p : Ends → Bool) (boxes : List Ends) → count_by p boxes ≡ counting (λ k. p (get_or boxes k nowhere)) 0 (length boxes)
unfolding counting
counted p boxes =
    let e : take (length boxes) (drop 0 boxes) ≡ boxes = take_all (length boxes) boxes (omega arith) in
    ap (count_by p) (sym e ∙ by_number boxes 0 (length boxes) nowhere (omega arith)) ∙ count_map p (λ k. get_or boxes k nowhere) (range_with_len 0 (length boxes))

-- the parity from the count of the lanes
parity_is : (edges : List Edge) (pairs : List Ends) → map ends edges ≡ pairs → (ls bs rs ts : List ℤ) (h : AreEnds ls bs rs ts) → pairs_of ls bs rs ts ≡ pairs → (column : ℤ) (z : Probe) → HasRoom z → IsFloor column z.x2 z.dx
    → (n : ℕ) → n ≡ counting (is_above ls bs rs ts column z) 0 (length ls) → n % 2 == 1 ≡ parity edges (point_of z)
parity_is edges pairs d ls bs rs ts h e column z w f n m =
    let p : Ends → Bool = λ e. is_over e (point_of z) in
    let c = h.columns in
    let l = length-pairs_of ls bs rs ts c.bottom_len c.right_len c.top_len in
    let r : (k : ℕ) → is_above ls bs rs ts column z k ≡ p (get_or (pairs_of ls bs rs ts) k nowhere) = λ k. above_is ls bs rs ts h column z w f k ∙ ap p (sym (get_or-pairs_of ls bs rs ts k c.bottom_len c.right_len c.top_len)) in
    ap (λ n. n % 2 == 1) (m ∙ (λ i. counting (λ k. r k i) 0 (sym l i)) ∙ sym (counted p (pairs_of ls bs rs ts)) ∙ ap (count_by p) (e ∙ sym d) ∙ count_map p ends edges)

pub by_slices : (edges : List Edge) (pairs : List Ends) → map ends edges ≡ pairs → (ls bs rs ts ls' bs' rs' ts' : List ℤ) → AreEnds ls bs rs ts → pairs_of ls bs rs ts ≡ pairs → ls' ≡ ls → bs' ≡ bs → rs' ≡ rs → ts' ≡ ts
    → (column : ℤ) (z : Probe) → HasRoom z → IsFloor column z.x2 z.dx → (n : ℕ) → n ≡ counting (is_above ls' bs' rs' ts' column z) 0 (length ls') → n % 2 == 1 ≡ parity edges (point_of z)
by_slices edges pairs d ls bs rs ts ls' bs' rs' ts' h e p q r s column z w f n m =
    parity_is edges pairs d ls bs rs ts h e column z w f n (m ∙ (λ i. counting (is_above (p i) (q i) (r i) (s i) column z) 0 (length (p i))))

-- ---- room in the lanes
room : (z : ℤ) → IsWithin (2 * coordinate_limit) z → IsWithin (2 ^ 29) z
room z h = record { low = omega (arith, ints, h.low); high = omega (arith, ints, h.high) }

pub probe_room : (z : Probe) → IsProbe z → HasRoom z
probe_room z h = record { x2 = room z.x2 h.x2; y2 = room z.y2 h.y2; dx = room z.dx h.dx; dy = room z.dy h.dy }
