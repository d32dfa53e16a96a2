-- Lines that stand in one order at two borders have no point in common between them.
use Rattle.std.proofs.Common.{◌≡◌, ◌⊎◌, ◌^◌, ◌+◌, ◌-◌, ◌*◌, ◌<◌, ◌≤◌, ℕ, zero, suc, inl, inr, List, [], ◌∷◌, ◌++◌, Bool, true, false, refl, sym, ◌∙◌, ap, arith, subst, get_or, length, take, ⊎_elim}
use Rattle.std.proofs.Math.IntN.{ℤ, pos, negsuc, ◌+ℤ◌, ◌-ℤ◌, ◌*ℤ◌}
use Rattle.std.specs.Prelude.{◌<ℤ◌, ◌≤ℤ◌, neg_ℤ, All, AllPairs, Contains, ◌&&◌, ◌||◌, not, int_le, int_lt}
use borrow.Author.Differences.{up, down}
use Rattle.std.specs.Int.{int_div_euclid}
use Rattle.std.specs.List.{AllAdjacentBelow, IsDistinct}
use Rattle.std.specs.List.Sorted.{IsPermutation}
use Rattle.std.proofs.lemmas.Int.{ints}
use Rattle.std.proofs.lemmas.List.{take_more}
use Rattle.std.proofs.lemmas.List.Elements.{All-contains, All-from_recursion, All-push}
use Rattle.std.proofs.lemmas.List.Sorted.{IsPermutation-sym}
use Rattle.std.proofs.lemmas.Map.Keys.{IsDistinct-IsPermutation, IsDistinct-from_apart, IsDistinct-head, IsDistinct-tail}
use Rattle.geom.specs.declared.point.Pt.{Pt}
use Rattle.geom.specs.declared.edge.Edge.{Edge}
use Rattle.geom.specs.declared.segment.Seg.{Seg}
use Rattle.geom.specs.Hot.{CrossIn}
use Rattle.geom.specs.Order.{IsBefore}
use Rattle.geom.specs.OnSegment.{IsOn}
use Rattle.geom.specs.Pixel.{Point}
use Rattle.geom.specs.Limit.{AreInLimit, InLimit, IsWithin, coordinate_limit}
use Rattle.geom.proofs.Edges.{edge_path, before_strict}
use Rattle.geom.proofs.Integers.{linear, mul_comm, mul_nonneg, mul_pos, by_sign, scale_le, scale_lt, unscale_le, unscale_lt, unscale_eq}
use Rattle.geom.proofs.Identity.{var, num, ◌⊕◌, ◌⊖◌, ◌⊗◌, ring}
use Rattle.geom.proofs.Pixels.{in_pixel}
use Rattle.geom.proofs.Points.{and_both, both_and, or_either}
use Rattle.geom.proofs.Numbers.{gap_is, weak, zero_is_nonneg, le_lt, le_le, strict_gap_is, positive_is_not_zero, lt_lt}
use Rattle.geom.proofs.Tests.{le_told, le_yes, lt_told, lt_yes}
use Rattle.geom.proofs.Nearest.{quotient-parts}
use Rattle.hot_region.proofs.CrossingLaws.{cross_turn}
use Rattle.hot_region.specs.declared.bundle.Course.{Course}
use Rattle.hot_region.specs.declared.bundle.Course.TheVariants.{Columns, Rows}
use Rattle.hot_region.specs.declared.bundle.Strand.{Strand}
use Rattle.hot_region.specs.declared.lines.Line.{Line}
use Rattle.hot_region.specs.Bundle.{exchanged, height, seen_point, AreStrands, AscendsTo, HasNoHot, IsFloor, IsFollowedBy, IsQuotient, IsSame, IsSeen, IsStrand, IsStrandSeen, RunsThrough, RunsThroughSeen}
use Rattle.hot_region.specs.Halving.{edges_of, HasHotInside, IsHotFor}
use Rattle.hot_region.specs.Lines.{CrossAt, IsLine}
use Rattle.hot_region.proofs.HalvingLaws.{line_at}
use Rattle.hot_region.proofs.LineLaws.{segment_of, segment_line, cross_at}
use Rattle.hot_region.proofs.ListLaws.{from_cons, here, in_cons, none_in}

-- ---- numbers
sum_pos : (z x y : ℤ) → z ≡ x +ℤ y → pos 0 <ℤ x → pos 0 ≤ℤ y → pos 0 <ℤ z
sum_pos z x y e h k = omega (arith, linear)

upward : (a b h x n : ℤ) → (n *ℤ a) +ℤ (x *ℤ b) ≡ (n *ℤ (a +ℤ (h *ℤ b))) +ℤ ((x -ℤ (n *ℤ h)) *ℤ b)
upward a b h x n = ring (a ∷ b ∷ h ∷ x ∷ n ∷ []) ((var 4 ⊗ var 0) ⊕ (var 3 ⊗ var 1)) ((var 4 ⊗ (var 0 ⊕ (var 2 ⊗ var 1))) ⊕ ((var 3 ⊖ (var 4 ⊗ var 2)) ⊗ var 1)) refl

downward : (a b k x n : ℤ) → (n *ℤ a) +ℤ (x *ℤ b) ≡ (n *ℤ (a +ℤ (k *ℤ b))) +ℤ (((n *ℤ k) -ℤ x) *ℤ (pos 0 -ℤ b))
downward a b k x n = ring (a ∷ b ∷ k ∷ x ∷ n ∷ []) ((var 4 ⊗ var 0) ⊕ (var 3 ⊗ var 1)) ((var 4 ⊗ (var 0 ⊕ (var 2 ⊗ var 1))) ⊕ (((var 4 ⊗ var 2) ⊖ var 3) ⊗ (num (pos 0) ⊖ var 1))) refl

-- what is linear, and positive at h and at k, is positive at x / n between them
pub between : (a b h k x n : ℤ) → pos 0 <ℤ n → (n *ℤ h) ≤ℤ x → x ≤ℤ (n *ℤ k) → pos 0 <ℤ (a +ℤ (h *ℤ b)) → pos 0 <ℤ (a +ℤ (k *ℤ b)) → pos 0 <ℤ ((n *ℤ a) +ℤ (x *ℤ b))
between a b h k x n p l r at_h at_k = by_sign b
    (λ s. sum_pos _ _ _ (downward a b k x n) (mul_pos n _ p at_k) (mul_nonneg _ _ (gap_is _ _ r) (gap_is b (pos 0) (weak b (pos 0) s))))
    (λ s. sum_pos _ _ _ (upward a b h x n) (mul_pos n _ p at_h) (mul_nonneg _ _ (gap_is _ _ l) (zero_is_nonneg b s)))
    (λ s. sum_pos _ _ _ (upward a b h x n) (mul_pos n _ p at_h) (mul_nonneg _ _ (gap_is _ _ l) (weak (pos 0) b s)))

-- of two quotients with different floors the one with the lesser floor is less
pub floors_order : (h r k h' r' k' : ℤ) → pos 0 <ℤ r → pos 0 <ℤ r' → IsFloor h r k → IsFloor h' r' k' → k <ℤ k' → (h *ℤ r') <ℤ (h' *ℤ r)
floors_order h r k h' r' k' p p' f f' less = unscale_lt (h *ℤ r') (h' *ℤ r) parts (chain (r' *ℤ (h *ℤ parts)) _ _ (r *ℤ (h' *ℤ parts)) _ _ _ _ below middle from first second third fourth) (omega (arith, ints))
  where
    parts : ℤ
    parts = pos (2 ^ 60)

    below : (r' *ℤ (h *ℤ parts)) <ℤ (r' *ℤ (r *ℤ (k +ℤ pos 1)))
    below = scale_lt _ _ r' f.below p'

    next : (k k' : ℤ) → k <ℤ k' → (k +ℤ pos 1) ≤ℤ k'
    next k k' l = omega (arith, ints)

    middle : ((r *ℤ r') *ℤ (k +ℤ pos 1)) ≤ℤ ((r *ℤ r') *ℤ k')
    middle = scale_le _ _ (r *ℤ r') (next k k' less) (weak _ _ (mul_pos r r' p p'))

    from : (r *ℤ (r' *ℤ k')) ≤ℤ (r *ℤ (h' *ℤ parts))
    from = scale_le _ _ r f'.from (weak _ _ p)

    first : r' *ℤ (r *ℤ (k +ℤ pos 1)) ≡ (r *ℤ r') *ℤ (k +ℤ pos 1)
    first = ring (r ∷ r' ∷ k ∷ []) (var 1 ⊗ (var 0 ⊗ (var 2 ⊕ num (pos 1)))) ((var 0 ⊗ var 1) ⊗ (var 2 ⊕ num (pos 1))) refl

    second : (r *ℤ r') *ℤ k' ≡ r *ℤ (r' *ℤ k')
    second = ring (r ∷ r' ∷ k' ∷ []) ((var 0 ⊗ var 1) ⊗ var 2) (var 0 ⊗ (var 1 ⊗ var 2)) refl

    third : parts *ℤ (h *ℤ r') ≡ r' *ℤ (h *ℤ parts)
    third = moved parts h r'
      where
        moved : (s h r : ℤ) → s *ℤ (h *ℤ r) ≡ r *ℤ (h *ℤ s)
        moved s h r = ring (s ∷ h ∷ r ∷ []) (var 0 ⊗ (var 1 ⊗ var 2)) (var 2 ⊗ (var 1 ⊗ var 0)) refl

    fourth : parts *ℤ (h' *ℤ r) ≡ r *ℤ (h' *ℤ parts)
    fourth = moved parts h' r
      where
        moved : (s h r : ℤ) → s *ℤ (h *ℤ r) ≡ r *ℤ (h *ℤ s)
        moved s h r = ring (s ∷ h ∷ r ∷ []) (var 0 ⊗ (var 1 ⊗ var 2)) (var 2 ⊗ (var 1 ⊗ var 0)) refl

    chain : (a b c d e g u v : ℤ) → a <ℤ b → c ≤ℤ e → g ≤ℤ d → b ≡ c → e ≡ g → u ≡ a → v ≡ d → u <ℤ v
    chain a b c d e g u v x y z i j m n = omega (arith, linear)

-- ---- quotients, rounded down

quotient_from_parts : (a q : ℤ) (k : ℕ) → (up q * k + down a ≤ down q * k + up a) × (down q * k + up a < up q * k + down a + k) → IsQuotient a (pos k) q
quotient_from_parts a q k u = record { from = first q k a u.0; below = subst (λ x. a <ℤ x) (sym (next (pos k) q)) (second q k a u.1) }
  where
    next : (r q : ℤ) → r *ℤ (q +ℤ pos 1) ≡ (r *ℤ q) +ℤ r
    next r q = ring (r ∷ q ∷ []) (var 0 ⊗ (var 1 ⊕ num (pos 1))) ((var 0 ⊗ var 1) ⊕ var 0) refl

    first : (q : ℤ) (k : ℕ) (a : ℤ) → up q * k + down a ≤ down q * k + up a → (pos k *ℤ q) ≤ℤ a
    first q k a u = omega (arith, ints)

    second : (q : ℤ) (k : ℕ) (a : ℤ) → down q * k + up a < up q * k + down a + k → a <ℤ ((pos k *ℤ q) +ℤ pos k)
    second q k a u = omega (arith, ints)

pub quotient_is : (a r : ℤ) → pos 0 <ℤ r → IsQuotient a r (int_div_euclid a r)
quotient_is a (pos k) p = quotient_from_parts a (int_div_euclid a (pos k)) k (quotient-parts a k (omega (arith, ints)))
quotient_is a (negsuc k) p = absurd (omega (arith, ints))

-- what is left of a number behind its quotient
pub left_over : (a r q p : ℤ) → IsQuotient a r q → p ≡ q *ℤ r → (pos 0 ≤ℤ (a -ℤ p)) × ((a -ℤ p) <ℤ r)
left_over a r q p f e = both a r p _ _ (mul_comm r q) (next r q) e f.from f.below
  where
    next : (r q : ℤ) → r *ℤ (q +ℤ pos 1) ≡ (q *ℤ r) +ℤ r
    next r q = ring (r ∷ q ∷ []) (var 0 ⊗ (var 1 ⊕ num (pos 1))) ((var 1 ⊗ var 0) ⊕ var 0) refl

    both : (a r p x y : ℤ) {z : ℤ} → x ≡ z → y ≡ z +ℤ r → p ≡ z → x ≤ℤ a → a <ℤ y → (pos 0 ≤ℤ (a -ℤ p)) × ((a -ℤ p) <ℤ r)
    both a r p x y e f g h k = (omega (arith, linear), omega (arith, linear))

-- the quotient of a number by a positive one is no farther from zero
pub quotient_small : (a r q : ℤ) → pos 0 <ℤ r → IsWithin (2 ^ 60) a → IsQuotient a r q → IsWithin (2 ^ 60) q
quotient_small a r q p w f = record { low = least q (unscale_lt (neg_ℤ (pos (2 ^ 60))) (q +ℤ pos 1) r (le_lt _ _ _ (low a r p w.low) f.below) (weak _ _ p)); high = unscale_le q (pos (2 ^ 60)) r (le_le _ _ _ f.from (high a r p w.high)) p }
  where
    low : (a r : ℤ) → pos 0 <ℤ r → neg_ℤ (pos (2 ^ 60)) ≤ℤ a → (r *ℤ neg_ℤ (pos (2 ^ 60))) ≤ℤ a
    low a r p l = omega (arith, ints)

    high : (a r : ℤ) → pos 0 <ℤ r → a ≤ℤ pos (2 ^ 60) → a ≤ℤ (r *ℤ pos (2 ^ 60))
    high a r p h = omega (arith, ints)

    least : (q : ℤ) → neg_ℤ (pos (2 ^ 60)) <ℤ (q +ℤ pos 1) → neg_ℤ (pos (2 ^ 60)) ≤ℤ q
    least q l = omega (arith, ints)

-- three quotients, each of what the one before left, are one
pub three_quotients : (h r a b c x y z : ℤ) → pos 0 <ℤ r → h ≡ (r *ℤ a) +ℤ x → x *ℤ pos (2 ^ 30) ≡ (r *ℤ b) +ℤ y → y *ℤ pos (2 ^ 30) ≡ (r *ℤ c) +ℤ z → pos 0 ≤ℤ z → z <ℤ r → IsFloor h r ((((a *ℤ pos (2 ^ 30)) +ℤ b) *ℤ pos (2 ^ 30)) +ℤ c)
three_quotients h r a b c x y z p u v w from below = record { from = least h x y z _ _ _ (spread r a b c) u v w from; below = most h x y z r _ _ _ _ (spread r a b c) (next r ((((a *ℤ pos (2 ^ 30)) +ℤ b) *ℤ pos (2 ^ 30)) +ℤ c)) u v w below }
  where
    spread : (r a b c : ℤ) → r *ℤ ((((a *ℤ pos (2 ^ 30)) +ℤ b) *ℤ pos (2 ^ 30)) +ℤ c) ≡ (((r *ℤ a) *ℤ pos (2 ^ 60)) +ℤ ((r *ℤ b) *ℤ pos (2 ^ 30))) +ℤ (r *ℤ c)
    spread r a b c = ring (r ∷ a ∷ b ∷ c ∷ []) (var 0 ⊗ ((((var 1 ⊗ num (pos (2 ^ 30))) ⊕ var 2) ⊗ num (pos (2 ^ 30))) ⊕ var 3)) ((((var 0 ⊗ var 1) ⊗ num (pos (2 ^ 60))) ⊕ ((var 0 ⊗ var 2) ⊗ num (pos (2 ^ 30)))) ⊕ (var 0 ⊗ var 3)) refl

    next : (r q : ℤ) → r *ℤ (q +ℤ pos 1) ≡ (r *ℤ q) +ℤ r
    next r q = ring (r ∷ q ∷ []) (var 0 ⊗ (var 1 ⊕ num (pos 1))) ((var 0 ⊗ var 1) ⊕ var 0) refl

    least : (h x y z a b c : ℤ) {n : ℤ} → n ≡ ((a *ℤ pos (2 ^ 60)) +ℤ (b *ℤ pos (2 ^ 30))) +ℤ c → h ≡ a +ℤ x → x *ℤ pos (2 ^ 30) ≡ b +ℤ y → y *ℤ pos (2 ^ 30) ≡ c +ℤ z → pos 0 ≤ℤ z → n ≤ℤ (h *ℤ pos (2 ^ 60))
    least h x y z a b c e u v w k = omega (arith, ints)

    most : (h x y z r a b c n : ℤ) → n ≡ ((a *ℤ pos (2 ^ 60)) +ℤ (b *ℤ pos (2 ^ 30))) +ℤ c → {m : ℤ} → m ≡ n +ℤ r → h ≡ a +ℤ x → x *ℤ pos (2 ^ 30) ≡ b +ℤ y → y *ℤ pos (2 ^ 30) ≡ c +ℤ z → z <ℤ r → (h *ℤ pos (2 ^ 60)) <ℤ m
    most h x y z r a b c n e g u v w k = omega (arith, ints)

-- ---- heights with the same number of parts
module _ (h r h' r' k : ℤ) (p : pos 0 <ℤ r) (p' : pos 0 <ℤ r') (small : r ≤ℤ pos (2 ^ 30)) (small' : r' ≤ℤ pos (2 ^ 30)) (f : IsFloor h r k) (f' : IsFloor h' r' k) where
  floors_near : (h *ℤ r') <ℤ (h' *ℤ r) → ⊥
  floors_near less = chain _ _ _ _ _ _ _ _ _ (scale_le _ _ (pos (2 ^ 60)) (next _ _ less) (omega (arith, ints))) (spread (pos (2 ^ 60)) (h *ℤ r')) (moved (pos (2 ^ 60)) h r') (moved (pos (2 ^ 60)) h' r) (scale_lt _ _ r f'.below p) (apart r r' k) (scale_le _ _ r' f.from (weak _ _ p')) (le_le _ _ _ (scale_le _ _ r small' (weak _ _ p)) (area r small))
    where
      next : (x y : ℤ) → x <ℤ y → (x +ℤ pos 1) ≤ℤ y
      next x y l = omega (arith, ints)

      spread : (n x : ℤ) → n *ℤ (x +ℤ pos 1) ≡ (n *ℤ x) +ℤ n
      spread n x = ring (n ∷ x ∷ []) (var 0 ⊗ (var 1 ⊕ num (pos 1))) ((var 0 ⊗ var 1) ⊕ var 0) refl

      moved : (n h r : ℤ) → n *ℤ (h *ℤ r) ≡ r *ℤ (h *ℤ n)
      moved n h r = ring (n ∷ h ∷ r ∷ []) (var 0 ⊗ (var 1 ⊗ var 2)) (var 2 ⊗ (var 1 ⊗ var 0)) refl

      apart : (r s k : ℤ) → r *ℤ (s *ℤ (k +ℤ pos 1)) ≡ (s *ℤ (r *ℤ k)) +ℤ (r *ℤ s)
      apart r s k = ring (r ∷ s ∷ k ∷ []) (var 0 ⊗ (var 1 ⊗ (var 2 ⊕ num (pos 1)))) ((var 1 ⊗ (var 0 ⊗ var 2)) ⊕ (var 0 ⊗ var 1)) refl

      area : (r : ℤ) → r ≤ℤ pos (2 ^ 30) → (r *ℤ pos (2 ^ 30)) ≤ℤ pos (2 ^ 60)
      area r l = omega (arith, ints)

      chain : (a b c d e g m n u : ℤ) → a ≤ℤ b → a ≡ c +ℤ n → c ≡ d → b ≡ e → e <ℤ g → g ≡ m +ℤ u → m ≤ℤ d → u ≤ℤ n → ⊥
      chain a b c d e g m n u x y z i j k v w = omega (arith, linear)

-- heights that have the same number of parts are equal
pub floors_equal : (h r h' r' k : ℤ) → pos 0 <ℤ r → pos 0 <ℤ r' → r ≤ℤ pos (2 ^ 30) → r' ≤ℤ pos (2 ^ 30) → IsFloor h r k → IsFloor h' r' k → h *ℤ r' ≡ h' *ℤ r
floors_equal h r h' r' k p p' small small' f f' = by_sign ((h *ℤ r') -ℤ (h' *ℤ r))
    (λ l. absurd (floors_near h r h' r' k p p' small small' f f' (below (h *ℤ r') (h' *ℤ r) l)))
    (λ e. same (h *ℤ r') (h' *ℤ r) e)
    (λ l. absurd (floors_near h' r' h r k p' p small' small f' f (above (h *ℤ r') (h' *ℤ r) l)))
  where
    below : (x y : ℤ) → (x -ℤ y) <ℤ pos 0 → x <ℤ y
    below x y l = omega (arith, linear)

    above : (x y : ℤ) → pos 0 <ℤ (x -ℤ y) → y <ℤ x
    above x y l = omega (arith, linear)

    same : (x y : ℤ) → (x -ℤ y) ≡ pos 0 → x ≡ y
    same x y e = omega (arith, linear)

-- ---- a point on a line
product_of : (n zy zn py dx m dy : ℤ) → n *ℤ zy ≡ zn *ℤ ((n *ℤ py) +ℤ (m *ℤ dy)) → n *ℤ ((zy -ℤ (zn *ℤ py)) *ℤ dx) ≡ zn *ℤ (m *ℤ (dy *ℤ dx))
product_of n zy zn py dx m dy h =
    ring (n ∷ zy ∷ zn ∷ py ∷ dx ∷ []) (var 0 ⊗ ((var 1 ⊖ (var 2 ⊗ var 3)) ⊗ var 4)) (((var 0 ⊗ var 1) ⊖ (var 0 ⊗ (var 2 ⊗ var 3))) ⊗ var 4) refl
    ∙ ap (λ w. (w -ℤ (n *ℤ (zn *ℤ py))) *ℤ dx) h
    ∙ ring (n ∷ zn ∷ py ∷ dx ∷ m ∷ dy ∷ []) (((var 1 ⊗ ((var 0 ⊗ var 2) ⊕ (var 4 ⊗ var 5))) ⊖ (var 0 ⊗ (var 1 ⊗ var 2))) ⊗ var 3) (var 1 ⊗ (var 4 ⊗ (var 5 ⊗ var 3))) refl

-- the equation of the line from p to q, at z on it
pub on_line : (p q : Pt) (z : Point) → IsOn p q z → (z.y -ℤ (z.n *ℤ p.y)) *ℤ (q.x -ℤ p.x) ≡ (z.x -ℤ (z.n *ℤ p.x)) *ℤ (q.y -ℤ p.y)
on_line p q z (m, n, h) =
    unscale_eq _ _ n
    (product_of n z.y z.n p.y (q.x -ℤ p.x) m (q.y -ℤ p.y) h.y_is ∙ ap (λ w. z.n *ℤ (m *ℤ w)) (mul_comm (q.y -ℤ p.y) (q.x -ℤ p.x)) ∙ sym (product_of n z.x z.n p.x (q.y -ℤ p.y) m (q.x -ℤ p.x) h.x_is))
    h.ratio.positive

-- twice the height over 0, times the run
abbrev pub base : Edge → ℤ
base e = ((e.q.x -ℤ e.p.x) *ℤ (e.p.y +ℤ e.p.y)) -ℤ ((e.q.y -ℤ e.p.y) *ℤ (e.p.x +ℤ e.p.x))

height_is : (e f : Edge) (b : ℤ) → ((base f *ℤ (e.q.x -ℤ e.p.x)) -ℤ (base e *ℤ (f.q.x -ℤ f.p.x))) +ℤ (b *ℤ (((f.q.y -ℤ f.p.y) *ℤ (e.q.x -ℤ e.p.x)) -ℤ ((e.q.y -ℤ e.p.y) *ℤ (f.q.x -ℤ f.p.x))))
    ≡ (height f b *ℤ (e.q.x -ℤ e.p.x)) -ℤ (height e b *ℤ (f.q.x -ℤ f.p.x))
height_is e f b = lines (e.q.x -ℤ e.p.x) (e.q.y -ℤ e.p.y) e.p.x e.p.y (f.q.x -ℤ f.p.x) (f.q.y -ℤ f.p.y) f.p.x f.p.y b
  where
    lines : (r d x y s g u v b : ℤ) → ((((s *ℤ (v +ℤ v)) -ℤ (g *ℤ (u +ℤ u))) *ℤ r) -ℤ (((r *ℤ (y +ℤ y)) -ℤ (d *ℤ (x +ℤ x))) *ℤ s)) +ℤ (b *ℤ ((g *ℤ r) -ℤ (d *ℤ s)))
        ≡ (((s *ℤ (v +ℤ v)) -ℤ (g *ℤ ((u +ℤ u) -ℤ b))) *ℤ r) -ℤ (((r *ℤ (y +ℤ y)) -ℤ (d *ℤ ((x +ℤ x) -ℤ b))) *ℤ s)
    lines r d x y s g u v b = ring (r ∷ d ∷ x ∷ y ∷ s ∷ g ∷ u ∷ v ∷ b ∷ [])
        (((((var 4 ⊗ (var 7 ⊕ var 7)) ⊖ (var 5 ⊗ (var 6 ⊕ var 6))) ⊗ var 0) ⊖ (((var 0 ⊗ (var 3 ⊕ var 3)) ⊖ (var 1 ⊗ (var 2 ⊕ var 2))) ⊗ var 4)) ⊕ (var 8 ⊗ ((var 5 ⊗ var 0) ⊖ (var 1 ⊗ var 4))))
        ((((var 4 ⊗ (var 7 ⊕ var 7)) ⊖ (var 5 ⊗ ((var 6 ⊕ var 6) ⊖ var 8))) ⊗ var 0) ⊖ (((var 0 ⊗ (var 3 ⊕ var 3)) ⊖ (var 1 ⊗ ((var 2 ⊕ var 2) ⊖ var 8))) ⊗ var 4)) refl

-- twice the height of z, by the line that it is on
pub doubled : (r d x y zx zy n : ℤ) → (zy -ℤ (n *ℤ y)) *ℤ r ≡ (zx -ℤ (n *ℤ x)) *ℤ d → (n *ℤ ((r *ℤ (y +ℤ y)) -ℤ (d *ℤ (x +ℤ x)))) +ℤ ((zx +ℤ zx) *ℤ d) ≡ r *ℤ (zy +ℤ zy)
doubled r d x y zx zy n h =
    ring (r ∷ d ∷ x ∷ y ∷ zx ∷ zy ∷ n ∷ []) ((var 6 ⊗ ((var 0 ⊗ (var 3 ⊕ var 3)) ⊖ (var 1 ⊗ (var 2 ⊕ var 2)))) ⊕ ((var 4 ⊕ var 4) ⊗ var 1)) ((num (pos 2) ⊗ (var 6 ⊗ (var 0 ⊗ var 3))) ⊕ (num (pos 2) ⊗ ((var 4 ⊖ (var 6 ⊗ var 2)) ⊗ var 1))) refl
    ∙ ap (λ w. (pos 2 *ℤ (n *ℤ (r *ℤ y))) +ℤ (pos 2 *ℤ w)) (sym h)
    ∙ ring (r ∷ y ∷ zy ∷ n ∷ []) ((num (pos 2) ⊗ (var 3 ⊗ (var 0 ⊗ var 1))) ⊕ (num (pos 2) ⊗ ((var 2 ⊖ (var 3 ⊗ var 1)) ⊗ var 0))) (var 0 ⊗ (var 2 ⊕ var 2)) refl

on_both : (a r d c s g x y n : ℤ) → (n *ℤ a) +ℤ (x *ℤ d) ≡ r *ℤ y → (n *ℤ c) +ℤ (x *ℤ g) ≡ s *ℤ y → (n *ℤ ((c *ℤ r) -ℤ (a *ℤ s))) +ℤ (x *ℤ ((g *ℤ r) -ℤ (d *ℤ s))) ≡ pos 0
on_both a r d c s g x y n h k =
    ring (a ∷ r ∷ d ∷ c ∷ s ∷ g ∷ x ∷ n ∷ []) ((var 7 ⊗ ((var 3 ⊗ var 1) ⊖ (var 0 ⊗ var 4))) ⊕ (var 6 ⊗ ((var 5 ⊗ var 1) ⊖ (var 2 ⊗ var 4)))) ((((var 7 ⊗ var 3) ⊕ (var 6 ⊗ var 5)) ⊗ var 1) ⊖ (((var 7 ⊗ var 0) ⊕ (var 6 ⊗ var 2)) ⊗ var 4)) refl
    ∙ ap (λ w. (w *ℤ r) -ℤ (((n *ℤ a) +ℤ (x *ℤ d)) *ℤ s)) k
    ∙ ap (λ w. ((s *ℤ y) *ℤ r) -ℤ (w *ℤ s)) h
    ∙ ring (r ∷ s ∷ y ∷ []) (((var 1 ⊗ var 2) ⊗ var 0) ⊖ ((var 0 ⊗ var 2) ⊗ var 1)) (num (pos 0)) refl

-- ---- two lines that stand in one order at both borders
pub run_positive : (low high x p q : ℤ) → p <ℤ low → high <ℤ q → low ≤ℤ x → x ≤ℤ high → pos 0 <ℤ (q -ℤ p)
run_positive low high x p q a b c d = omega (arith, linear)

pub left_of : (n low x z : ℤ) → pos 0 <ℤ n → low ≤ℤ x → (n *ℤ ((pos 2 *ℤ x) -ℤ pos 1)) ≤ℤ (pos 2 *ℤ z) → (n *ℤ ((low +ℤ low) -ℤ pos 1)) ≤ℤ (z +ℤ z)
left_of n low x z p l h = join _ _ z (scale_le ((low +ℤ low) -ℤ pos 1) ((pos 2 *ℤ x) -ℤ pos 1) n (apart low x l) (weak _ _ p)) h
  where
    apart : (low x : ℤ) → low ≤ℤ x → ((low +ℤ low) -ℤ pos 1) ≤ℤ ((pos 2 *ℤ x) -ℤ pos 1)
    apart low x l = omega (arith, ints)

    join : (a b z : ℤ) → a ≤ℤ b → b ≤ℤ (pos 2 *ℤ z) → a ≤ℤ (z +ℤ z)
    join a b z i j = omega (arith, ints)

pub right_of : (n high x z : ℤ) → pos 0 <ℤ n → x ≤ℤ high → (pos 2 *ℤ z) <ℤ (n *ℤ ((pos 2 *ℤ x) +ℤ pos 1)) → (z +ℤ z) ≤ℤ (n *ℤ ((high +ℤ high) +ℤ pos 1))
right_of n high x z p l h = join _ _ z (scale_le ((pos 2 *ℤ x) +ℤ pos 1) ((high +ℤ high) +ℤ pos 1) n (apart high x l) (weak _ _ p)) h
  where
    apart : (high x : ℤ) → x ≤ℤ high → ((pos 2 *ℤ x) +ℤ pos 1) ≤ℤ ((high +ℤ high) +ℤ pos 1)
    apart high x l = omega (arith, ints)

    join : (a b z : ℤ) → a ≤ℤ b → (pos 2 *ℤ z) <ℤ a → (z +ℤ z) ≤ℤ b
    join a b z i j = omega (arith, ints)

module _ (low high : ℤ) (e f : Edge) (s t : Strand) (c : Pt) (l : low ≤ℤ c.x) (r : c.x ≤ℤ high) (es : IsStrand low high e s) (ft : IsStrand low high f t) where
  below_at : (b k k' : ℤ) → IsFloor (height e b) (e.q.x -ℤ e.p.x) k → IsFloor (height f b) (f.q.x -ℤ f.p.x) k' → k <ℤ k'
      → pos 0 <ℤ (((base f *ℤ (e.q.x -ℤ e.p.x)) -ℤ (base e *ℤ (f.q.x -ℤ f.p.x))) +ℤ (b *ℤ (((f.q.y -ℤ f.p.y) *ℤ (e.q.x -ℤ e.p.x)) -ℤ ((e.q.y -ℤ e.p.y) *ℤ (f.q.x -ℤ f.p.x)))))
  below_at b k k' u v less = subst (λ w. pos 0 <ℤ w) (sym (height_is e f b)) (strict_gap_is _ _ (floors_order _ _ _ _ _ _ (run_positive low high c.x e.p.x e.q.x es.through.from es.through.to l r) (run_positive low high c.x f.p.x f.q.x ft.through.from ft.through.to l r) u v less))

  never_cross : (u v : Seg) → u.a ≡ e.p → u.b ≡ e.q → v.a ≡ f.p → v.b ≡ f.q → AscendsTo s t → CrossIn u v c → ⊥
  never_cross u v ua ub va vb up h =
      let z = h.z in
      let on_e : IsOn e.p e.q z = subst (λ p. IsOn p e.q z) ua (subst (λ q. IsOn u.a q z) ub h.on_first) in
      let on_f : IsOn f.p f.q z = subst (λ p. IsOn p f.q z) va (subst (λ q. IsOn v.a q z) vb h.on_second) in
      let column = (in_pixel z c h.in_pixel).column in
      let at_e = doubled (e.q.x -ℤ e.p.x) (e.q.y -ℤ e.p.y) e.p.x e.p.y z.x z.y z.n (on_line e.p e.q z on_e) in
      let at_f = doubled (f.q.x -ℤ f.p.x) (f.q.y -ℤ f.p.y) f.p.x f.p.y z.x z.y z.n (on_line f.p f.q z on_f) in
      let nought = on_both (base e) (e.q.x -ℤ e.p.x) (e.q.y -ℤ e.p.y) (base f) (f.q.x -ℤ f.p.x) (f.q.y -ℤ f.p.y) (z.x +ℤ z.x) (z.y +ℤ z.y) z.n at_e at_f in
      positive_is_not_zero _ (between _ _ ((low +ℤ low) -ℤ pos 1) ((high +ℤ high) +ℤ pos 1) (z.x +ℤ z.x) z.n z.positive (left_of z.n low c.x z.x z.positive l column.from) (right_of z.n high c.x z.x z.positive r column.below) (below_at _ _ _ es.left ft.left up.left) (below_at _ _ _ es.right ft.right up.right)) nought

  pub same_at : (b k k' : ℤ) → IsFloor (height e b) (e.q.x -ℤ e.p.x) k → IsFloor (height f b) (f.q.x -ℤ f.p.x) k' → k ≡ k'
      → ((base f *ℤ (e.q.x -ℤ e.p.x)) -ℤ (base e *ℤ (f.q.x -ℤ f.p.x))) +ℤ (b *ℤ (((f.q.y -ℤ f.p.y) *ℤ (e.q.x -ℤ e.p.x)) -ℤ ((e.q.y -ℤ e.p.y) *ℤ (f.q.x -ℤ f.p.x)))) ≡ pos 0
  same_at b k k' u v is = height_is e f b ∙ gone _ _ (floors_equal _ _ _ _ k (run_positive low high c.x e.p.x e.q.x es.through.from es.through.to l r) (run_positive low high c.x f.p.x f.q.x ft.through.from ft.through.to l r) (run_small e es.within) (run_small f ft.within) u (subst (λ n. IsFloor (height f b) (f.q.x -ℤ f.p.x) n) (sym is) v))
    where
      gone : (x y : ℤ) → x ≡ y → y -ℤ x ≡ pos 0
      gone x y e = omega (arith, linear)

      run_small : (g : Edge) → AreInLimit g.p g.q → (g.q.x -ℤ g.p.x) ≤ℤ pos (2 ^ 30)
      run_small g h = small g.p.x g.q.x h.a_in.x_in h.b_in.x_in
        where
          small : (x y : ℤ) → IsWithin coordinate_limit x → IsWithin coordinate_limit y → (y -ℤ x) ≤ℤ pos (2 ^ 30)
          small x y h k = let a = h.low in let b = k.high in omega (arith, ints)

  -- two lines that have the same strand are parallel
  pub same_parallel : IsSame s t → ((e.q.x -ℤ e.p.x) *ℤ (f.q.y -ℤ f.p.y)) -ℤ ((e.q.y -ℤ e.p.y) *ℤ (f.q.x -ℤ f.p.x)) ≡ pos 0
  same_parallel h = ap (λ w. w -ℤ ((e.q.y -ℤ e.p.y) *ℤ (f.q.x -ℤ f.p.x))) (mul_comm (e.q.x -ℤ e.p.x) (f.q.y -ℤ f.p.y)) ∙ level _ _ _ _ (wide low high c.x l r) (same_at _ _ _ es.left ft.left h.left) (same_at _ _ _ es.right ft.right h.right)
    where
      wide : (low high x : ℤ) → low ≤ℤ x → x ≤ℤ high → pos 0 <ℤ (((high +ℤ high) +ℤ pos 1) -ℤ ((low +ℤ low) -ℤ pos 1))
      wide low high x a b = omega (arith, linear)

      -- what is linear and zero at two places has no slope
      level : (a b h k : ℤ) → pos 0 <ℤ (k -ℤ h) → a +ℤ (h *ℤ b) ≡ pos 0 → a +ℤ (k *ℤ b) ≡ pos 0 → b ≡ pos 0
      level a b h k p u v = unscale_eq b (pos 0) (k -ℤ h) (split a b h k ∙ ap (λ w. w -ℤ (a +ℤ (h *ℤ b))) v ∙ ap (λ w. pos 0 -ℤ w) u ∙ nought (k -ℤ h)) p
        where
          split : (a b h k : ℤ) → (k -ℤ h) *ℤ b ≡ (a +ℤ (k *ℤ b)) -ℤ (a +ℤ (h *ℤ b))
          split a b h k = ring (a ∷ b ∷ h ∷ k ∷ []) ((var 3 ⊖ var 2) ⊗ var 1) ((var 0 ⊕ (var 3 ⊗ var 1)) ⊖ (var 0 ⊕ (var 2 ⊗ var 1))) refl

          nought : (n : ℤ) → pos 0 -ℤ pos 0 ≡ n *ℤ pos 0
          nought n = ring (n ∷ []) (num (pos 0) ⊖ num (pos 0)) (var 0 ⊗ num (pos 0)) refl

  pub no_crossing : IsFollowedBy s t → CrossAt e f c → ⊥
  unfolding segment_of
  no_crossing (inl up) x = never_cross (segment_of e) (segment_of f) refl refl refl refl up (x.cross (segment_of e) (segment_of f) (segment_line e) (segment_line f))
  no_crossing (inr same) x = (x.cross (segment_of e) (segment_of f) (segment_line e) (segment_line f)).not_parallel (same_parallel same)

-- ---- lines as they are seen
pub seen_one : (course : Course) (e f g : Edge) → IsSeen course e f → IsSeen course e g → f ≡ g
seen_one Columns e f g h k = sym h ∙ k
seen_one Rows e f g (inl h) (inl k) = edge_path f g (h.0 ∙ sym k.0) (h.1 ∙ sym k.1)
seen_one Rows e f g (inr h) (inr k) = edge_path f g (h.0 ∙ sym k.0) (h.1 ∙ sym k.1)
seen_one Rows e f g (inl h) (inr k) = absurd (before_strict f.p f.q f.ordered (subst (λ p. IsBefore p f.p) (k.0 ∙ sym h.1) (subst (λ q. IsBefore g.p q) (k.1 ∙ sym h.0) g.ordered)))
seen_one Rows e f g (inr h) (inl k) = absurd (before_strict f.p f.q f.ordered (subst (λ p. IsBefore p f.p) (k.0 ∙ sym h.1) (subst (λ q. IsBefore g.p q) (k.1 ∙ sym h.0) g.ordered)))

pub runs_seen : (course : Course) (low high : ℤ) (e f : Edge) → IsSeen course e f → RunsThrough low high f → RunsThroughSeen course low high e
runs_seen course low high e f h r g k = subst (λ x. RunsThrough low high x) (seen_one course e f g h k) r

flip_limit : (p : Pt) → InLimit p → InLimit (exchanged p)
flip_limit p h = record { x_in = h.y_in; y_in = h.x_in }

pub seen_limit : (course : Course) (e f : Edge) → IsSeen course e f → AreInLimit e.p e.q → AreInLimit f.p f.q
seen_limit Columns e f h l = subst (λ (g : Edge). AreInLimit g.p g.q) h l
seen_limit Rows e f (inl h) l = record { a_in = subst (λ p. InLimit p) (sym h.0) (flip_limit e.p l.a_in); b_in = subst (λ p. InLimit p) (sym h.1) (flip_limit e.q l.b_in) }
seen_limit Rows e f (inr h) l = record { a_in = subst (λ p. InLimit p) (sym h.0) (flip_limit e.q l.b_in); b_in = subst (λ p. InLimit p) (sym h.1) (flip_limit e.p l.a_in) }

-- what holds of one more line
pub all_more : (P : Line → Type 0) (lines : List Line) (i : ℕ) (l : Line) → i < length lines → l ≡ get_or lines i l → All P (take i lines) → P l → All P (take (i + 1) lines)
all_more P lines i l below is h k = subst (λ (ls : List Line). All P ls) (sym (take_more lines i l below ∙ ap (λ (x : Line). take i lines ++ x ∷ []) (sym is))) (All-push P (take i lines) l h k)

pub flip : Seg → Seg
flip s = record { a = exchanged s.a; b = exchanged s.b; layer = s.layer; proper = λ h. s.proper (ap exchanged h) }

pub flip_cross : (s t : Seg) (c : Pt) → CrossIn s t c → CrossIn (flip s) (flip t) (exchanged c)
unfolding flip
flip_cross s t c h = record {
  not_parallel = λ q. h.not_parallel (turned ((s.b.x -ℤ s.a.x) *ℤ (t.b.y -ℤ t.a.y)) ((s.b.y -ℤ s.a.y) *ℤ (t.b.x -ℤ t.a.x)) q);
  z = record { x = h.z.y; y = h.z.x; n = h.z.n; positive = h.z.positive };
  on_first = flip_on s.a s.b h.z h.on_first;
  on_second = flip_on t.a t.b h.z h.on_second;
  in_pixel = ap exchanged h.in_pixel;
}
  where
    turned : (x y : ℤ) → y -ℤ x ≡ pos 0 → x -ℤ y ≡ pos 0
    turned x y q = omega (arith, linear)

    flip_on : (a b : Pt) (z : Point) → IsOn a b z → IsOn (exchanged a) (exchanged b) (record { x = z.y; y = z.x; n = z.n; positive = z.positive })
    flip_on a b z (m, n, k) = (m, n, record { ratio = k.ratio; x_is = k.y_is; y_is = k.x_is })

pub flip_line : (e f : Edge) → IsSeen Rows e f → IsLine f (flip (segment_of e))
unfolding flip segment_of
flip_line e f (inl h) = inl h
flip_line e f (inr h) = inr h

-- exchanged twice, the ends are those of before
pub flip_back : (e : Edge) → IsLine e (flip (flip (segment_of e)))
unfolding flip segment_of
flip_back e = inl (refl, refl)

pub cross_seen : (course : Course) (e f e' f' : Edge) (c : Pt) → IsSeen course e e' → IsSeen course f f' → CrossAt e f c → CrossAt e' f' (seen_point course c)
cross_seen Columns e f e' f' c h k x = subst (λ g. CrossAt g f' c) h (subst (λ g. CrossAt e g c) k x)
cross_seen Rows e f e' f' c h k x = cross_at e' f' (flip (segment_of e)) (flip (segment_of f)) (exchanged c) (flip_line e e' h) (flip_line f f' k) (flip_cross (segment_of e) (segment_of f) c (x.cross (segment_of e) (segment_of f) (segment_line e) (segment_line f)))

ends_seen : (course : Course) (e f : Edge) (c : Pt) → IsSeen course e f → (e.p ≡ c) ⊎ (e.q ≡ c) → (f.p ≡ seen_point course c) ⊎ (f.q ≡ seen_point course c)
ends_seen Columns e f c h k = subst (λ (g : Edge). (g.p ≡ c) ⊎ (g.q ≡ c)) h k
ends_seen Rows e f c (inl h) (inl k) = inl (h.0 ∙ ap exchanged k)
ends_seen Rows e f c (inl h) (inr k) = inr (h.1 ∙ ap exchanged k)
ends_seen Rows e f c (inr h) (inl k) = inr (h.1 ∙ ap exchanged k)
ends_seen Rows e f c (inr h) (inr k) = inl (h.0 ∙ ap exchanged k)

no_end : (low high : ℤ) (f : Edge) (c : Pt) → low ≤ℤ c.x → c.x ≤ℤ high → RunsThrough low high f → (f.p ≡ c) ⊎ (f.q ≡ c) → ⊥
no_end low high f c l r h (inl k) = before f.p.x low c.x h.from l (ap (λ (p : Pt). p.x) k)
  where
    before : (p low x : ℤ) → p <ℤ low → low ≤ℤ x → p ≡ x → ⊥
    before p low x a b e = omega (arith, linear)
no_end low high f c l r h (inr k) = after f.q.x high c.x h.to r (ap (λ (p : Pt). p.x) k)
  where
    after : (q high x : ℤ) → high <ℤ q → x ≤ℤ high → q ≡ x → ⊥
    after q high x a b e = omega (arith, linear)

parallel_itself : (e : Edge) (c : Pt) → CrossAt e e c → ⊥
unfolding segment_of
parallel_itself e c x = (x.cross (segment_of e) (segment_of e) (segment_line e) (segment_line e)).not_parallel (nought (e.q.x -ℤ e.p.x) (e.q.y -ℤ e.p.y))
  where
    nought : (d g : ℤ) → (d *ℤ g) -ℤ (g *ℤ d) ≡ pos 0
    nought d g = ring (d ∷ g ∷ []) ((var 0 ⊗ var 1) ⊖ (var 1 ⊗ var 0)) (num (pos 0)) refl

-- ---- strands
abbrev ascends : Strand → Strand → Bool
ascends s t = int_lt s.left t.left && int_lt s.right t.right

abbrev meets : ℤ → ℤ → Bool
meets x y = int_le x y && int_le y x

abbrev follows : Strand → Strand → Bool
follows s t = ascends s t || (meets s.left t.left && meets s.right t.right)

-- neither of two strands is followed by the other
clash : Strand → Strand → Bool
clash s t = not (follows s t || follows t s)

meets_is : (x y : ℤ) → meets x y ≡ true → x ≡ y
meets_is x y h = let b = and_both (int_le x y) (int_le y x) h in both x y (le_told _ _ b.0) (le_told _ _ b.1)
  where
    both : (x y : ℤ) → x ≤ℤ y → y ≤ℤ x → x ≡ y
    both x y i j = omega (arith, linear)

is_meets : (x y : ℤ) → x ≡ y → meets x y ≡ true
is_meets x y e = both_and (int_le x y) (int_le y x) (le_yes _ _ (up x y e)) (le_yes _ _ (up y x (sym e)))
  where
    up : (x y : ℤ) → x ≡ y → x ≤ℤ y
    up x y e = omega (arith, linear)

follows_is : (s t : Strand) → follows s t ≡ true → IsFollowedBy s t
follows_is s t h = ⊎_elim
    (λ k. let b = and_both (int_lt s.left t.left) (int_lt s.right t.right) k in inl (record { left = lt_told _ _ b.0; right = lt_told _ _ b.1 }))
    (λ k. let b = and_both (meets s.left t.left) (meets s.right t.right) k in inr (record { left = meets_is _ _ b.0; right = meets_is _ _ b.1 }))
    (or_either (ascends s t) (meets s.left t.left && meets s.right t.right) h)

is_follows : (s t : Strand) → IsFollowedBy s t → follows s t ≡ true
is_follows s t (inl h) = ap (λ b. b || (meets s.left t.left && meets s.right t.right)) (both_and (int_lt s.left t.left) (int_lt s.right t.right) (lt_yes _ _ h.left) (lt_yes _ _ h.right))
is_follows s t (inr h) = ap (λ b. ascends s t || b) (both_and (meets s.left t.left) (meets s.right t.right) (is_meets _ _ h.left) (is_meets _ _ h.right)) ∙ last (ascends s t)
  where
    last : (b : Bool) → (b || true) ≡ true
    last true = refl
    last false = refl

clash_flips : (s t : Strand) → clash s t ≡ clash t s
unfolding clash
clash_flips s t = ap not (either (follows s t) (follows t s))
  where
    either : (a b : Bool) → (a || b) ≡ (b || a)
    either true true = refl
    either true false = refl
    either false true = refl
    either false false = refl

no_clash : (s t : Strand) → IsFollowedBy s t → clash s t ≡ false
unfolding clash
no_clash s t h = ap (λ b. not (b || follows t s)) (is_follows s t h)

apart : (s t : Strand) → clash s t ≡ false → IsFollowedBy s t ⊎ IsFollowedBy t s
unfolding clash
apart s t h = ⊎_elim (λ k. inl (follows_is s t k)) (λ k. inr (follows_is t s k)) (or_either (follows s t) (follows t s) (back _ h))
  where
    back : (b : Bool) → not b ≡ false → b ≡ true
    back true h = refl
    back false h = sym h

distinct : (ss sorted : List Strand) → IsPermutation ss sorted → AllPairs IsFollowedBy sorted → IsDistinct clash ss
distinct ss sorted moved up = IsDistinct-IsPermutation clash clash_flips sorted ss (IsPermutation-sym ss sorted moved) (IsDistinct-from_apart clash sorted (λ i j d a b. no_clash _ _ (up i j d a b)))

pub follows_on : (s t u : Strand) → IsFollowedBy s t → IsFollowedBy t u → IsFollowedBy s u
follows_on s t u (inl h) (inl k) = inl (record { left = lt_lt _ _ _ h.left k.left; right = lt_lt _ _ _ h.right k.right })
follows_on s t u (inl h) (inr k) = inl (record { left = subst (λ x. s.left <ℤ x) k.left h.left; right = subst (λ x. s.right <ℤ x) k.right h.right })
follows_on s t u (inr h) (inl k) = inl (record { left = subst (λ x. x <ℤ u.left) (sym h.left) k.left; right = subst (λ x. x <ℤ u.right) (sym h.right) k.right })
follows_on s t u (inr h) (inr k) = inr (record { left = h.left ∙ k.left; right = h.right ∙ k.right })

-- what holds of each item and the next one holds of each item and those behind it
module _ {X : Type 0} (R : X → X → Type 0) (on : (x y z : X) → R x y → R y z → R x z) where
  far : (xs : List X) → AllAdjacentBelow R xs (length xs) → (i m : ℕ) (d : X) → i + (m + 1) < length xs → R (get_or xs i d) (get_or xs (i + (m + 1)) d)
  far xs h i zero d l = h i d l
  far xs h i (suc m) d l =
      let e : (i + (m + 1)) + 1 ≡ i + (suc m + 1) = omega arith in
      on _ _ _ (far xs h i m d (omega arith)) (subst (λ k. R (get_or xs (i + (m + 1)) d) (get_or xs k d)) e (h (i + (m + 1)) d (omega arith)))

  pub all_in_turn : (xs : List X) → AllAdjacentBelow R xs (length xs) → AllPairs R xs
  all_in_turn xs h i j d a b =
      let e : i + ((j - (i + 1)) + 1) ≡ j = omega arith in
      subst (λ k. R (get_or xs i d) (get_or xs k d)) e (far xs h i (j - (i + 1)) d (omega arith))

pub all_ascend : (ss : List Strand) → AllAdjacentBelow IsFollowedBy ss (length ss) → AllPairs IsFollowedBy ss
all_ascend = all_in_turn IsFollowedBy follows_on

module _ (course : Course) (low high : ℤ) where
  strand_push : (ls : List Line) (ss : List Strand) (l : Line) (s : Strand) → AreStrands course low high ls ss → IsStrandSeen course low high l.edge s → AreStrands course low high (ls ++ l ∷ []) (ss ++ s ∷ [])
  strand_push [] [] l s h k = (k, tt)
  strand_push [] (t ∷ ss) l s h k = absurd h
  strand_push (m ∷ ls) [] l s h k = absurd h
  strand_push (m ∷ ls) (t ∷ ss) l s h k = (h.0, strand_push ls ss l s h.1 k)

  -- the strand of one more line
  pub strands_more : (lines : List Line) (i : ℕ) (l : Line) (ss : List Strand) (s : Strand) → i < length lines → l ≡ get_or lines i l → AreStrands course low high (take i lines) ss → IsStrandSeen course low high l.edge s → AreStrands course low high (take (i + 1) lines) (ss ++ s ∷ [])
  strands_more lines i l ss s below is h k = subst (λ ls. AreStrands course low high ls (ss ++ s ∷ [])) (sym (take_more lines i l below ∙ ap (λ (x : Line). take i lines ++ x ∷ []) (sym is))) (strand_push (take i lines) ss l s h k)

  strand_at : (ls : List Line) (ss : List Strand) → AreStrands course low high ls ss → (m : Line) → Contains ls m → (t : Strand) × Contains ss t × IsStrandSeen course low high m.edge t
  strand_at [] [] h m k = absurd (none_in m k)
  strand_at [] (s ∷ ss) h m k = absurd h
  strand_at (l ∷ ls) [] h m k = absurd h
  strand_at (l ∷ ls) (s ∷ ss) h m k = ⊎_elim
      (λ e. (s, here s ss, subst (λ (x : Line). IsStrandSeen course low high x.edge s) e h.0))
      (λ n. let r = strand_at ls ss h.1 m n in (r.0, in_cons s ss r.0 r.1, r.2))
      (from_cons l ls m k)

  -- two lines have strands of which one is followed by the other
  pub record AreApart (e f : Edge) : Type 0 where
    pub s : Strand
    pub t : Strand
    pub first : IsStrandSeen course low high e s
    pub second : IsStrandSeen course low high f t
    pub order : IsFollowedBy s t ⊎ IsFollowedBy t s

  turned_apart : (e f : Edge) → AreApart e f → AreApart f e
  turned_apart e f h = record { s = h.t; t = h.s; first = h.second; second = h.first; order = ⊎_elim (λ k. inr k) (λ k. inl k) h.order }

  from_head : (l : Line) (ls : List Line) (s : Strand) (ss : List Strand) → IsStrandSeen course low high l.edge s → AreStrands course low high ls ss → IsDistinct clash (s ∷ ss) → (m : Line) → Contains ls m → AreApart l.edge m.edge
  from_head l ls s ss h k d m n =
      let r = strand_at ls ss k m n in
      record { s = s; t = r.0; first = h; second = r.2; order = apart s r.0 (All-contains (λ x. clash s x ≡ false) ss r.0 (All-from_recursion (λ x. clash s x ≡ false) ss (IsDistinct-head clash s ss d)) r.1) }

  two_lines : (ls : List Line) (ss : List Strand) → AreStrands course low high ls ss → IsDistinct clash ss → (l m : Line) → Contains ls l → Contains ls m → (l ≡ m) ⊎ AreApart l.edge m.edge
  two_lines [] [] h d l m i j = absurd (none_in l i)
  two_lines [] (s ∷ ss) h d l m i j = absurd h
  two_lines (k ∷ ls) [] h d l m i j = absurd h
  two_lines (k ∷ ls) (s ∷ ss) h d l m i j = ⊎_elim
      (λ e. ⊎_elim
      (λ g. inl (sym e ∙ g))
      (λ b. inr (subst (λ (x : Line). AreApart x.edge m.edge) e (from_head k ls s ss h.0 h.1 d m b)))
      (from_cons k ls m j))
      (λ a. ⊎_elim
      (λ g. inr (turned_apart m.edge l.edge (subst (λ (x : Line). AreApart x.edge l.edge) g (from_head k ls s ss h.0 h.1 d l a))))
      (λ b. two_lines ls ss h.1 (IsDistinct-tail clash s ss d) l m a b)
      (from_cons k ls m j))
      (from_cons k ls l i)

  -- each line has a strand
  abbrev pub HaveStrands : List Line → Type 0
  HaveStrands lines = (l : Line) → Contains lines l → (s : Strand) × IsStrandSeen course low high l.edge s

  -- any two lines are the same, or have strands of which one is followed by the other
  abbrev pub StandApart : List Line → Type 0
  StandApart lines = (l m : Line) → Contains lines l → Contains lines m → (l ≡ m) ⊎ AreApart l.edge m.edge

  module _ (c : Pt) (from : low ≤ℤ (seen_point course c).x) (to : (seen_point course c).x ≤ℤ high) where
    apart_no_crossing : (e f : Edge) → AreApart e f → CrossAt e f c → ⊥
    apart_no_crossing e f h x =
        let y = cross_seen course e f h.first.0 h.second.0 c h.first.1 h.second.1 x in ⊎_elim
        (λ up. no_crossing low high h.first.0 h.second.0 h.s h.t (seen_point course c) from to h.first.2 h.second.2 up y)
        (λ up. no_crossing low high h.second.0 h.first.0 h.t h.s (seen_point course c) from to h.second.2 h.first.2 up (cross_turn h.first.0 h.second.0 (seen_point course c) y))
        h.order

    none_hot : (lines : List Line) → HaveStrands lines → StandApart lines → IsHotFor (edges_of lines) c → ⊥
    none_hot lines have apart (inl k) =
        let r = line_at lines k.e k.listed in
        let s = have r.0 r.1 in
        no_end low high s.1.0 (seen_point course c) from to s.1.2.through (ends_seen course k.e s.1.0 c (subst (λ e. IsSeen course e s.1.0) r.2 s.1.1) k.is_end)
    none_hot lines have apart (inr k) =
        let r = line_at lines k.e k.e_listed in
        let u = line_at lines k.f k.f_listed in ⊎_elim
        (λ same. parallel_itself k.f c (subst (λ e. CrossAt e k.f c) (sym r.2 ∙ ap (λ (x : Line). x.edge) same ∙ u.2) k.crosses))
        (λ a. apart_no_crossing k.e k.f (subst (λ e. AreApart e k.f) r.2 (subst (λ f. AreApart r.0.edge f) u.2 a)) k.crosses)
        (apart r.0 u.0 r.1 u.1)

  pub apart_has_no_hot : (lines : List Line) → HaveStrands lines → StandApart lines → HasNoHot course low high (edges_of lines)
  apart_has_no_hot lines have apart c from to k = none_hot c from to lines have apart k

  pub bundle_has_no_hot : (lines : List Line) (ss sorted : List Strand) → AreStrands course low high lines ss → IsPermutation ss sorted → AllPairs IsFollowedBy sorted → HasNoHot course low high (edges_of lines)
  bundle_has_no_hot lines ss sorted h moved up = apart_has_no_hot lines (λ l k. let r = strand_at lines ss h l k in (r.0, r.2)) (two_lines lines ss h (distinct ss sorted moved up))

-- where no pixel is hot, nothing has to be added
pub nothing_hot : (Inside : Pt → Type 0) (lines : List Line) (old : List Pt) → ((c : Pt) → Inside c → IsHotFor (edges_of lines) c → ⊥) → HasHotInside Inside (edges_of lines) old old
nothing_hot Inside lines old none = record { same = λ c. ((λ h. inl h), (λ h. ⊎_elim (λ k. k) (λ k. absurd (none c k.1 k.0)) h)) }
