-- Two lines with a common end: where they cross, they cross there.
use Rattle.std.proofs.Common.{◌≡◌, ◌⊎◌, inl, inr, [], ◌∷◌, refl, sym, ap, ◌∙◌, subst, arith}
use Rattle.std.proofs.Math.IntN.{ℤ, pos, negsuc, ◌*ℤ◌}
use Rattle.std.proofs.lemmas.Int.{ints}
use Rattle.std.specs.Prelude.{◌<ℤ◌}
use Rattle.geom.specs.declared.point.Pt.{Pt}
use Rattle.geom.specs.declared.edge.Edge.{Edge}
use Rattle.geom.specs.declared.segment.Seg.{Seg}
use Rattle.geom.specs.Determinant.{turn}
use Rattle.geom.specs.Hot.{CrossIn}
use Rattle.geom.proofs.Along.{Order, order}
use Rattle.geom.proofs.Along.Order.{less, same, more}
use Rattle.geom.proofs.Identity.{var, num, ◌⊗◌, ring}
use Rattle.geom.proofs.Integers.{linear, expand}
use Rattle.crossing.proofs.CrossingLemmas.{crossing_at}
use Rattle.crossing.proofs.Ends.{start_pixel}
use Rattle.hot_region.specs.Lines.{CrossAt, IsLine}
use Rattle.hot_region.proofs.LineLaws.{segment_of, segment_line}
use Rattle.hot_region.proofs.CrossingLaws.{crossing_of, cross_turn}

-- ---- a segment whose start lies on the line of another one crosses that there
from_negative : (x : ℤ) → x <ℤ pos 0 → pos 0 <ℤ (negsuc 0 *ℤ x)
from_negative x h = omega (arith, ints)

from_positive : (x : ℤ) → pos 0 <ℤ x → pos 0 <ℤ (pos 1 *ℤ x)
from_positive x h = omega (arith, ints)

module _ (s t : Seg) (c : Pt) (level : turn s.a t.a t.a t.b ≡ pos 0) (h : CrossIn s t c) where
  at_start : (g : ℤ) → pos 0 <ℤ (g *ℤ turn s.a s.b t.a t.b) → s.a ≡ c
  at_start g p =
      let none : g *ℤ turn s.a t.a t.a t.b ≡ pos 0 = ap (λ x. g *ℤ x) level ∙ ring (g ∷ []) (var 0 ⊗ num (pos 0)) (num (pos 0)) refl in
      let at = crossing_at s t g _ _ _ p refl refl refl c h in
      let start = start_pixel s.a s.b _ _ p none in
      λ i. record { x = (sym (ap (λ (q : Pt). q.x) start) ∙ at.x_is) i; y = (sym (ap (λ (q : Pt). q.y) start) ∙ at.y_is) i }

  crosses_at_start : s.a ≡ c
  crosses_at_start = by_turn (order (turn s.a s.b t.a t.b) (pos 0))
    where
      by_turn : Order (turn s.a s.b t.a t.b) (pos 0) → s.a ≡ c
      by_turn (less k) = at_start (negsuc 0) (from_negative _ k)
      by_turn (same k) = absurd (h.not_parallel k)
      by_turn (more k) = at_start (pos 1) (from_positive _ k)

-- ---- a start that is an end of the other one lies on its line
level_first : (a b : Pt) → turn a a a b ≡ pos 0
level_first a b = simp expand (omega (arith, linear))

level_second : (a b : Pt) → turn a b b a ≡ pos 0
level_second a b = simp expand (omega (arith, linear))

start_is_end : (s t : Seg) (c : Pt) → (s.a ≡ t.a) ⊎ (s.a ≡ t.b) → CrossIn s t c → s.a ≡ c
start_is_end s t c (inl e) h = crosses_at_start s t c (subst (λ (p : Pt). turn s.a p p t.b ≡ pos 0) e (level_first s.a t.b)) h
start_is_end s t c (inr e) h = crosses_at_start s t c (subst (λ (p : Pt). turn s.a t.a t.a p ≡ pos 0) e (level_second s.a t.a)) h

-- ---- lines
-- a segment on a line, from its second end
abbrev turned : Edge → Seg
turned e = let s = segment_of e in record { a = s.b; b = s.a; layer = s.layer; proper = λ k. s.proper (sym k) }

turned_line : (e : Edge) → IsLine e (turned e)
unfolding segment_of
turned_line e = inr (refl, refl)

module _ (e f : Edge) (c : Pt) (h : CrossAt f e c) where
  pub crosses_in_first : (e.p ≡ f.p) ⊎ (e.p ≡ f.q) → e.p ≡ c
  unfolding segment_of
  crosses_in_first k = start_is_end (segment_of e) (segment_of f) c k (crossing_of e f c (cross_turn f e c h))

  pub crosses_in_second : (e.q ≡ f.p) ⊎ (e.q ≡ f.q) → e.q ≡ c
  unfolding segment_of
  crosses_in_second k = start_is_end (turned e) (segment_of f) c k ((cross_turn f e c h).cross (turned e) (segment_of f) (turned_line e) (segment_line f))
