use Rattle.std.proofs.Common.{◌≡◌, ◌^◌, w64, to_z, of_z, arith, [], ◌∷◌, refl, ◌∙◌, ap}
use Rattle.std.proofs.Math.IntN.{ℤ, pos, negsuc, neg_ℤ, ◌*ℤ◌}
use Rattle.std.specs.Prelude.{◌<ℤ◌, true, false}
use lib.Signed.{lt_z}
use Rattle.std.proofs.lemmas.Int.{ints}
use Rattle.geom.specs.declared.point.Pt.{Pt}
use Rattle.geom.specs.Limit.{IsWithin}
use Rattle.geom.specs.Determinant.{turn, side}
use Rattle.geom.proofs.Identity.{var, num, ◌⊖◌, ◌⊗◌, ring}
use Rattle.crossing.proofs.CrossingLemmas.{crosses, crossing_at}
use Rattle.crossing.proofs.common_point.cross.Goals as goal

plain : (r z : ℤ) → IsWithin (2 ^ 59) r → r ≡ z → to_z w64 (of_z w64 r) ≡ pos 1 *ℤ z
plain r z h e = omega (arith, ints)

opposite : (u r z : ℤ) → IsWithin (2 ^ 59) r → r ≡ z → u ≡ neg_ℤ (to_z w64 (of_z w64 r)) → to_z w64 (of_z w64 u) ≡ negsuc 0 *ℤ z
opposite u r z h e f = omega (arith, ints)

above : (r : ℤ) → IsWithin (2 ^ 59) r → lt_z (pos 0) (to_z w64 (of_z w64 r)) ≡ true → pos 0 <ℤ to_z w64 (of_z w64 r)
above r h t = omega (arith, ints)

below : (u r : ℤ) → IsWithin (2 ^ 59) r → u ≡ neg_ℤ (to_z w64 (of_z w64 r)) → lt_z (to_z w64 (of_z w64 r)) (pos 0) ≡ true → pos 0 <ℤ to_z w64 (of_z w64 u)
below u r h e t = omega (arith, ints)

neither : (r z : ℤ) → IsWithin (2 ^ 59) r → r ≡ z → lt_z (pos 0) (to_z w64 (of_z w64 r)) ≡ false → lt_z (to_z w64 (of_z w64 r)) (pos 0) ≡ false → z ≡ pos 0
neither r z h e t u = omega (arith, ints)

-- the side of a's, seen from the line of c and d, and that of c, seen from the line of a and b, as determinants of one vector
from_second : (a c d : Pt) → side c d a ≡ turn a c c d
from_second a c d = ring (a.x ∷ a.y ∷ c.x ∷ c.y ∷ d.x ∷ d.y ∷ [])
    (((var 4 ⊖ var 2) ⊗ (var 1 ⊖ var 3)) ⊖ ((var 5 ⊖ var 3) ⊗ (var 0 ⊖ var 2)))
    (((var 2 ⊖ var 0) ⊗ (var 5 ⊖ var 3)) ⊖ ((var 3 ⊖ var 1) ⊗ (var 4 ⊖ var 2))) refl

from_first : (a b c : Pt) → negsuc 0 *ℤ side a b c ≡ pos 1 *ℤ turn a c a b
from_first a b c = ring (a.x ∷ a.y ∷ b.x ∷ b.y ∷ c.x ∷ c.y ∷ [])
    (num (negsuc 0) ⊗ (((var 2 ⊖ var 0) ⊗ (var 5 ⊖ var 1)) ⊖ ((var 3 ⊖ var 1) ⊗ (var 4 ⊖ var 0))))
    (num (pos 1) ⊗ (((var 4 ⊖ var 0) ⊗ (var 3 ⊖ var 1)) ⊖ ((var 5 ⊖ var 1) ⊗ (var 2 ⊖ var 0)))) refl

from_first_back : (a b c : Pt) → pos 1 *ℤ side a b c ≡ negsuc 0 *ℤ turn a c a b
from_first_back a b c = ring (a.x ∷ a.y ∷ b.x ∷ b.y ∷ c.x ∷ c.y ∷ [])
    (num (pos 1) ⊗ (((var 2 ⊖ var 0) ⊗ (var 5 ⊖ var 1)) ⊖ ((var 3 ⊖ var 1) ⊗ (var 4 ⊖ var 0))))
    (num (negsuc 0) ⊗ (((var 4 ⊖ var 0) ⊗ (var 3 ⊖ var 1)) ⊖ ((var 5 ⊖ var 1) ⊗ (var 2 ⊖ var 0)))) refl

pub returns-then-det-gt0 : goal.returns-then-det-gt0
returns-then-det-gt0 c p =
    let s = c.args.s.now in
    let t = c.args.t.now in
    let det = plain _ _ c.turn-det.ensures.small c.turn-det.ensures.value in
    let e = plain _ _ c.side-e.ensures.small c.side-e.ensures.value ∙ ap (λ (z : ℤ). pos 1 *ℤ z) (from_second s.a t.a t.b) in
    let f = opposite _ _ _ c.side-f.ensures.small c.side-f.ensures.value c.negated.ensures.value ∙ from_first s.a s.b t.a in
    let pd = above _ c.turn-det.ensures.small c.if-det-gt0.true in
    let r = c.crossing_at.ensures p in (
      λ o. crosses s t (pos 1) _ _ _ pd det e f p (r.0 o),
      λ h. r.1 (crossing_at s t (pos 1) _ _ _ pd det e f p h),
    )

pub returns-then-det-lt0 : goal.returns-then-det-lt0
returns-then-det-lt0 c p =
    let s = c.args.s.now in
    let t = c.args.t.now in
    let det = opposite _ _ _ c.turn-det.ensures.small c.turn-det.ensures.value c.negated-then-det-lt0.ensures.value in
    let e = opposite _ _ _ c.side-e.ensures.small c.side-e.ensures.value c.negated-then-det-lt0-2.ensures.value ∙ ap (λ (z : ℤ). negsuc 0 *ℤ z) (from_second s.a t.a t.b) in
    let f = plain _ _ c.side-f.ensures.small c.side-f.ensures.value ∙ from_first_back s.a s.b t.a in
    let pd = below _ _ c.turn-det.ensures.small c.negated-then-det-lt0.ensures.value c.if-det-lt0.true in
    let r = c.crossing_at-then-det-lt0.ensures p in (
      λ o. crosses s t (negsuc 0) _ _ _ pd det e f p (r.0 o),
      λ h. r.1 (crossing_at s t (negsuc 0) _ _ _ pd det e f p h),
    )

pub returns-else-det-lt0 : goal.returns-else-det-lt0
returns-else-det-lt0 c p =
    (λ t. cc, λ h. absurd (h.not_parallel (neither _ _ c.turn-det.ensures.small c.turn-det.ensures.value c.if-det-gt0.false c.if-det-lt0.false)))
