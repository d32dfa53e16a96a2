-- The hull of boxes: one more box, and a rectangle that it shares no point with.
use Rattle.std.proofs.Common.{◌+◌, length, ap, ◌∙◌, ◌≡◌, ℕ, ◌<◌, List, ℤ, None, Option, Some, arith, inl, inr, subst, sym, Bool, true, false, not, ◌↔◌, IsTrue, refl, w32, of_z, to_z, to_z-of_z, FitsSigned}
use Rattle.geom.proofs.Integers.{linear}
use Rattle.std.specs.Int.{int_max, int_min}
use Rattle.std.proofs.lemmas.Int.{int_max_is, int_min_is}
use Rattle.geom.specs.declared.rect.Rect.{Rect}
use Rattle.geom.specs.Box.{ShareAPoint}
use Rattle.geom.proofs.Boxes.{share_in, share_out}
use Rattle.std.proofs.Math.ListN.{set}
use Rattle.std.proofs.lemmas.Bool.{cases_eq}
use Rattle.box_lanes.proofs.BoxLaws.{box_at, new_at, same_at, shares_below}
use Rattle.box_lanes.specs.Sides.{AreHeld, AreOrdered, Corners, LiesWithin, SharesAt, boxes_of, corners, corners_at}

pub same_hull : (h k : Rect) → Some h ≡ Some k → h ≡ k
same_hull h k e = cc

-- ---- a rectangle that shares no point with it
pub missed : (h k r : Rect) (shares : Bool) → (IsTrue shares ↔ ShareAPoint h.lo h.hi r.lo r.hi) → IsTrue (not shares) → h ≡ k → ¬ (ShareAPoint k.lo k.hi r.lo r.hi)
missed h k r true is t e = absurd (let q = t in cc)
missed h k r false is t e = λ s. absurd (let q = is.1 (subst (λ (b : Rect). ShareAPoint b.lo b.hi r.lo r.hi) (sym e) s) in cc)

-- ---- where the hull shares no point with the rectangle, no box does
pub none_shares : (hull : Option Rect) (ls bs rs ts : List ℤ) (n : ℕ) (r : Rect) → AreOrdered ls rs n → AreOrdered bs ts n → AreHeld hull ls bs rs ts n → ((h : Rect) → hull ≡ Some h → ¬ (ShareAPoint h.lo h.hi r.lo r.hi))
    → (k : ℕ) → ¬ (SharesAt (boxes_of ls bs rs ts n) r k)
none_shares None ls bs rs ts n r wide high held apart k h = held.some (let l = shares_below ls bs rs ts n r wide high k h in omega arith) refl
none_shares (Some by) ls bs rs ts n r wide high held apart k h =
    let l = shares_below ls bs rs ts n r wide high k h in
    let own = held.held k by l refl in
    let c = corners_at ls bs rs ts k in
    let b : Rect = record { lo = c.0; hi = c.1; wide = wide.ordered k l; high = high.ordered k l } in
    let s = share_in b r (subst (λ (d : Corners). ShareAPoint d.0 d.1 r.lo r.hi) (box_at ls bs rs ts n k c l) (h.shares c)) in
    apart by refl (share_out by r
    (omega (arith, linear, s.0.0, own.left), omega (arith, linear, s.0.1, own.right))
    (omega (arith, linear, s.1.0, own.bottom), omega (arith, linear, s.1.1, own.top)))

-- ---- one more box
kept : (ls bs rs ts : List ℤ) (n : ℕ) (new : Rect) (hull : Option Rect) (k : ℕ) → k < n → AreHeld hull ls bs rs ts n → ((h : Rect) (c : Corners) → hull ≡ Some h → LiesWithin h c → LiesWithin new c) → LiesWithin new (corners_at ls bs rs ts k)
kept ls bs rs ts n new None k l old keeps = absurd (old.some (omega arith) refl)
kept ls bs rs ts n new (Some h) k l old keeps = keeps h _ refl (old.held k h l refl)

pub held_none : (hull : Option Rect) (ls bs rs ts : List ℤ) → AreHeld hull ls bs rs ts 0
held_none hull ls bs rs ts = record { some = λ l. absurd (omega arith); held = λ k h l. absurd (omega arith) }

pub held_more : (hull : Option Rect) (new : Rect) (ls bs rs ts : List ℤ) (n : ℕ) (r : Rect) → n < 32 → length ls ≡ 32 → length bs ≡ 32 → length rs ≡ 32 → length ts ≡ 32
    → FitsSigned w32 r.lo.x → FitsSigned w32 r.lo.y → FitsSigned w32 r.hi.x → FitsSigned w32 r.hi.y
    → AreHeld hull ls bs rs ts n → LiesWithin new (corners r) → ((h : Rect) (c : Corners) → hull ≡ Some h → LiesWithin h c → LiesWithin new c)
    → AreHeld (Some new) (set ls n (to_z w32 (of_z w32 r.lo.x))) (set bs n (to_z w32 (of_z w32 r.lo.y))) (set rs n (to_z w32 (of_z w32 r.hi.x))) (set ts n (to_z w32 (of_z w32 r.hi.y))) (n + 1)
held_more hull new ls bs rs ts n r room a b c d fl fb fr ft old own keeps = rw (to_z-of_z fl, to_z-of_z fb, to_z-of_z fr, to_z-of_z ft) (record {
  some = λ l e. absurd (let k = e in cc);
  held = λ k h l is. subst (λ (d : Rect). LiesWithin d (corners_at (set ls n r.lo.x) (set bs n r.lo.y) (set rs n r.hi.x) (set ts n r.hi.y) k)) (same_hull new h is) (elim (cases_eq k n) [
    | inl e ↦ subst (LiesWithin new) (sym (ap (corners_at _ _ _ _) e ∙ new_at ls bs rs ts n r.lo.x r.lo.y r.hi.x r.hi.y room a b c d)) own
    | inr e ↦ subst (LiesWithin new) (sym (same_at ls bs rs ts n r.lo.x r.lo.y r.hi.x r.hi.y room a b c d k e)) (kept ls bs rs ts n new hull k (omega arith) old keeps)
  ]);
})

-- ---- a wider rectangle
module _ (a b d r : Rect) (left : b.lo.x ≡ int_min a.lo.x r.lo.x) (below : b.lo.y ≡ int_min a.lo.y r.lo.y) (right : b.hi.x ≡ int_max a.hi.x r.lo.x) (above : b.hi.y ≡ int_max a.hi.y r.lo.y) (left' : d.lo.x ≡ int_min b.lo.x r.hi.x) (below' : d.lo.y ≡ int_min b.lo.y r.hi.y) (right' : d.hi.x ≡ int_max b.hi.x r.hi.x) (above' : d.hi.y ≡ int_max b.hi.y r.hi.y) where
  pub widened_by : LiesWithin d (corners r)
  widened_by = record {
    left = omega (arith, linear, left, left', int_min_is a.lo.x r.lo.x, int_min_is b.lo.x r.hi.x);
    bottom = omega (arith, linear, below, below', int_min_is a.lo.y r.lo.y, int_min_is b.lo.y r.hi.y);
    right = omega (arith, linear, right', int_max_is b.hi.x r.hi.x);
    top = omega (arith, linear, above', int_max_is b.hi.y r.hi.y);
  }

  pub widened_keeps : (c : Corners) → LiesWithin a c → LiesWithin d c
  widened_keeps c h = record {
    left = omega (arith, linear, left, left', int_min_is a.lo.x r.lo.x, int_min_is b.lo.x r.hi.x, h.left);
    bottom = omega (arith, linear, below, below', int_min_is a.lo.y r.lo.y, int_min_is b.lo.y r.hi.y, h.bottom);
    right = omega (arith, linear, right, right', int_max_is a.hi.x r.lo.x, int_max_is b.hi.x r.hi.x, h.right);
    top = omega (arith, linear, above, above', int_max_is a.hi.y r.lo.y, int_max_is b.hi.y r.hi.y, h.top);
  }
