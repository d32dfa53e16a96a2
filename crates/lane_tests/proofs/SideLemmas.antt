-- Signs written into a slice.
use Rattle.std.proofs.Common.{◌≡◌, ℕ, ◌+◌, ◌<◌, ◌≤◌, List, [], ◌∷◌, ◌++◌, map, length, take, get_or, refl, sym, ap, ◌∙◌, arith, zero-add, w8, FitsSigned, to_z, of_z, ℤ, pos, negsuc, ◌*ℤ◌, drop, to_z-of_z}
use Rattle.std.proofs.lemmas.Simd.{map-map, take_more_put_chunk}
use Rattle.std.proofs.lemmas.List.{map-append, take_more_set, take_all}
use Rattle.std.proofs.lemmas.List.FromFn.{length-map-range_with_len}
use Rattle.std.proofs.lemmas.Int.{by_lt_z, ints}
use Rattle.std.specs.List.{range_with_len}
use Rattle.std.specs.Prelude.{int_lt, cond, true, false, Bool, ◌<ℤ◌, ◌≤ℤ◌, ◌-ℤ◌, ◌+ℤ◌, ◌^◌, ◌*◌, min}
use Rattle.std.proofs.Math.ListN.{set}
use lib.Lanes.{put_chunk}
use Rattle.lane_tests.specs.Columns.{Ends, pairs_of, pair_at, nowhere}
use Rattle.lane_tests.specs.Above.{AreEnds, run_at, offset_at}
use Rattle.lane_tests.specs.Sides.{IsHalf, side_at, side_sign, siding, sign}
use Rattle.lane_tests.specs.declared.points.Half.{Half}
use Rattle.geom.specs.Limit.{IsWithin, coordinate_limit}
use Rattle.std.specs.Int.{int_signum}
use Rattle.lane_tests.proofs.Hits.{range-add}
use Rattle.lane_tests.proofs.Lanes.{by_number}
use Rattle.lane_tests.proofs.PairLists.{length-pairs_of, get_or-pairs_of}
use Rattle.geom.proofs.Integers.{twice_left}
use Rattle.geom.proofs.Tests.{lt_yes, lt_no}

sign_fits : (p q : Bool) → FitsSigned w8 (cond p (negsuc 0) (cond q (pos 1) (pos 0)))
sign_fits true q = record { sfits = omega arith }
sign_fits false true = record { sfits = omega arith }
sign_fits false false = record { sfits = omega arith }

-- the first `at` signs are written
pub record AreWritten (f : ℕ → ℤ) (at end : ℕ) (now : List ℤ) : Type 0 where
  pub within : at ≤ end
  pub front : take at now ≡ siding f 0 at

pub written_none : (f : ℕ → ℤ) (end : ℕ) (now : List ℤ) → AreWritten f 0 end now
unfolding siding
written_none f end now = record { within = omega arith; front = refl }

siding-add : (f : ℕ → ℤ) (from m n : ℕ) → siding f from (m + n) ≡ siding f from m ++ siding f (from + m) n
unfolding siding
siding-add f from m n = ap (map f) (range-add from m n) ∙ map-append f (range_with_len from m) (range_with_len (from + m) n)

pub written_part : (f : ℕ → ℤ) (at n end : ℕ) (now next : List ℤ) → AreWritten f at end now → at + n ≤ end → take (at + n) next ≡ take at now ++ siding f at n → AreWritten f (at + n) end next
written_part f at n end now next h k e = record {
  within = k;
  front = e ∙ ap (λ xs. xs ++ siding f at n) h.front ∙ sym (siding-add f 0 at n ∙ ap (λ m. siding f 0 at ++ siding f m n) (zero-add at));
}

siding_one : (f : ℕ → ℤ) (at : ℕ) (s : ℤ) → s ≡ f at → s ∷ [] ≡ siding f at 1
unfolding siding
siding_one f at s e = ap (λ y. y ∷ []) e

pub written_one : (f : ℕ → ℤ) (at end : ℕ) (now : List ℤ) (s : ℤ) → AreWritten f at end now → at < end → length now ≡ end → s ≡ f at → AreWritten f (at + 1) end (set now at s)
written_one f at end now s h k l e = written_part f at 1 end now (set now at s) h (omega arith) (take_more_set now at s (omega arith) ∙ ap (λ y. take at now ++ y) (siding_one f at s e))

pub written_all : (f : ℕ → ℤ) (at end : ℕ) (now : List ℤ) → AreWritten f at end now → end ≤ at → length now ≡ end → now ≡ siding f 0 end
written_all f at end now h k l =
    let e : end ≡ at = omega (arith, h.within) in
    sym (take_all at now (omega arith)) ∙ rw e h.front

-- the lanes that a store writes
back_to : (ls bs rs ts : List ℤ) (x2 y2 : ℤ) (ks : List ℕ) → map (to_z w8) (map (of_z w8) (map (side_at ls bs rs ts x2 y2) ks)) ≡ map (side_at ls bs rs ts x2 y2) ks
back_to ls bs rs ts x2 y2 [] = refl
back_to ls bs rs ts x2 y2 (k ∷ ks) = λ i. to_z-of_z (sign_fits (int_lt (run_at ls rs k *ℤ offset_at bs y2 k) (run_at bs ts k *ℤ offset_at ls x2 k)) (int_lt (run_at bs ts k *ℤ offset_at ls x2 k) (run_at ls rs k *ℤ offset_at bs y2 k))) i ∷ back_to ls bs rs ts x2 y2 ks i

back : (ls bs rs ts : List ℤ) (x2 y2 : ℤ) (at : ℕ) → map (to_z w8) (map (of_z w8) (siding (side_at ls bs rs ts x2 y2) at 8)) ≡ siding (side_at ls bs rs ts x2 y2) at 8
unfolding siding
back ls bs rs ts x2 y2 at = back_to ls bs rs ts x2 y2 (range_with_len at 8)

length-siding : (f : ℕ → ℤ) (at n : ℕ) → length (siding f at n) ≡ n
unfolding siding
length-siding f at n = length-map-range_with_len f at n

pub stored : (ls bs rs ts : List ℤ) (x2 y2 : ℤ) (at : ℕ) (r out : List ℤ) → r ≡ siding (side_at ls bs rs ts x2 y2) at 8 → at + 8 ≤ length out
    → take (at + 8) (put_chunk at out (map (to_z w8) (map (of_z w8) r))) ≡ take at out ++ siding (side_at ls bs rs ts x2 y2) at 8
stored ls bs rs ts x2 y2 at r out e room =
    let f = side_at ls bs rs ts x2 y2 in
    let same : map (to_z w8) (map (of_z w8) r) ≡ siding f at 8 = ap (λ r. map (to_z w8) (map (of_z w8) r)) e ∙ back ls bs rs ts x2 y2 at in
    rw same (take_more_put_chunk at out (siding f at 8) (at + 8) (omega (arith, length-siding f at 8)) room)

-- ---- the sign of the determinant
signum_below : (z : ℤ) → z <ℤ pos 0 → int_signum z ≡ negsuc 0
signum_below (pos n) h = absurd (omega (arith, ints))
signum_below (negsuc n) h = refl

signum_above : (z : ℤ) → pos 0 <ℤ z → int_signum z ≡ pos 1
signum_above (pos n) h = let e : min n 1 ≡ 1 = omega (arith, ints) in ap pos e
signum_above (negsuc n) h = absurd (omega (arith, ints))

signum_none : (z : ℤ) → z ≡ pos 0 → int_signum z ≡ pos 0
signum_none z e = rw e refl

sign_is : (u v : ℤ) → sign u v ≡ int_signum (u -ℤ v)
sign_is u v = by_lt_z u v
    (λ h. rw (lt_yes u v h) (sym (signum_below (u -ℤ v) (omega (arith, ints)))))
    (λ h. rw (lt_no u v h) (by_lt_z v u
    (λ k. rw (lt_yes v u k) (sym (signum_above (u -ℤ v) (omega (arith, ints)))))
    (λ k. rw (lt_no v u k) (sym (signum_none (u -ℤ v) (omega (arith, ints)))))))

pair_sign : (s : Ends) (z : Half) → sign ((s.1.x -ℤ s.0.x) *ℤ (z.y2 -ℤ (s.0.y +ℤ s.0.y))) ((s.1.y -ℤ s.0.y) *ℤ (z.x2 -ℤ (s.0.x +ℤ s.0.x))) ≡ side_sign s z
pair_sign s z = sign_is ((s.1.x -ℤ s.0.x) *ℤ (z.y2 -ℤ (s.0.y +ℤ s.0.y))) ((s.1.y -ℤ s.0.y) *ℤ (z.x2 -ℤ (s.0.x +ℤ s.0.x)))
    ∙ (λ i. int_signum (((s.1.x -ℤ s.0.x) *ℤ (z.y2 -ℤ sym (twice_left s.0.y) i)) -ℤ ((s.1.y -ℤ s.0.y) *ℤ (z.x2 -ℤ sym (twice_left s.0.x) i))))

-- by segments
pub by_segments : (pairs : List Ends) (ls bs rs ts ls' bs' rs' ts' : List ℤ) (z : Half) (out : List ℤ) → AreEnds ls bs rs ts → pairs_of ls bs rs ts ≡ pairs → ls' ≡ ls → bs' ≡ bs → rs' ≡ rs → ts' ≡ ts
    → out ≡ siding (side_at ls' bs' rs' ts' z.x2 z.y2) 0 (length ls') → out ≡ map (λ s. side_sign s z) pairs
unfolding siding
by_segments pairs ls bs rs ts ls' bs' rs' ts' z out h e p q r s f =
    let c = h.columns in
    let l = length-pairs_of ls bs rs ts c.bottom_len c.right_len c.top_len in
    let all : take (length (pairs_of ls bs rs ts)) (drop 0 (pairs_of ls bs rs ts)) ≡ pairs_of ls bs rs ts = take_all _ (pairs_of ls bs rs ts) (omega arith) in
    f ∙ (λ i. map (side_at (p i) (q i) (r i) (s i) z.x2 z.y2) (range_with_len 0 (length (p i))))
    ∙ (λ i. map (λ k. pair_sign (pair_at ls bs rs ts k) z i) (range_with_len 0 (length ls)))
    ∙ (λ i. map (λ k. side_sign (sym (get_or-pairs_of ls bs rs ts k c.bottom_len c.right_len c.top_len) i) z) (range_with_len 0 (sym l i)))
    ∙ sym (map-map (λ s. side_sign s z) (λ k. get_or (pairs_of ls bs rs ts) k nowhere) (range_with_len 0 (length (pairs_of ls bs rs ts))))
    ∙ ap (map (λ s. side_sign s z)) (sym (by_number (pairs_of ls bs rs ts) 0 (length (pairs_of ls bs rs ts)) nowhere (omega arith)) ∙ all ∙ e)

-- ---- room in the lanes
room : (z : ℤ) → IsWithin (2 * coordinate_limit + 1) z → IsWithin (2 ^ 29 + 1) z
room z h = record { low = omega (arith, ints, h.low); high = omega (arith, ints, h.high) }

pub half_room : (z : Half) → IsHalf z → IsWithin (2 ^ 29 + 1) z.x2 × IsWithin (2 ^ 29 + 1) z.y2
half_room z h = (room z.x2 h.x2, room z.y2 h.y2)
