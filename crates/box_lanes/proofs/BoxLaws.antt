-- Boxes by columns of their sides: one more, and which share a point with a rectangle.
use Rattle.std.proofs.Common.{◌≡◌, ◌≢◌, ℕ, ◌+◌, ◌-◌, ◌*◌, ◌%◌, ◌^◌, ◌<◌, ◌≤◌, ◌↔◌, Bool, true, false, cond, ◌||◌, List, [], ◌∷◌, ◌++◌, length, get_or, refl, sym, ap, ◌∙◌, subst, arith, inl, inr, ℤ, pos, bit_and, zero, suc, replicate, w32, of_z, to_z, to_z-of_z, FitsSigned}
use Rattle.std.specs.Prelude.{◌≤ℤ◌, int_lt}
use Rattle.std.specs.Int.{bit_at}
use Rattle.std.proofs.Math.ListN.{set}
use Rattle.std.proofs.lemmas.Bool.{cases_eq, cases_lt}
use Rattle.std.proofs.lemmas.List.{same_lists, get_or-set_same, get_or-set_other, get_or_append_left, get_or-append_right, length_push}
use Rattle.std.proofs.lemmas.List.FromFn.{length-map-range_with_len, get_or-map-range_with_len}
use Rattle.std.proofs.lemmas.Nat.Bits.{bit_at_cat_low, bit_at_cat_high}
use Rattle.std.proofs.lemmas.Nat.{and_le_l}
use Rattle.geom.specs.declared.rect.Rect.{Rect}
use Rattle.geom.specs.Box.{ShareAPoint}
use Rattle.geom.proofs.Boxes.{share_in, share_out}
use Rattle.geom.proofs.Tests.{lt_yes, lt_no}
use Rattle.std.proofs.lemmas.Int.{by_lt_z}
use Rattle.box_lanes.specs.Places.{IsPlace}
use Rattle.box_lanes.specs.Sides.{AreOrdered, Corners, IsColumn, SharesAt, boxes_of, corners, corners_at, is_beside, sixteen}
use Rattle.box_lanes.proofs.PlaceLaws.{place_below, without}
use Rattle.box_lanes.proofs.LaneLaws.{sixteen_bit, sixteen_small}

-- ---- beside a rectangle, or sharing a point with it
none_of : (p q r s : Bool) → p || q || r || s ≡ false → (p ≡ false) × (q ≡ false) × (r ≡ false) × (s ≡ false)
none_of true q r s e = cc
none_of false true r s e = cc
none_of false false true s e = cc
none_of false false false true e = cc
none_of false false false false e = (refl, refl, refl, refl)

reaches : (a b : ℤ) → int_lt b a ≡ false → a ≤ℤ b
reaches a b e = by_lt_z b a (λ h. absurd (let k = lt_yes b a h in cc)) (λ h. h)

pub not_beside : (b r : Rect) → is_beside (corners b) r ≡ false → ShareAPoint b.lo b.hi r.lo r.hi
not_beside b r e = let h = none_of _ _ _ _ e in share_out b r (reaches _ _ h.0, reaches _ _ h.2) (reaches _ _ h.1, reaches _ _ h.3)

pub sharing_not_beside : (b r : Rect) → ShareAPoint b.lo b.hi r.lo r.hi → is_beside (corners b) r ≡ false
sharing_not_beside b r h = let s = share_in b r h in rw (lt_no _ _ s.0.0, lt_no _ _ s.1.0, lt_no _ _ s.0.1, lt_no _ _ s.1.1) refl

-- ---- the boxes of columns
module _ (ls bs rs ts : List ℤ) (n : ℕ) where
  pub box_at : (k : ℕ) (c : Corners) → k < n → get_or (boxes_of ls bs rs ts n) k c ≡ corners_at ls bs rs ts k
  box_at k c l = get_or-map-range_with_len (corners_at ls bs rs ts) 0 n k k c l (omega arith)

  pub box_count : length (boxes_of ls bs rs ts n) ≡ n
  box_count = length-map-range_with_len (corners_at ls bs rs ts) 0 n

  module _ (rect : Rect) (wide : AreOrdered ls rs n) (high : AreOrdered bs ts n) where
    abbrev box : (k : ℕ) → k < n → Rect
    box k l = record { lo = (corners_at ls bs rs ts k).0; hi = (corners_at ls bs rs ts k).1; wide = wide.ordered k l; high = high.ordered k l }

    pub shares_if : (k : ℕ) → k < n → is_beside (corners_at ls bs rs ts k) rect ≡ false → SharesAt (boxes_of ls bs rs ts n) rect k
    shares_if k l e = record {
      below = (let c = box_count in omega arith);
      shares = λ c. subst (λ (b : Corners). ShareAPoint b.0 b.1 rect.lo rect.hi) (sym (box_at k c l)) (not_beside (box k l) rect e);
    }

    pub shares_below : (k : ℕ) → SharesAt (boxes_of ls bs rs ts n) rect k → k < n
    shares_below k h = let c = box_count in let b = h.below in omega arith

    pub shares_then : (k : ℕ) → SharesAt (boxes_of ls bs rs ts n) rect k → is_beside (corners_at ls bs rs ts k) rect ≡ false
    shares_then k h =
        let l = shares_below k h in
        let c = corners_at ls bs rs ts k in
        sharing_not_beside (box k l) rect (subst (λ (b : Corners). ShareAPoint b.0 b.1 rect.lo rect.hi) (box_at k c l) (h.shares c))

    -- by bits of those beside the rectangle
    bit_free : (b : Bool) → cond {A = ℕ} b 1 0 ≡ 0 → b ≡ false
    bit_free true e = absurd (omega arith)
    bit_free false e = refl

    pub sharing_places : (some others : ℕ) → n ≤ 32 → some < 2 ^ 64 → others < 2 ^ 64 → ((k : ℕ) → IsPlace some k ↔ (k < n)) → ((k : ℕ) → k < n → bit_at others k ≡ cond (is_beside (corners_at ls bs rs ts k) rect) 1 0)
        → (k : ℕ) → IsPlace (bit_and some (2 ^ 64 - 1 - others)) k ↔ SharesAt (boxes_of ls bs rs ts n) rect k
    sharing_places some others few fits small first beside k = (
      (λ h.
          let a = and_le_l some (2 ^ 64 - 1 - others) in
          let r = (without some others k small (place_below _ k (omega arith) h)).0 h in
          let l = (first k).0 r.0 in
          shares_if k l (bit_free _ (sym (beside k l) ∙ r.1))),
      (λ h.
          let l = shares_below k h in
          (without some others k small (omega arith)).1 ((first k).1 l, beside k l ∙ ap (λ (b : Bool). cond {A = ℕ} b 1 0) (shares_then k h))),
    )

-- ---- the bits of sixteen places and of sixteen more
module _ (p : ℕ → Bool) where
  pub low_bits : (n : ℕ) → n ≤ 16 → (k : ℕ) → k < n → bit_at (sixteen p 0) k ≡ cond (p k) 1 0
  low_bits n few k l = let e : 0 + k ≡ k = omega arith in sixteen_bit p 0 k (omega arith) ∙ ap (λ j. cond {A = ℕ} (p j) 1 0) e

  joined : (f s : ℕ) → f < 65536 → s < 65536 → f + s * 65536 % 2 ^ 64 ≡ s * 2 ^ 16 + f
  joined f s a b = omega arith

  pub both_bits : (n : ℕ) → n ≤ 32 → (k : ℕ) → k < n → bit_at (sixteen p 0 + sixteen p 16 * 65536 % 2 ^ 64) k ≡ cond (p k) 1 0
  both_bits n few k l =
      let a = sixteen_small p 0 in
      let b = sixteen_small p 16 in
      let e = ap (λ m. bit_at m k) (joined (sixteen p 0) (sixteen p 16) a b) in
      elim (cases_lt k 16) [
        | inl m ↦ e ∙ bit_at_cat_low (sixteen p 16) 16 (sixteen p 0) k m ∙ low_bits 16 (omega arith) k m
        | inr m ↦
            let f : 16 + (k - 16) ≡ k = omega arith in
            e ∙ bit_at_cat_high (sixteen p 16) 16 (sixteen p 0) k a m ∙ sixteen_bit p 16 (k - 16) (omega arith) ∙ ap (λ j. cond {A = ℕ} (p j) 1 0) f
      ]

  pub both_small : sixteen p 0 + sixteen p 16 * 65536 % 2 ^ 64 < 2 ^ 64
  both_small = let a = sixteen_small p 0 in let b = sixteen_small p 16 in omega arith

-- ---- one more box
pub column_zeros : (n : ℕ) → IsColumn (replicate n (pos 0))
column_zeros n = record { fits = zeros n }
  where
    zeros : (n k : ℕ) → FitsSigned w32 (get_or (replicate n (pos 0)) k (pos 0))
    zeros zero k = record { sfits = omega arith }
    zeros (suc n) zero = record { sfits = omega arith }
    zeros (suc n) (suc k) = zeros n k

pub column_put : (xs : List ℤ) (n : ℕ) (x : ℤ) → IsColumn xs → FitsSigned w32 x → IsColumn (set xs n (to_z w32 (of_z w32 x)))
column_put xs n x h f = rw (to_z-of_z f) (record {
  fits = λ k. elim (cases_eq k n) [
    | inl e ↦ elim (cases_lt n (length xs)) [
      | inl l ↦ rw (e, get_or-set_same xs n x (pos 0) l) f
      | inr l ↦ rw (set_beyond xs n x l) (h.fits k)
    ]
    | inr e ↦ rw (get_or-set_other xs n k x (pos 0) e) (h.fits k)
  ];
})
  where
    set_beyond : (xs : List ℤ) (n : ℕ) (x : ℤ) → length xs ≤ n → set xs n x ≡ xs
    set_beyond [] n x l = refl
    set_beyond (y ∷ ys) zero x l = absurd (omega arith)
    set_beyond (y ∷ ys) (suc n) x l = ap (λ zs. y ∷ zs) (set_beyond ys n x (omega arith))

pub ordered_none : (lows highs : List ℤ) → AreOrdered lows highs 0
ordered_none lows highs = record { ordered = λ k l. absurd (omega arith) }

pub ordered_put : (lows highs : List ℤ) (n : ℕ) (l h : ℤ) → length lows ≡ 32 → length highs ≡ 32 → n < 32 → FitsSigned w32 l → FitsSigned w32 h → l ≤ℤ h → AreOrdered lows highs n
    → AreOrdered (set lows n (to_z w32 (of_z w32 l))) (set highs n (to_z w32 (of_z w32 h))) (n + 1)
ordered_put lows highs n l h a b room f g o old = rw (to_z-of_z f, to_z-of_z g) (record {
  ordered = λ k below. elim (cases_eq k n) [
    | inl e ↦ rw (e, get_or-set_same lows n l (pos 0) (omega arith), get_or-set_same highs n h (pos 0) (omega arith)) o
    | inr e ↦ rw (get_or-set_other lows n k l (pos 0) e, get_or-set_other highs n k h (pos 0) e) (old.ordered k (omega arith))
  ];
})

module _ (ls bs rs ts : List ℤ) (n : ℕ) (l b r t : ℤ) (room : n < 32) (l_long : length ls ≡ 32) (b_long : length bs ≡ 32) (r_long : length rs ≡ 32) (t_long : length ts ≡ 32) where
  abbrev pub new : Corners
  new = (record { x = l; y = b }, record { x = r; y = t })

  pub same_at : (k : ℕ) → k ≢ n → corners_at (set ls n l) (set bs n b) (set rs n r) (set ts n t) k ≡ corners_at ls bs rs ts k
  same_at k e = λ i. (
    record { x = get_or-set_other ls n k l (pos 0) e i; y = get_or-set_other bs n k b (pos 0) e i },
    record { x = get_or-set_other rs n k r (pos 0) e i; y = get_or-set_other ts n k t (pos 0) e i },
  )

  pub new_at : corners_at (set ls n l) (set bs n b) (set rs n r) (set ts n t) n ≡ new
  new_at = λ i. (
    record { x = get_or-set_same ls n l (pos 0) (omega arith) i; y = get_or-set_same bs n b (pos 0) (omega arith) i },
    record { x = get_or-set_same rs n r (pos 0) (omega arith) i; y = get_or-set_same ts n t (pos 0) (omega arith) i },
  )

  pub put_box : boxes_of (set ls n l) (set bs n b) (set rs n r) (set ts n t) (n + 1) ≡ boxes_of ls bs rs ts n ++ new ∷ []
  put_box =
      let now = box_count (set ls n l) (set bs n b) (set rs n r) (set ts n t) (n + 1) in
      let old = box_count ls bs rs ts n in
      let more = length_push (boxes_of ls bs rs ts n) new in
      same_lists _ _ (omega arith) (λ k d below.
      box_at (set ls n l) (set bs n b) (set rs n r) (set ts n t) (n + 1) k d (omega arith)
      ∙ elim (cases_lt k n) [
        | inl m ↦ same_at k (omega arith) ∙ sym (box_at ls bs rs ts n k d m) ∙ sym (get_or_append_left (boxes_of ls bs rs ts n) (new ∷ []) d k (omega arith))
        | inr m ↦
            let e : k ≡ n = omega arith in
            let f : k - n ≡ 0 = omega arith in
            ap (corners_at (set ls n l) (set bs n b) (set rs n r) (set ts n t)) e ∙ new_at ∙ sym (get_or-append_right (boxes_of ls bs rs ts n) (new ∷ []) n k d old m ∙ ap (λ j. get_or (new ∷ []) j d) f)
      ])
