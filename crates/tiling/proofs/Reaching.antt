-- Boxes that have an x between two numbers.
use Rattle.std.proofs.Common.{◌≡◌, ℕ, ◌<◌, ◌≤◌, List, length, sym, ap, ◌∙◌, subst, arith, ℤ, pos, w32, w64, FitsSigned, to_z, of_z, to_z-of_z}
use Rattle.std.specs.Prelude.{◌≤ℤ◌, ◌<ℤ◌, All, Some, slice_get}
use Rattle.std.specs.Int.{int_min}
use Rattle.std.specs.List.{enumerate_from, zip}
use Rattle.std.proofs.lemmas.Int.{ints, by_lt_z}
use Rattle.std.proofs.lemmas.List.{length-map}
use Rattle.std.proofs.lemmas.List.FromFn.{get_or-enumerate_from, length-enumerate_from}
use Rattle.std.proofs.lemmas.List.Sorted.{All-permutation, IsPermutation-sym}
use Rattle.std.proofs.lemmas.Option.{get_or_from_slice_get, slice_get_within}
use Rattle.std.proofs.lemmas.Slice.Zip.{get_or-zip, seconds-zip}
use Rattle.geom.specs.declared.rect.Rect.{Rect}
use Rattle.geom.proofs.Boxes.{share_in, share_out}
use Rattle.geom.proofs.Tests.{lt_yes, lt_no}
use Rattle.geom.proofs.Numbers.{itself}
use Rattle.lane_tests.specs.Boxes.{AreSmall}
use Rattle.lane_tests.specs.Meeting.{AreMeeting, MeetsAt}
use Rattle.tiling.specs.Index.{AreIndexed, AreReaching, IsKept, Item, least}

-- ---- the boxes that were indexed have 32-bit sides
small_items : (numbers : List ℕ) (sorted : List Rect) → length sorted ≡ length numbers → All AreSmall sorted → All (λ (i : Item). AreSmall i.1) (zip numbers sorted)
small_items numbers sorted e small = λ k d l.
    let n : length (zip numbers sorted) ≡ length sorted = sym (length-map (zip numbers sorted) (λ i. i.1)) ∙ ap length (seconds-zip numbers sorted e) in
    subst (λ (i : Item). AreSmall i.1) (sym (get_or-zip numbers sorted k d (omega arith) (omega arith))) (small k d.1 (omega arith))

pub small_all : (items : List Item) (numbers : List ℕ) (sorted : List Rect) (greatest : List ℤ) → IsKept numbers sorted greatest → zip numbers sorted ≡ items → All AreSmall sorted → (boxes : List Rect) → AreIndexed boxes items → All AreSmall boxes
small_all items numbers sorted greatest h v small boxes x = λ k d l.
    let all : All (λ (i : Item). AreSmall i.1) items = subst (λ (is : List Item). All (λ (i : Item). AreSmall i.1) is) v (small_items numbers sorted (sym h.numbers_len) small) in
    let kept = All-permutation (λ (i : Item). AreSmall i.1) items (enumerate_from 0 boxes) (IsPermutation-sym _ _ x.all) all in
    subst AreSmall (ap (λ (i : Item). i.1) (get_or-enumerate_from 0 boxes k (0, d) l)) (kept k (0, d) (omega (arith, l, length-enumerate_from 0 boxes)))

small_box : (boxes : List Rect) → All AreSmall boxes → (number : ℕ) (b : Rect) → slice_get boxes number ≡ Some b → AreSmall b
small_box boxes small number b s = subst AreSmall (get_or_from_slice_get boxes number b b s) (small number b (slice_get_within boxes number b s))

-- ---- a rectangle of full height meets the boxes that have an x in its width
above_least : (z : ℤ) → FitsSigned w32 z → least ≤ℤ z
above_least z h = omega (arith, ints)

below_greatest : (z : ℤ) → FitsSigned w32 z → z ≤ℤ pos 2147483647
below_greatest z h = omega (arith, ints)

to_least : (z a b : ℤ) → z ≤ℤ a → z ≤ℤ b → z ≤ℤ int_min a b
to_least z a b h k = by_lt_z b a (λ l. rw (lt_yes b a l) k) (λ l. rw (lt_no b a l) h)

from_least : (z a b : ℤ) → z ≤ℤ int_min a b → z ≤ℤ a
from_least z a b h = by_lt_z b a (λ l. through z b a (rw (lt_yes b a l) at h) l) (λ l. rw (lt_no b a l) at h)
  where
    through : (z b a : ℤ) → z ≤ℤ b → b <ℤ a → z ≤ℤ a
    through z b a h k = omega (arith, ints)

min_second : (a b : ℤ) → int_min a b ≤ℤ b
min_second a b = by_lt_z b a (λ l. rw (lt_yes b a l) (itself b)) (λ l. rw (lt_no b a l) l)

-- what the code computes
pub right_is : (high m f : ℤ) → FitsSigned w64 high → f ≡ pos 2147483647 → m ≡ int_min (to_z w64 (of_z w64 high)) (to_z w64 (of_z w64 f)) → m ≡ int_min high (pos 2147483647)
right_is high m f g e v =
    let h : FitsSigned w64 f = omega (arith, ints) in
    v ∙ (λ i. int_min (to_z-of_z g i) ((to_z-of_z h ∙ e) i))

pub right_after : (low high m : ℤ) → low ≤ℤ high → FitsSigned w32 low → m ≡ int_min high (pos 2147483647) → low ≤ℤ m
right_after low high m h f e = rw e (to_least low high (pos 2147483647) h (below_greatest low f))

pub right_fits : (low high m : ℤ) → low ≤ℤ high → FitsSigned w32 low → m ≡ int_min high (pos 2147483647) → FitsSigned w32 m
right_fits low high m h f e = fits low m f (right_after low high m h f e) (rw e (min_second high (pos 2147483647)))
  where
    fits : (low m : ℤ) → FitsSigned w32 low → low ≤ℤ m → m ≤ℤ pos 2147483647 → FitsSigned w32 m
    fits low m f h k = omega (arith, ints)

pub right_back : (m : ℤ) → FitsSigned w32 m → to_z w32 (of_z w32 (to_z w64 (of_z w64 m))) ≡ m
right_back m f = omega (arith, ints)

-- the rectangle from low to high, of full height
pub record IsColumn (low high : ℤ) (rect : Rect) : Type 0 where
  pub left : rect.lo.x ≡ low
  pub right : rect.hi.x ≡ int_min high (pos 2147483647)
  pub bottom : rect.lo.y ≡ least
  pub top : rect.hi.y ≡ pos 2147483647

pub reaching : (items : List Item) → ((boxes : List Rect) → AreIndexed boxes items → All AreSmall boxes) → (low high : ℤ) (rect : Rect) → IsColumn low high rect
    → (out : List ℕ) → ((boxes : List Rect) → AreIndexed boxes items → AreMeeting boxes rect 0 (length boxes) out) → (boxes : List Rect) → AreIndexed boxes items → AreReaching boxes low high out
reaching items small low high rect w out found boxes x =
    let m = found boxes x in
    record { ascending = m.ascending; exact = λ number. (λ c. reaches number ((m.exact number).0 c), λ r. (m.exact number).1 (meets number r)) }
  where
    reaches : (number : ℕ) → (0 ≤ number) × (number < length boxes) × MeetsAt boxes rect number → (b : Rect) × (slice_get boxes number ≡ Some b) × (b.lo.x ≤ℤ high) × (low ≤ℤ b.hi.x)
    reaches number (a, l, (b, s, share)) =
        let t = share_in b rect share in
        (b, s, from_least b.lo.x high (pos 2147483647) (subst (λ z. b.lo.x ≤ℤ z) w.right t.0.0), subst (λ z. z ≤ℤ b.hi.x) w.left t.0.1)

    meets : (number : ℕ) → (b : Rect) × (slice_get boxes number ≡ Some b) × (b.lo.x ≤ℤ high) × (low ≤ℤ b.hi.x) → (0 ≤ number) × (number < length boxes) × MeetsAt boxes rect number
    meets number (b, s, i, j) =
        let f = small_box boxes (small boxes x) number b s in (
          omega arith,
          slice_get_within boxes number b s,
          (
            b,
            s,
            share_out b rect
                (subst (λ z. b.lo.x ≤ℤ z) (sym w.right) (to_least b.lo.x high (pos 2147483647) i (below_greatest b.lo.x f.left)), subst (λ z. z ≤ℤ b.hi.x) (sym w.left) j)
                (subst (λ z. b.lo.y ≤ℤ z) (sym w.top) (below_greatest b.lo.y f.bottom), subst (λ z. z ≤ℤ b.hi.y) (sym w.bottom) (above_least b.hi.y f.top)),
          ),
        )
