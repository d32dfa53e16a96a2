-- The index of boxes: how it is built, and what it finds.
use Rattle.std.proofs.Common.{◌≡◌, ◌⊎◌, ℕ, ◌+◌, ◌<◌, ◌≤◌, ◌^◌, true, false, List, [], ◌∷◌, ◌++◌, length, get_or, map, take, refl, sym, ap, ◌∙◌, subst, arith, inl, inr, zero-add, ℤ, pos}
use Rattle.std.specs.Prelude.{◌↔◌, ◌≤ℤ◌, ◌<ℤ◌, FitsSigned, int_le, nat_lt, All, AllPairs, Some, slice_get, count_by}
use Rattle.std.specs.Int.{int_max, w32}
use Rattle.std.specs.List.{enumerate_from, position_or_len, range_with_len, zip}
use Rattle.std.specs.List.Sorted.{IsPermutation, IsSorted, IsSortedByKey}
use Rattle.std.specs.Ordering.{int_cmp, is_lt, nat_cmp, ordering_then}
use Rattle.std.specs.Cmp.{IsStrictWeakOrder}
use Rattle.std.proofs.lemmas.Cmp.{int_cmp_total, nat_cmp_total, on_total, then_total}
use Rattle.std.proofs.lemmas.Int.{ints, by_lt_z}
use Rattle.std.proofs.lemmas.Bool.{cases_lt}
use Rattle.std.proofs.lemmas.List.{get_or-map, get_or_default, length-map, map-append, map_more, take_all}
use Rattle.std.proofs.lemmas.List.Elements.{Contains-get_or}
use Rattle.std.proofs.lemmas.List.FromFn.{fill_by_all, get_or-enumerate_from, get_or-map-range_with_len, length-enumerate_from, length-map-range_with_len, map-range_with_len_more}
use Rattle.std.proofs.lemmas.List.Sorted.{All-permutation, IsPermutation-map, IsPermutation-sym, length_permutation, ranks_by, sorted_far}
use Rattle.std.proofs.lemmas.Option.{get_or_from_slice_get, slice_get_within}
use Rattle.std.proofs.lemmas.Simd.{map-map}
use Rattle.std.proofs.lemmas.Slice.Zip.{firsts-zip, get_or-zip, seconds-zip}
use Rattle.geom.specs.declared.rect.Rect.{Rect}
use Rattle.lane_tests.specs.Columns.{corners, nowhere}
use Rattle.geom.specs.Box.{IsInBox}
use Rattle.geom.specs.declared.point.Pt.{Pt}
use Rattle.geom.proofs.Tests.{lt_yes, lt_no, le_yes, le_no}
use Rattle.geom.proofs.Numbers.{both_ways}
use Rattle.lane_tests.specs.Boxes.{AreSmall}
use Rattle.lane_tests.specs.Meeting.{AreMeeting, MeetsAt}
use Rattle.lane_tests.proofs.Meeting.{filter_meets, meeting_is, shared_whole, whole_shared}
use Rattle.tiling.specs.Index.{AreAscending, AreIndexed, IsKept, IsLeftBefore, Item, count_begun, first_reaching, greatest_of, least, lefts_of, rights_of, running}
use Rattle.grid.specs.Tiles.{Owns, Tiling}
use Rattle.grid.specs.Bins.{IsBin, MeetsTile}
use Rattle.tiling.specs.Bins.{Binned}
use Rattle.tiling.proofs.Placing.{count-map, count_is, position-map, position_is}
use Rattle.tiling.proofs.Binning.{IsIndex, bin_is}
use Rattle.tiling.proofs.Running.{first_running, greatest_of-push, length-running, running-push, running_covers, running_up}

abbrev pub Key : Type 0
Key = ℤ × ℕ

-- the box that stands where there is none
pub anything : Rect
anything = record { lo = record { x = pos 0; y = pos 0 }; hi = record { x = pos 0; y = pos 0 }; wide = omega (arith, ints); high = omega (arith, ints) }

abbrev pub box_of : List Rect → Key → Rect
box_of boxes key = get_or boxes key.1 anything

abbrev pub item_of : List Rect → Key → Item
item_of boxes key = (key.1, box_of boxes key)

abbrev pub key_at : List Rect → ℕ → Key
key_at boxes k = (get_or (lefts_of boxes) k (pos 0), k)

-- ---- keys
pub record IsKey (boxes : List Rect) (key : Key) : Type 0 where
  pub within : key.1 < length boxes
  pub left_is : key.0 ≡ (box_of boxes key).lo.x

key_made : (boxes : List Rect) (k : ℕ) → k < length boxes → IsKey boxes (key_at boxes k)
key_made boxes k l = record { within = l; left_is = get_or-map (λ r. r.lo.x) boxes k anything (pos 0) l }

made_keys : (boxes : List Rect) → All (IsKey boxes) (map (key_at boxes) (range_with_len 0 (length boxes)))
made_keys boxes = λ k d l.
    let m : k < length boxes = omega (arith, l, length-map-range_with_len (key_at boxes) 0 (length boxes)) in
    subst (IsKey boxes) (sym (get_or-map-range_with_len (key_at boxes) 0 (length boxes) k k d m (zero-add k))) (key_made boxes k m)

pub are_keys : (boxes : List Rect) (keys : List Key) → IsPermutation (map (key_at boxes) (range_with_len 0 (length boxes))) keys → All (IsKey boxes) keys
are_keys boxes keys p = All-permutation (IsKey boxes) (map (key_at boxes) (range_with_len 0 (length boxes))) keys p (made_keys boxes)

-- ---- items
zip_maps : {K X Y : Type 0} (f : K → X) (g : K → Y) (ks : List K) → zip (map f ks) (map g ks) ≡ map (λ k. (f k, g k)) ks
zip_maps f g [] = refl
zip_maps f g (k ∷ ks) = ap (λ ps. (f k, g k) ∷ ps) (zip_maps f g ks)

numbered : (boxes : List Rect) → enumerate_from 0 boxes ≡ map (λ k. (k, get_or boxes k anything)) (range_with_len 0 (length boxes))
numbered boxes = fill_by_all (λ k. (k, get_or boxes k anything)) (enumerate_from 0 boxes) (length boxes) (0, anything) (length-enumerate_from 0 boxes)
    (λ k l. get_or-enumerate_from 0 boxes k (0, anything) l ∙ ap (λ (m : ℕ). (m, get_or boxes k anything)) (zero-add k))

all_items : (boxes : List Rect) (keys : List Key) → IsPermutation (map (key_at boxes) (range_with_len 0 (length boxes))) keys → IsPermutation (enumerate_from 0 boxes) (map (item_of boxes) keys)
all_items boxes keys p =
    let e : map (item_of boxes) (map (key_at boxes) (range_with_len 0 (length boxes))) ≡ enumerate_from 0 boxes = map-map (item_of boxes) (key_at boxes) (range_with_len 0 (length boxes)) ∙ sym (numbered boxes) in
    subst (λ (xs : List Item). IsPermutation xs (map (item_of boxes) keys)) e (IsPermutation-map (item_of boxes) (map (key_at boxes) (range_with_len 0 (length boxes))) keys p)

-- ---- order

nat_yes : (m n : ℕ) → m < n → nat_lt m n ≡ true
nat_yes m n h = grind arith

not_less : (m n : ℕ) → is_lt (nat_cmp m n) ≡ false → n ≤ m
not_less m n h = elim (cases_lt m n) [
  | inl less ↦ (let t = rw (nat_yes m n less) at h in cc)
  | inr more ↦ more
]

-- of two keys that are not the other way round, the first is before the second
before_from : (a b : Key) → is_lt (ordering_then (int_cmp b.0 a.0) (nat_cmp b.1 a.1)) ≡ false → (a.0 <ℤ b.0) ⊎ ((a.0 ≡ b.0) × (a.1 ≤ b.1))
before_from a b h = by_lt_z a.0 b.0 (λ l. inl l) (λ l. by_lt_z b.0 a.0
    (λ m. let t = rw (lt_yes b.0 a.0 m) at h in cc)
    (λ m. let t = rw (lt_no b.0 a.0 m, lt_no a.0 b.0 l) at h in inr (both_ways a.0 b.0 m l, not_less b.1 a.1 t)))

weak : IsStrictWeakOrder (λ (x y : Key). is_lt (ordering_then (int_cmp x.0 y.0) (nat_cmp x.1 y.1)))
weak = ranks_by (then_total (on_total (λ (k : Key). k.0) int_cmp_total) (on_total (λ (k : Key). k.1) nat_cmp_total)) (λ (k : Key). k)

placed : (boxes : List Rect) (a b : Key) → IsKey boxes a → IsKey boxes b → (a.0 <ℤ b.0) ⊎ ((a.0 ≡ b.0) × (a.1 ≤ b.1)) → IsLeftBefore (item_of boxes a) (item_of boxes b)
placed boxes a b h k (inl l) = inl (moved a.0 b.0 _ _ h.left_is k.left_is l)
  where
    moved : (a b c d : ℤ) → a ≡ c → b ≡ d → a <ℤ b → c <ℤ d
    moved a b c d e f l = omega (arith, ints)
placed boxes a b h k (inr (e, m)) = inr (sym h.left_is ∙ e ∙ k.left_is, m)

ordered_items : (boxes : List Rect) (keys : List Key) → All (IsKey boxes) keys → IsSorted (λ x y. ordering_then (int_cmp x.0 y.0) (nat_cmp x.1 y.1)) keys → AllPairs IsLeftBefore (map (item_of boxes) keys)
ordered_items boxes keys o s = λ i j d l m.
    let n : j < length keys = omega (arith, m, length-map keys (item_of boxes)) in
    let k : i < length keys = omega arith in
    let none : Key = (pos 0, 0) in
    let h = before_from (get_or keys i none) (get_or keys j none) (sorted_far (λ (x y : Key). is_lt (ordering_then (int_cmp x.0 y.0) (nat_cmp x.1 y.1))) weak keys s i j none (omega arith) n) in
    subst (λ (y : Item). IsLeftBefore (get_or (map (item_of boxes) keys) i d) y) (sym (get_or-map (item_of boxes) keys j none d n))
    (subst (λ (x : Item). IsLeftBefore x (item_of boxes (get_or keys j none))) (sym (get_or-map (item_of boxes) keys i none d k))
    (placed boxes (get_or keys i none) (get_or keys j none) (o i none k) (o j none n) h))

-- ---- the lists while they are built
pub record IsBuilt (boxes : List Rect) (keys : List Key) (i : ℕ) (sorted : List Rect) (numbers : List ℕ) (greatest : List ℤ) (right : ℤ) : Type 0 where
  pub sorted_are : sorted ≡ map (box_of boxes) (take i keys)
  pub numbers_are : numbers ≡ map (λ k. k.1) (take i keys)
  pub greatest_are : greatest ≡ running least (rights_of sorted)
  pub right_is : right ≡ greatest_of least (rights_of sorted)

pub built_none : (boxes : List Rect) (keys : List Key) → IsBuilt boxes keys 0 [] [] [] least
built_none boxes keys = record { sorted_are = refl; numbers_are = refl; greatest_are = refl; right_is = refl }

pub built_more : (boxes : List Rect) (keys : List Key) (i : ℕ) (sorted sorted' : List Rect) (numbers numbers' : List ℕ) (greatest greatest' : List ℤ) (right right' : ℤ) (key : Key) (rect : Rect)
    → IsBuilt boxes keys i sorted numbers greatest right → i < length keys → key ≡ get_or keys i key → slice_get boxes key.1 ≡ Some rect → right' ≡ int_max right rect.hi.x
    → sorted' ≡ sorted ++ rect ∷ [] → numbers' ≡ numbers ++ key.1 ∷ [] → greatest' ≡ greatest ++ right' ∷ [] → IsBuilt boxes keys (i + 1) sorted' numbers' greatest' right'
built_more boxes keys i sorted sorted' numbers numbers' greatest greatest' right right' key rect h l at is m e f g =
    let rights : rights_of sorted' ≡ rights_of sorted ++ rect.hi.x ∷ [] = ap rights_of e ∙ map-append (λ r. r.hi.x) sorted (rect ∷ []) in
    let box : rect ≡ box_of boxes (get_or keys i key) = sym (get_or_from_slice_get boxes key.1 rect anything is) ∙ ap (box_of boxes) at in
    let top : right' ≡ int_max (greatest_of least (rights_of sorted)) rect.hi.x = m ∙ ap (λ z. int_max z rect.hi.x) h.right_is in
    record {
      sorted_are = e ∙ (λ j. h.sorted_are j ++ box j ∷ []) ∙ sym (map_more (box_of boxes) keys i key l);
      numbers_are = f ∙ (λ j. h.numbers_are j ++ (at j).1 ∷ []) ∙ sym (map_more (λ k. k.1) keys i key l);
      greatest_are = g ∙ (λ j. h.greatest_are j ++ top j ∷ []) ∙ sym (running-push least (rights_of sorted) rect.hi.x) ∙ ap (running least) (sym rights);
      right_is = top ∙ sym (greatest_of-push least (rights_of sorted) rect.hi.x) ∙ ap (greatest_of least) (sym rights);
    }

left_order : (boxes : List Rect) (keys : List Key) → All (IsKey boxes) keys → IsSorted (λ x y. ordering_then (int_cmp x.0 y.0) (nat_cmp x.1 y.1)) keys → AreAscending (lefts_of (map (box_of boxes) keys))
left_order boxes keys o s = record { ascend = λ i j l m. up i j l (omega (arith, m, length-map keys (box_of boxes), length-map (map (box_of boxes) keys) (λ r. r.lo.x))) }
  where
    none : Key
    none = (pos 0, 0)

    left_at : (k : ℕ) → k < length keys → get_or (lefts_of (map (box_of boxes) keys)) k (pos 0) ≡ (get_or keys k none).0
    left_at k l = get_or-map (λ r. r.lo.x) (map (box_of boxes) keys) k anything (pos 0) (omega (arith, length-map keys (box_of boxes)))
        ∙ ap (λ r. r.lo.x) (get_or-map (box_of boxes) keys k none anything l) ∙ sym (o k none l).left_is

    in_order : (a b : Key) → (a.0 <ℤ b.0) ⊎ ((a.0 ≡ b.0) × (a.1 ≤ b.1)) → a.0 ≤ℤ b.0
    in_order a b (inl l) = omega (arith, ints)
    in_order a b (inr (e, m)) = omega (arith, ints)

    up : (i j : ℕ) → i ≤ j → j < length keys → get_or (lefts_of (map (box_of boxes) keys)) i (pos 0) ≤ℤ get_or (lefts_of (map (box_of boxes) keys)) j (pos 0)
    up i j l m =
        let h = in_order (get_or keys i none) (get_or keys j none) (before_from (get_or keys i none) (get_or keys j none) (sorted_far (λ (x y : Key). is_lt (ordering_then (int_cmp x.0 y.0) (nat_cmp x.1 y.1))) weak keys s i j none l m)) in
        rw (left_at i (omega arith), left_at j m) h

same_count : (boxes : List Rect) (keys : List Key) → IsPermutation (map (key_at boxes) (range_with_len 0 (length boxes))) keys → length keys ≡ length boxes
same_count boxes keys p = length_permutation (map (key_at boxes) (range_with_len 0 (length boxes))) keys p ∙ length-map-range_with_len (key_at boxes) 0 (length boxes)

module _ (boxes : List Rect) (keys : List Key) (p : IsPermutation (map (key_at boxes) (range_with_len 0 (length boxes))) keys) (s : IsSorted (λ x y. ordering_then (int_cmp x.0 y.0) (nat_cmp x.1 y.1)) keys)
    (sorted : List Rect) (numbers : List ℕ) (greatest : List ℤ) (right : ℤ) (n : ℕ) (whole : length keys ≤ n) (h : IsBuilt boxes keys n sorted numbers greatest right) where
  sorted_all : sorted ≡ map (box_of boxes) keys
  sorted_all = h.sorted_are ∙ ap (map (box_of boxes)) (take_all n keys whole)

  numbers_all : numbers ≡ map (λ k. k.1) keys
  numbers_all = h.numbers_are ∙ ap (map (λ k. k.1)) (take_all n keys whole)

  items_all : zip numbers sorted ≡ map (item_of boxes) keys
  items_all = (λ i. zip (numbers_all i) (sorted_all i)) ∙ zip_maps (λ k. k.1) (box_of boxes) keys

  pub built_indexed : AreIndexed boxes (zip numbers sorted)
  built_indexed = rw items_all (record { all = all_items boxes keys p; ordered = ordered_items boxes keys (are_keys boxes keys p) s })

  pub built_kept : length boxes < 2 ^ 32 → IsKept numbers sorted greatest
  built_kept few = record {
    numbers_len = ap length numbers_all ∙ length-map keys (λ k. k.1) ∙ sym (ap length sorted_all ∙ length-map keys (box_of boxes));
    few = (let e = ap length sorted_all ∙ length-map keys (box_of boxes) ∙ same_count boxes keys p in omega arith);
    lefts_up = rw sorted_all (left_order boxes keys (are_keys boxes keys p) s);
    greatest_are = h.greatest_are;
  }

-- ---- what the index finds
record IsItem (boxes : List Rect) (item : Item) : Type 0 where
  within : item.0 < length boxes
  box_is : get_or boxes item.0 anything ≡ item.1

made_items : (boxes : List Rect) → All (IsItem boxes) (enumerate_from 0 boxes)
made_items boxes = λ k d l.
    let m : k < length boxes = omega (arith, l, length-enumerate_from 0 boxes) in
    let e : get_or (enumerate_from 0 boxes) k d ≡ (k, get_or boxes k anything) = get_or_default (enumerate_from 0 boxes) k d (0, anything) l ∙ get_or-enumerate_from 0 boxes k (0, anything) m ∙ ap (λ (m : ℕ). (m, get_or boxes k anything)) (zero-add k) in
    subst (IsItem boxes) (sym e) (record { within = m; box_is = refl })

firsts : (a : ℕ) (boxes : List Rect) → map (λ i. i.0) (enumerate_from a boxes) ≡ range_with_len a (length boxes)
firsts a [] = refl
firsts a (b ∷ bs) = ap (λ ns. a ∷ ns) (firsts (a + 1) bs)

module _ (boxes sorted : List Rect) (numbers : List ℕ) (greatest : List ℤ) (h : IsKept numbers sorted greatest) (x : AreIndexed boxes (zip numbers sorted)) where
  same_number : length sorted ≡ length boxes
  same_number =
      let e : length (zip numbers sorted) ≡ length sorted = sym (length-map (zip numbers sorted) (λ i. i.1)) ∙ ap length (seconds-zip numbers sorted (sym h.numbers_len)) in
      sym e ∙ length_permutation (enumerate_from 0 boxes) (zip numbers sorted) x.all ∙ length-enumerate_from 0 boxes

  numbers_perm : IsPermutation numbers (range_with_len 0 (length boxes))
  numbers_perm =
      let e = IsPermutation-map (λ (i : Item). i.0) (enumerate_from 0 boxes) (zip numbers sorted) x.all in
      IsPermutation-sym _ _ (rw (firsts 0 boxes, firsts-zip numbers sorted (sym h.numbers_len)) at e)

  item_at : (k : ℕ) → k < length sorted → IsItem boxes (get_or numbers k 0, get_or sorted k anything)
  item_at k l =
      let e : get_or (zip numbers sorted) k (0, anything) ≡ (get_or numbers k 0, get_or sorted k anything) = get_or-zip numbers sorted k (0, anything) (omega (arith, h.numbers_len)) l in
      let n : k < length (zip numbers sorted) = (let f = sym (length-map (zip numbers sorted) (λ i. i.1)) ∙ ap length (seconds-zip numbers sorted (sym h.numbers_len)) in omega arith) in
      subst (IsItem boxes) e (All-permutation (IsItem boxes) (enumerate_from 0 boxes) (zip numbers sorted) x.all (made_items boxes) k (0, anything) n)

  ends_at : (k : ℕ) → k < length sorted → get_or (map corners sorted) k nowhere ≡ corners (get_or sorted k anything)
  ends_at k l = get_or-map corners sorted k anything nowhere l

  index : IsIndex (map corners boxes) (map corners sorted) numbers (lefts_of sorted) greatest
  index = record {
    order_len = h.numbers_len ∙ same_number ∙ sym (length-map boxes corners);
    lefts_len = length-map sorted (λ r. r.lo.x) ∙ same_number ∙ sym (length-map boxes corners);
    permutation = rw (length-map boxes corners) numbers_perm;
    sorted_is = λ k l.
        let m : k < length sorted = omega (arith, l, length-map boxes corners, same_number) in
        let i = item_at k m in
        ends_at k m ∙ ap corners (sym i.box_is) ∙ sym (get_or-map corners boxes (get_or numbers k 0) anything nowhere i.within);
    lefts_are = λ k l.
        let m : k < length sorted = omega (arith, l, length-map boxes corners, same_number) in
        get_or-map (λ r. r.lo.x) sorted k anything (pos 0) m ∙ ap (λ p. p.0.x) (sym (ends_at k m));
    greatest_is = λ k l.
        let m : k < length sorted = omega (arith, l, length-map boxes corners, same_number) in
        let a : get_or (rights_of sorted) k (pos 0) ≡ (get_or (map corners sorted) k nowhere).1.x = get_or-map (λ r. r.hi.x) sorted k anything (pos 0) m ∙ ap (λ p. p.1.x) (sym (ends_at k m)) in
        rw (sym a, h.greatest_are) (running_covers least (rights_of sorted) k (omega (arith, length-map sorted (λ r. r.hi.x))));
  }

  pub finds : (r : Rect) (from to : ℕ) (found now out : List ℕ) → from ≤ to → to ≤ length (lefts_of sorted) → ((k : ℕ) → k < from → get_or greatest k (pos 0) <ℤ r.lo.x) → ((k : ℕ) → to ≤ k → k < length (lefts_of sorted) → r.hi.x <ℤ get_or (lefts_of sorted) k (pos 0))
      → AreMeeting sorted r from to found → now ≡ map (λ k. get_or numbers k 0) found → IsPermutation now out → IsSortedByKey (λ x. x) nat_cmp out → AreMeeting boxes r 0 (length boxes) out
  finds r from to found now out order within before after m e p s =
      let is = meeting_is sorted r from to found order (omega (arith, within, length-map sorted (λ r. r.lo.x))) m in
      let same = bin_is (map corners boxes) (map corners sorted) numbers (lefts_of sorted) greatest index r from to order within before after now out (e ∙ ap (map (λ k. get_or numbers k 0)) is) p s in
      rw (same, length-map boxes corners) (filter_meets boxes r 0 (length boxes) (omega arith) (omega arith))

pub found_within : (sorted : List Rect) (numbers : List ℕ) (greatest : List ℤ) → IsKept numbers sorted greatest → (r : Rect) (from to : ℕ) (found : List ℕ) → to ≤ length (lefts_of sorted) → AreMeeting sorted r from to found → (k : ℕ) → k < length found → get_or found k 0 < length numbers
found_within sorted numbers greatest h r from to found within m k l =
    let i = ((m.exact (get_or found k 0)).0 (Contains-get_or found k 0 l)) in
    omega (arith, i.1, within, length-map sorted (λ r. r.lo.x), h.numbers_len)

-- ---- one key more
pub keys_more : (boxes : List Rect) (lefts : List ℤ) (n : ℕ) (x : ℤ) (old now : List Key) → lefts ≡ lefts_of boxes → x ≡ get_or lefts n (pos 0) → old ≡ map (key_at boxes) (range_with_len 0 n) → now ≡ old ++ (x, n) ∷ [] → now ≡ map (key_at boxes) (range_with_len 0 (n + 1))
keys_more boxes lefts n x old now l e h f =
    f ∙ (λ i. h i ++ ((e ∙ ap (λ ls. get_or ls n (pos 0)) l) i, n) ∷ []) ∙ sym (map-range_with_len_more (key_at boxes) 0 n n (zero-add n))

pub left_fits : (boxes : List Rect) (lefts : List ℤ) (n : ℕ) → All AreSmall boxes → lefts ≡ lefts_of boxes → n < length boxes → FitsSigned w32 (get_or lefts n (pos 0))
left_fits boxes lefts n small e l = rw (e, get_or-map (λ r. r.lo.x) boxes n anything (pos 0) l) (small n anything l).left

-- ---- one box more
pub lent_keys : (boxes : List Rect) (keys items : List Key) → items ≡ keys → IsPermutation (map (key_at boxes) (range_with_len 0 (length boxes))) keys → IsPermutation (map (key_at boxes) (range_with_len 0 (length boxes))) items
lent_keys boxes keys items e p = subst (λ (ks : List Key). IsPermutation (map (key_at boxes) (range_with_len 0 (length boxes))) ks) (sym e) p

pub lent_order : (keys items : List Key) → items ≡ keys → IsSorted (λ x y. ordering_then (int_cmp x.0 y.0) (nat_cmp x.1 y.1)) keys → IsSorted (λ x y. ordering_then (int_cmp x.0 y.0) (nat_cmp x.1 y.1)) items
lent_order keys items e s = subst (λ (ks : List Key). IsSorted (λ x y. ordering_then (int_cmp x.0 y.0) (nat_cmp x.1 y.1)) ks) (sym e) s

pub key_within : (boxes : List Rect) (keys items : List Key) → items ≡ keys → IsPermutation (map (key_at boxes) (range_with_len 0 (length boxes))) keys → (k : ℕ) → k < length items → (get_or items k (pos 0, 0)).1 < length boxes
key_within boxes keys items e p k l = (are_keys boxes items (lent_keys boxes keys items e p) k (pos 0, 0) l).within

-- ---- places

rights_of_items : (numbers : List ℕ) (sorted : List Rect) → length sorted ≡ length numbers → map (λ i. i.1.hi.x) (zip numbers sorted) ≡ rights_of sorted
rights_of_items numbers sorted e = sym (map-map (λ r. r.hi.x) (λ i. i.1) (zip numbers sorted)) ∙ ap rights_of (seconds-zip numbers sorted e)

lefts_of_items : (numbers : List ℕ) (sorted : List Rect) → length sorted ≡ length numbers → map (λ i. i.1.lo.x) (zip numbers sorted) ≡ lefts_of sorted
lefts_of_items numbers sorted e = sym (map-map (λ r. r.lo.x) (λ i. i.1) (zip numbers sorted)) ∙ ap lefts_of (seconds-zip numbers sorted e)

least_right : (sorted : List Rect) → All AreSmall sorted → (k : ℕ) → k < length (rights_of sorted) → least ≤ℤ get_or (rights_of sorted) k (pos 0)
least_right sorted small k l =
    let m : k < length sorted = omega (arith, l, length-map sorted (λ r. r.hi.x)) in
    rw (get_or-map (λ r. r.hi.x) sorted k anything (pos 0) m) (from_least _ (small k anything m).right)
  where
    from_least : (z : ℤ) → FitsSigned w32 z → least ≤ℤ z
    from_least z h = omega (arith, ints)

pub first_is : (items : List Item) (numbers : List ℕ) (sorted : List Rect) (greatest column : List ℤ) → IsKept numbers sorted greatest → zip numbers sorted ≡ items → All AreSmall sorted → column ≡ greatest → (low : ℤ) (n : ℕ) → n ≤ length column
    → ((k : ℕ) → k < n → get_or column k (pos 0) <ℤ low) → ((k : ℕ) → n ≤ k → k < length column → low ≤ℤ get_or column k (pos 0)) → n ≡ first_reaching low items
first_is items numbers sorted greatest column h v small e low n l before after =
    position_is (int_le low) column n l (λ k m. le_no _ _ (before k m)) (λ k m o. le_yes _ _ (after k m o))
    ∙ ap (position_or_len (int_le low)) (e ∙ h.greatest_are)
    ∙ first_running low least (rights_of sorted) (least_right sorted small)
    ∙ ap (position_or_len (int_le low)) (sym (rights_of_items numbers sorted (sym h.numbers_len)))
    ∙ position-map (int_le low) (λ i. i.1.hi.x) (zip numbers sorted) ∙ ap (first_reaching low) v

pub begun_is : (items : List Item) (numbers : List ℕ) (sorted : List Rect) (greatest column : List ℤ) → IsKept numbers sorted greatest → zip numbers sorted ≡ items → column ≡ lefts_of sorted → (high : ℤ) (n : ℕ) → n ≤ length column
    → ((k : ℕ) → k < n → get_or column k (pos 0) ≤ℤ high) → ((k : ℕ) → n ≤ k → k < length column → high <ℤ get_or column k (pos 0)) → n ≡ count_begun high items
begun_is items numbers sorted greatest column h v e high n l before after =
    count_is (λ z. int_le z high) column n l (λ k m o. le_yes _ _ (before k m)) (λ k m o. le_no _ _ (after k m o))
    ∙ ap (count_by (λ z. int_le z high)) (e ∙ sym (lefts_of_items numbers sorted (sym h.numbers_len)))
    ∙ count-map (λ z. int_le z high) (λ i. i.1.lo.x) (zip numbers sorted) ∙ ap (count_begun high) v

pub kept_up : (numbers : List ℕ) (sorted : List Rect) (greatest column : List ℤ) → IsKept numbers sorted greatest → column ≡ greatest → AreAscending column
kept_up numbers sorted greatest column h e = rw (e, h.greatest_are) (running_up least (rights_of sorted))

pub kept_len : (numbers : List ℕ) (sorted : List Rect) (greatest column lefts : List ℤ) → IsKept numbers sorted greatest → column ≡ greatest → lefts ≡ lefts_of sorted → length column ≡ length lefts
kept_len numbers sorted greatest column lefts h e f =
    ap length (e ∙ h.greatest_are) ∙ length-running least (rights_of sorted) ∙ length-map sorted (λ r. r.hi.x) ∙ sym (ap length f ∙ length-map sorted (λ r. r.lo.x))

pub items_len : (items : List Item) (numbers : List ℕ) (sorted : List Rect) (greatest lefts : List ℤ) → IsKept numbers sorted greatest → zip numbers sorted ≡ items → lefts ≡ lefts_of sorted → length lefts ≡ length items
items_len items numbers sorted greatest lefts h v e =
    ap length (e ∙ sym (lefts_of_items numbers sorted (sym h.numbers_len))) ∙ length-map (zip numbers sorted) (λ i. i.1.lo.x) ∙ ap length v

-- what was found, in terms of the items
pub finds_all : (items : List Item) (numbers : List ℕ) (sorted : List Rect) (greatest column lefts : List ℤ) (order : List ℕ) → IsKept numbers sorted greatest → zip numbers sorted ≡ items → column ≡ greatest → lefts ≡ lefts_of sorted → order ≡ numbers
    → (r : Rect) (from to : ℕ) (found now out : List ℕ) → from ≤ to → to ≤ length lefts → ((k : ℕ) → k < from → get_or column k (pos 0) <ℤ r.lo.x) → ((k : ℕ) → to ≤ k → k < length lefts → r.hi.x <ℤ get_or lefts k (pos 0))
    → AreMeeting sorted r from to found → now ≡ map (λ k. get_or order k 0) found → IsPermutation now out → IsSortedByKey (λ x. x) nat_cmp out → (boxes : List Rect) → AreIndexed boxes items → AreMeeting boxes r 0 (length boxes) out
finds_all items numbers sorted greatest column lefts order h v e f o r from to found now out l w before after m n p s boxes x =
    finds boxes sorted numbers greatest h (rw v x) r from to found now out l (rw (sym f) w)
    (λ k q. rw (sym e) (before k q)) (λ k q t. rw (sym f) (after k q (rw f t))) m (n ∙ ap (λ ns. map (λ k. get_or ns k 0) found) o) p s

-- ---- bins
pub bin_from : (g : Tiling) (items : List Item) (b : Binned) → record { grid = g; items = items } ≡ b → (rect : Rect) (k : ℕ) → ((p : Pt) → IsInBox rect.lo rect.hi p ↔ Owns g k p) → (out : List ℕ)
    → ((boxes : List Rect) → AreIndexed boxes items → AreMeeting boxes rect 0 (length boxes) out) → (boxes : List Rect) → AreIndexed boxes b.items → IsBin b.grid k boxes out
bin_from g items b e rect k exact out found =
    subst (λ (b : Binned). (boxes : List Rect) → AreIndexed boxes b.items → IsBin b.grid k boxes out) e (λ boxes x. bin boxes (found boxes x))
  where
    to_tile : (boxes : List Rect) (number : ℕ) → (0 ≤ number) × (number < length boxes) × MeetsAt boxes rect number → MeetsTile g k boxes number
    to_tile boxes number (a, l, (b, s, h)) = let w = shared_whole b rect h in (b, s, (w.0, w.1, (exact w.0).0 w.2))

    from_tile : (boxes : List Rect) (number : ℕ) → MeetsTile g k boxes number → (0 ≤ number) × (number < length boxes) × MeetsAt boxes rect number
    from_tile boxes number (b, s, (p, i, o)) = (omega arith, slice_get_within boxes number b s, (b, s, whole_shared b rect p i ((exact p).1 o)))

    bin : (boxes : List Rect) → AreMeeting boxes rect 0 (length boxes) out → IsBin g k boxes out
    bin boxes m = record { ascending = m.ascending; exact = λ number. (λ c. to_tile boxes number ((m.exact number).0 c), λ t. (m.exact number).1 (from_tile boxes number t)) }
