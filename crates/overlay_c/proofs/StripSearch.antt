-- A search by halves for an item of a list that ascends; and lists of which a front is in place, or has the same numbers.
use Rattle.std.proofs.Common.{◌≡◌, ◌⊎◌, ◌<◌, ◌≤◌, ◌+◌, ◌∙◌, inl, inr, ℕ, Bool, true, false, List, arith, get_or, length, refl, subst, sym, take}
use Rattle.std.specs.Prelude.{◌≢◌, AllPairs, MatchBool, MatchOption, None, Option, Some, nat_lt, not, slice_get}
use Rattle.std.specs.List.Sorted.{IsPartitionedBy}
use Rattle.std.proofs.lemmas.Bool.{cases_lt, cases_order, false≢true, lt-ltb, ltb-true}
use Rattle.std.proofs.lemmas.List.{get_or-map, get_or_default, length-map, take_more_same}
use Rattle.std.proofs.lemmas.Option.{slice_get-get_or, slice_get_past}
use Rattle.geom.specs.declared.point.Pt.{Pt}
use Rattle.geom.specs.Order.{IsBefore}
use Rattle.geom.proofs.Edges.{PtOrder, pt_order}
use Rattle.geom.proofs.Edges.PtOrder.{before, equal, after}
use Rattle.geom.proofs.Orders.{before_itself, before_trans}
use Rattle.overlay_c.specs.declared.strip_items.OverlayCarried.{OverlayCarried}
use Rattle.overlay_c.specs.declared.strip_items.OverlayCounted.{OverlayCounted}
use Rattle.overlay_c.specs.declared.strip_items.OverlayOpen.{OverlayOpen}
use Rattle.overlay_c.specs.Search.{IsFirstUnlike, IsUnlike}
use Rattle.overlay_c.specs.Search.IsUnlike.{is_none, is_after}
use Rattle.overlay_c.specs.Strips.{AreInPlace, IsCarriedBefore, IsCountedBefore, IsFirstBad, IsFirstDifference, IsInPlace, IsOther, carried_numbers, counted_end, counted_start, open_numbers}

-- ---- one more in place
pub more_in_place : {X : Type 0} (IsItem : X → Type 0) (Before : X → X → Type 0) (items : List X) (place : ℕ) → ((k : ℕ) → k < place → IsInPlace IsItem Before items k) → IsInPlace IsItem Before items place
    → (k : ℕ) → k < place + 1 → IsInPlace IsItem Before items k
more_in_place IsItem Before items place h at k less = elim (cases_lt k place) [
  | inl l ↦ h k l
  | inr m ↦ let e : place ≡ k = omega (arith, less, m) in subst (λ (n : ℕ). IsInPlace IsItem Before items n) e at
]

-- ---- tests that are exact
module _ {X : Type 0} (IsItem Passes Fails : X → Type 0) (Before PassesOrder FailsOrder : X → X → Type 0) (yes : (x : X) → Passes x → IsItem x) (no : (x : X) → Fails x → IsItem x → ⊥)
    (before : (x y : X) → PassesOrder x y → Before x y) (never : (x y : X) → FailsOrder x y → Before x y → ⊥) (items : List X) where
  place_told : (k : ℕ) → IsInPlace Passes PassesOrder items k → IsInPlace IsItem Before items k
  place_told k at = record { is_item = λ d. yes (get_or items k d) (at.is_item d); behind = λ d less. before _ _ (at.behind d less) }

  unlike_told : (d : X) (k : ℕ) → IsUnlike Fails FailsOrder items k → IsInPlace IsItem Before items k → ⊥
  unlike_told d k (is_none h) at = no (get_or items k d) (h d) (at.is_item d)
  unlike_told d k (is_after less h) at = never _ _ (h d) (at.behind d less)

  -- the first item that fails them is the first bad one
  pub told_bad : (d : X) (r : Option ℕ) → MatchOption r (AreInPlace Passes PassesOrder items) (λ place. IsFirstUnlike Passes Fails PassesOrder FailsOrder items place)
      → MatchOption r (AreInPlace IsItem Before items) (λ place. IsFirstBad IsItem Before items place)
  told_bad d None h = λ place less. place_told place (h place less)
  told_bad d (Some place) h = record { within = h.within; before = λ k less. place_told k (h.before k less); bad = unlike_told d place h.unlike }

-- ---- numbers
pub same_more : (right : List OverlayOpen) (carried : List OverlayCarried) (place : ℕ) (o : OverlayOpen) (c : OverlayCarried) → place < length right → place < length carried
    → take place (open_numbers right) ≡ take place (carried_numbers carried) → (get_or right place o).number ≡ (get_or carried place c).number
    → take (place + 1) (open_numbers right) ≡ take (place + 1) (carried_numbers carried)
same_more right carried place o c first second same e = take_more_same (open_numbers right) (carried_numbers carried) place 0
    (subst (λ (n : ℕ). place < n) (sym (length-map right (λ (x : OverlayOpen). x.number))) first)
    (subst (λ (n : ℕ). place < n) (sym (length-map carried (λ (x : OverlayCarried). x.number))) second) same
    (get_or-map (λ (x : OverlayOpen). x.number) right place o 0 first ∙ e ∙ sym (get_or-map (λ (x : OverlayCarried). x.number) carried place c 0 second))

one_ends : (xs ys : List ℕ) (k : ℕ) → k < length xs → length ys ≤ k → slice_get xs k ≡ slice_get ys k → ⊥
one_ends xs ys k inside past e = let f : Some (get_or xs k 0) ≡ None = sym (slice_get-get_or xs k 0 inside) ∙ e ∙ slice_get_past ys k past in absurd (cc)

pub apart : (a b : ℕ) → a ≤ b → (a ≡ b → ⊥) → a < b
apart a b less never = elim (cases_lt a b) [ inl h ↦ h | inr h ↦ absurd (never (omega (arith, less, h))) ]

ends_differ : (xs ys : List ℕ) (k : ℕ) → k ≤ length xs → k ≤ length ys → length xs ≢ length ys → (k < length xs → length ys ≤ k) → slice_get xs k ≢ slice_get ys k
ends_differ xs ys k l m differ other e = elim (cases_lt k (length xs)) [
  | inl h ↦ one_ends xs ys k h (other h) e
  | inr h ↦ one_ends ys xs k (apart k (length ys) m (λ f. differ (omega (arith, l, h, f)))) h (sym e)
]

-- numbers that are the same as far as the shorter list goes, and lists of different lengths
pub numbers_end : (right : List OverlayOpen) (carried : List OverlayCarried) (place : ℕ) → place ≤ length right → place ≤ length carried → length right ≢ length carried
    → take place (open_numbers right) ≡ take place (carried_numbers carried) → (place < length right → length carried ≤ place) → IsFirstDifference (open_numbers right) (carried_numbers carried) place
numbers_end right carried place l m differ same other =
    let r = length-map right (λ (x : OverlayOpen). x.number) in
    let c = length-map carried (λ (x : OverlayCarried). x.number) in
    record {
      same = same;
      differ = ends_differ (open_numbers right) (carried_numbers carried) place (omega (arith, l, r)) (omega (arith, m, c)) (λ e. differ (sym r ∙ e ∙ c)) (λ h. let o = other (omega (arith, h, r)) in omega (arith, o, c));
    }

-- ---- a test that tells of the order
pub decided : {P : Type 0} (b : Bool) → (b ≡ true → P) → (b ≡ false → P → ⊥) → (r : Bool) → MatchBool r P (P → ⊥) → r ≡ b
decided true t f true m = refl
decided true t f false m = absurd (m (t refl))
decided false t f true m = absurd (f refl m)
decided false t f false m = refl

module _ {X : Type 0} (Before : X → X → Type 0) (trans : (x y z : X) → Before x y → Before y z → Before x z) (test : X → X → Bool) (yes : (x t : X) → Before x t → test x t ≡ true)
    (told : (x t : X) → test x t ≡ true → Before x t) (items : List X) (up : AllPairs Before items) (t : X) where
  pub parted : IsPartitionedBy (λ x. test x t) items
  parted i j d l m h = elim (cases_order i j) [
    | inl same ↦ subst (λ (k : ℕ). test (get_or items k d) t ≡ true) (sym same) h
    | inr (inl less) ↦ yes (get_or items i d) t (trans (get_or items i d) (get_or items j d) t (up i j d less m) (told (get_or items j d) t h))
    | inr (inr more) ↦ absurd (omega (arith, l, more))
  ]

  module _ (place : ℕ) (below : (k : ℕ) (e : X) → 0 ≤ k → k < place → test (get_or items k e) t ≡ true) (above : (k : ℕ) (e : X) → place ≤ k → k < length items → test (get_or items k e) t ≡ false)
      (Same : X → Type 0) (unlike : (x : X) → Same x → Before x t → ⊥) (moves : (x y : X) → Before x y → Same y → Before x t) where
    -- an item that is the same as the one that is looked for stands at the place
    pub found_at : (k : ℕ) (d : X) → k < length items → Same (get_or items k d) → k ≡ place
    found_at k d inside same = elim (cases_order k place) [
      | inl e ↦ e
      | inr (inl less) ↦ absurd (unlike (get_or items k d) same (told (get_or items k d) t (below k d (omega arith) less)))
      | inr (inr more) ↦
          let b = moves (get_or items place d) (get_or items k d) (up place k d more inside) same in
          let e : true ≡ false = sym (yes (get_or items place d) t b) ∙ above place d (omega arith) (omega (arith, more, inside)) in
          absurd (cc)
    ]

-- ---- by numbers
abbrev pub carried_test : OverlayCarried → OverlayCarried → Bool
carried_test c d = nat_lt c.number d.number

pub carried_trans : (x y z : OverlayCarried) → IsCarriedBefore x y → IsCarriedBefore y z → IsCarriedBefore x z
carried_trans x y z a b = omega (arith, a, b)

pub carried_yes : (x t : OverlayCarried) → IsCarriedBefore x t → carried_test x t ≡ true
carried_yes x t h = lt-ltb x.number t.number h

pub carried_told : (x t : OverlayCarried) → carried_test x t ≡ true → IsCarriedBefore x t
carried_told x t h = ltb-true x.number t.number h

-- ---- by ends
abbrev ends_test : {p q r s : Pt} → PtOrder p q → PtOrder r s → Bool
ends_test (before h) o = true
ends_test (after h) o = false
ends_test (equal h) (before k) = true
ends_test (equal h) (equal k) = false
ends_test (equal h) (after k) = false

ends_told : {p q r s : Pt} (o : PtOrder p q) (u : PtOrder r s) → ends_test o u ≡ true → IsBefore p q ⊎ ((p ≡ q) × IsBefore r s)
ends_told (before h) u e = inl h
ends_told (after h) u e = absurd (false≢true e)
ends_told (equal h) (before k) e = inr (h, k)
ends_told (equal h) (equal k) e = absurd (false≢true e)
ends_told (equal h) (after k) e = absurd (false≢true e)

unequal : (p q : Pt) → p ≡ q → IsBefore p q → ⊥
unequal p q e h = before_itself q (subst (λ (x : Pt). IsBefore x q) e h)

ends_never : {p q r s : Pt} (o : PtOrder p q) (u : PtOrder r s) → ends_test o u ≡ false → IsBefore p q ⊎ ((p ≡ q) × IsBefore r s) → ⊥
ends_never (before h) u e b = absurd (false≢true (sym e))
ends_never {p} {q} (after h) u e (inl b) = before_itself p (before_trans p q p b h)
ends_never {p} {q} (after h) u e (inr b) = unequal q p (sym b.0) h
ends_never (equal h) (before k) e b = absurd (false≢true (sym e))
ends_never {p} {q} (equal h) (equal k) e (inl b) = unequal p q h b
ends_never {p} {q} {r} {s} (equal h) (equal k) e (inr b) = unequal r s k b.1
ends_never {p} {q} (equal h) (after k) e (inl b) = unequal p q h b
ends_never {p} {q} {r} {s} (equal h) (after k) e (inr b) = before_itself r (before_trans r s r b.1 k)

abbrev pub counted_test : OverlayCounted → OverlayCounted → Bool
counted_test c d = ends_test (pt_order (counted_start c) (counted_start d)) (pt_order (counted_end c) (counted_end d))

pub counted_told : (x t : OverlayCounted) → counted_test x t ≡ true → IsCountedBefore x t
counted_told x t h = ends_told (pt_order (counted_start x) (counted_start t)) (pt_order (counted_end x) (counted_end t)) h

pub counted_answer : (x t : OverlayCounted) (r : Bool) → MatchBool r (IsCountedBefore x t) (IsCountedBefore x t → ⊥) → r ≡ counted_test x t
counted_answer x t r m = decided (counted_test x t) (counted_told x t) (ends_never (pt_order (counted_start x) (counted_start t)) (pt_order (counted_end x) (counted_end t))) r m

pub counted_yes : (x t : OverlayCounted) → IsCountedBefore x t → counted_test x t ≡ true
counted_yes x t h = sym (counted_answer x t true h)

pub counted_trans : (x y z : OverlayCounted) → IsCountedBefore x y → IsCountedBefore y z → IsCountedBefore x z
counted_trans x y z (inl h) (inl k) = inl (before_trans (counted_start x) (counted_start y) (counted_start z) h k)
counted_trans x y z (inl h) (inr (t, k)) = inl (subst (λ (p : Pt). IsBefore (counted_start x) p) t h)
counted_trans x y z (inr (s, h)) (inl k) = inl (subst (λ (p : Pt). IsBefore p (counted_start z)) (sym s) k)
counted_trans x y z (inr (s, h)) (inr (t, k)) = inr (s ∙ t, before_trans (counted_end x) (counted_end y) (counted_end z) h k)

-- two edges have the same ends
abbrev pub SameEnds : OverlayCounted → OverlayCounted → Type 0
SameEnds c d = (counted_start c ≡ counted_start d) × (counted_end c ≡ counted_end d)

pub same_unlike : (t x : OverlayCounted) → SameEnds x t → IsCountedBefore x t → ⊥
same_unlike t x same (inl h) = unequal (counted_start x) (counted_start t) same.0 h
same_unlike t x same (inr h) = unequal (counted_end x) (counted_end t) same.1 h.1

pub same_moves : (t x y : OverlayCounted) → IsCountedBefore x y → SameEnds y t → IsCountedBefore x t
same_moves t x y (inl h) same = inl (subst (λ (p : Pt). IsBefore (counted_start x) p) same.0 h)
same_moves t x y (inr h) same = inr (h.0 ∙ same.0, subst (λ (p : Pt). IsBefore (counted_end x) p) same.1 h.1)

-- the item at the place, where one that is the same stands, tells
pub other_or_not : (edges : List OverlayCounted) (t : OverlayCounted) (place : ℕ) (none : OverlayCounted) → place < length edges → ((k : ℕ) (d : OverlayCounted) → k < length edges → SameEnds (get_or edges k d) t → k ≡ place)
    → (r : Bool) → MatchBool r (SameEnds (get_or edges place none) t) (SameEnds (get_or edges place none) t → ⊥) → MatchBool (not r) (IsOther edges t) (IsOther edges t → ⊥)
other_or_not edges t place none inside at true same = λ other. other place none inside same
other_or_not edges t place none inside at false never = λ k d within same.
    never (subst (λ (n : ℕ). SameEnds (get_or edges n none) t) (at k d within same) (subst (λ (x : OverlayCounted). SameEnds x t) (get_or_default edges k d none within) same))
