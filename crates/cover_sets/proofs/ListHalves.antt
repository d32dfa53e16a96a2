-- An ascending list of features of one block has those of its low half first.
use Rattle.std.proofs.Common.{◌≡◌, ◌⊎◌, inl, inr, ℕ, zero, suc, ◌+◌, ◌-◌, ◌*◌, ◌/◌, ◌%◌, ◌^◌, ◌<◌, ◌≤◌, List, [], ◌∷◌, ◌++◌, Bool, true, false, refl, sym, ap, ◌∙◌, arith, subst, ⊎_elim, length, get_or, take, drop, eqb, eqb-true, eq-eqb}
use Rattle.std.specs.List.{All, AllWithin}
use Rattle.std.proofs.Math.Pow.{shr_mono}
use Rattle.std.proofs.lemmas.List.{get_or-take, get_or-drop, get_or_default}
use Rattle.std.proofs.lemmas.List.Kept.{AllPairs-cons}
use Rattle.std.specs.List.Sorted.{IsPartitionedBy}
use Rattle.geom.proofs.Lists.{in_back, in_front}
use Rattle.geom.proofs.ListOrder.{pairs_head, pairs_tail}
use Rattle.geom.proofs.Owners.{all_in}
use Rattle.cover_sets.specs.Blocks.{InBlock, Splits}
use Rattle.cover_sets.specs.Sets.{IsListed, Keeps, set_of}
use Rattle.cover_sets.proofs.Lists.{Ascend, of_all}
use Rattle.cover_sets.proofs.Numbers.{is_even, is_other}

-- ---- the two parts of an ascending list
pub ascend_front : (xs ys : List ℕ) → Ascend (xs ++ ys) → Ascend xs
ascend_front [] ys h = λ i j d a b. absurd (omega arith)
ascend_front (x ∷ xs) ys h = AllPairs-cons (λ (f g : ℕ). f < g) x xs (all_in (λ (g : ℕ). x < g) xs (λ g i. pairs_head (λ (a b : ℕ). a < b) x (xs ++ ys) h g (in_front xs ys g i))) (ascend_front xs ys (pairs_tail (λ (a b : ℕ). a < b) x (xs ++ ys) h))

pub ascend_back : (xs ys : List ℕ) → Ascend (xs ++ ys) → Ascend ys
ascend_back [] ys h = h
ascend_back (x ∷ xs) ys h = ascend_back xs ys (pairs_tail (λ (a b : ℕ). a < b) x (xs ++ ys) h)

pub all_front : (P : ℕ → Type 0) (xs ys : List ℕ) → All P (xs ++ ys) → All P xs
all_front P xs ys h = all_in P xs (λ x i. of_all P (xs ++ ys) h x (in_front xs ys x i))

pub all_back : (P : ℕ → Type 0) (xs ys : List ℕ) → All P (xs ++ ys) → All P ys
all_back P xs ys h = all_in P ys (λ x i. of_all P (xs ++ ys) h x (in_back xs ys x i))

-- ---- whether a bit is 0
abbrev pub is_low : ℕ → ℕ → Bool
is_low level f = eqb (f / 2 ^ level % 2) 0

low_true : (level f : ℕ) → is_low level f ≡ true → f / 2 ^ level % 2 ≡ 0
low_true level f h = eqb-true (f / 2 ^ level % 2) 0 h

low_false : (level f : ℕ) → is_low level f ≡ false → ¬ (f / 2 ^ level % 2 ≡ 0)
low_false level f h e = absurd (let k = sym (eq-eqb (f / 2 ^ level % 2) 0 e) ∙ h in cc)

equal_or_less : (i j : ℕ) → i ≤ j → (i ≡ j) ⊎ (i < j)
equal_or_less zero zero l = inl refl
equal_or_less zero (suc j) l = inr (omega arith)
equal_or_less (suc i) zero l = absurd (omega arith)
equal_or_less (suc i) (suc j) l = ⊎_elim (λ e. inl (ap suc e)) (λ k. inr (omega arith)) (equal_or_less i j (omega arith))

-- of two features of a block the lesser one is in the low half, if the other one is
module _ (level p f g : ℕ) (a : f / 2 ^ (level + 1) ≡ p) (b : g / 2 ^ (level + 1) ≡ p) (l : f ≤ g) (h : is_low level g ≡ true) where
  lesser_low : is_low level f ≡ true
  lesser_low = by (is_low level f) refl
    where
      no : f / 2 ^ level ≡ 2 * p + 1 → f / 2 ^ level ≤ g / 2 ^ level → g / 2 ^ level ≡ 2 * p → ⊥
      no x y z = omega arith

      by : (t : Bool) → is_low level f ≡ t → is_low level f ≡ true
      by true e = e
      by false e = absurd (no (is_other level p f a (low_false level f e)) (shr_mono level l) (is_even level p g b (low_true level g h)))

module _ (xs : List ℕ) (level p : ℕ) (up : Ascend xs) (block : InBlock (level + 1) p xs) where
  pub parted : IsPartitionedBy (is_low level) xs
  parted i j d l m e = ⊎_elim
      (λ q. subst (λ (n : ℕ). is_low level (get_or xs n d) ≡ true) (sym q) e)
      (λ k. lesser_low level p (get_or xs i d) (get_or xs j d) (block i d (omega arith)) (block j d m) (let o = up i j d k m in omega arith) e)
      (equal_or_less i j l)

  module _ (n : ℕ) (within : n ≤ length xs) (low : AllWithin (λ y. is_low level y ≡ true) xs 0 n) (high : AllWithin (λ y. is_low level y ≡ false) xs n (length xs)) where
    pub front_low : (ys : List ℕ) → ys ≡ take n xs → length ys ≡ n → InBlock level (2 * p) ys
    front_low ys e m k d l =
        let at : get_or ys k d ≡ get_or xs k d = ap (λ (zs : List ℕ). get_or zs k d) e ∙ get_or-take n xs k d (omega arith) in
        subst (λ (f : ℕ). f / 2 ^ level ≡ 2 * p) (sym at) (is_even level p (get_or xs k d) (block k d (omega arith)) (low_true level (get_or xs k d) (low k d (omega arith) (omega arith))))

    pub back_high : (zs : List ℕ) → zs ≡ drop n xs → length zs + n ≡ length xs → InBlock level (2 * p + 1) zs
    back_high zs e m k d l =
        let at : get_or zs k d ≡ get_or xs (n + k) d = ap (λ (ys : List ℕ). get_or ys k d) e ∙ get_or-drop n xs k d in
        subst (λ (f : ℕ). f / 2 ^ level ≡ 2 * p + 1) (sym at) (is_other level p (get_or xs (n + k) d) (block (n + k) d (omega arith)) (low_false level (get_or xs (n + k) d) (high (n + k) d (omega arith) (omega arith))))

-- ---- all lie in the block of the first one, where the last one does
pub ends_block : (xs : List ℕ) (r d : ℕ) → 0 < length xs → Ascend xs → get_or xs 0 d / 2 ^ r ≡ get_or xs (length xs - 1) d / 2 ^ r → InBlock r (get_or xs 0 d / 2 ^ r) xs
ends_block xs r d some up e k y l =
    let at : get_or xs k y ≡ get_or xs k d = get_or_default xs k y d l in
    subst (λ (f : ℕ). f / 2 ^ r ≡ get_or xs 0 d / 2 ^ r) (sym at) (between (get_or xs 0 d / 2 ^ r) (get_or xs k d / 2 ^ r) (get_or xs (length xs - 1) d / 2 ^ r) (shr_mono r (upto 0 k (omega arith) l)) (shr_mono r (upto k (length xs - 1) (omega arith) (omega arith))) e)
  where
    between : (a b c : ℕ) → a ≤ b → b ≤ c → a ≡ c → b ≡ a
    between a b c m n q = omega arith

    upto : (i j : ℕ) → i ≤ j → j < length xs → get_or xs i d ≤ get_or xs j d
    upto i j m n = ⊎_elim (λ q. subst (λ (h : ℕ). get_or xs i d ≤ get_or xs h d) q (omega arith)) (λ q. let o = up i j d q n in omega arith) (equal_or_less i j m)

-- ---- both parts listed one after the other
module _ (S T : List (List ℕ)) (xs ys : List ℕ) (low high level p : ℕ) (in_low : InBlock level (2 * p) xs) (in_high : InBlock level (2 * p + 1) ys) (keeps : Keeps S T) (h : IsListed S xs low) (k : IsListed T ys high) where
  first_again : set_of T low ≡ xs
  first_again = (keeps low h.0).1 ∙ h.1

  pub lists_split : Splits (level + 1) (set_of T low) (set_of T high)
  lists_split = record {
    level = level;
    levels_is = refl;
    prefix = p;
    low_in = subst (InBlock level (2 * p)) (sym first_again) in_low;
    high_in = subst (InBlock level (2 * p + 1)) (sym k.1) in_high;
  }

  pub after_lists : (all : List ℕ) → xs ++ ys ≡ all → (U : List (List ℕ)) (n : ℕ) → IsListed U (set_of T low ++ set_of T high) n → IsListed U all n
  after_lists all e U n l = (l.0, l.1 ∙ ap (λ (zs : List ℕ). zs ++ set_of T high) first_again ∙ ap (λ (zs : List ℕ). xs ++ zs) k.1 ∙ e)
