-- Roots in a forest, and what writes do to them.
use Rattle.std.proofs.Common.{◌≡◌, ◌≢◌, ℕ, zero, suc, ◌<◌, ◌≤◌, List, length, get_or, set, refl, sym, ◌∙◌, ap, subst, inl, inr, arith}
use Rattle.std.proofs.lemmas.Bool.{cases_eq}
use Rattle.std.proofs.lemmas.Grind.{get_or-set_at}
use Rattle.std.proofs.lemmas.List.{get_or-set_other, get_or-set_same}
use Rattle.strip_polygons.specs.Classes.{IsForest, IsRoot, itself, further}

-- ---- what a root is
-- the root of what is above a number is its own
pub root_above : (xs : List ℕ) (k r : ℕ) → IsRoot xs k r → IsRoot xs (get_or xs k 0) r
root_above xs k _ (itself e) = let P : ℕ → Type 0 = λ i. IsRoot xs i k in subst P (sym e) (itself e)
root_above xs k r (further _ rest) = rest

-- a root is above itself
pub root_own : (xs : List ℕ) (k r : ℕ) → IsRoot xs k r → get_or xs r 0 ≡ r
root_own xs k _ (itself e) = e
root_own xs k r (further _ rest) = root_own xs (get_or xs k 0) r rest

-- no root is greater than its number
pub root_not_greater : (xs : List ℕ) (k r : ℕ) → IsRoot xs k r → r ≤ k
root_not_greater xs k _ (itself e) = omega arith
root_not_greater xs k r (further less rest) = omega (arith, less, root_not_greater xs (get_or xs k 0) r rest)

-- what is above itself has no other root
pub root_of_own : (xs : List ℕ) (k r : ℕ) → IsRoot xs k r → get_or xs k 0 ≡ k → r ≡ k
root_of_own xs k _ (itself e) own = refl
root_of_own xs k r (further less rest) own = absurd (omega (arith, less, own))

-- a number has one root
pub one_root : (xs : List ℕ) (k r s : ℕ) → IsRoot xs k r → IsRoot xs k s → r ≡ s
one_root xs k _ s (itself e) other = sym (root_of_own xs k s other e)
one_root xs k r s (further _ rest) other = one_root xs (get_or xs k 0) r s rest (root_above xs k s other)

-- each number has a root, by induction on a bound
root_below : (xs : List ℕ) → IsForest xs → (n k : ℕ) → k < n → (r : ℕ) × IsRoot xs k r
root_below xs f zero k h = absurd (omega (arith, h))
root_below xs f (suc n) k h = elim (cases_eq (get_or xs k 0) k) [
  | inl e ↦ (k, itself e)
  | inr o ↦ let less : get_or xs k 0 < k = omega (arith, o, f k) in
      let up = root_below xs f n (get_or xs k 0) (omega (arith, less, h)) in
      (up.0, further less up.1)
]

-- so it has one
pub some_root : (xs : List ℕ) → IsForest xs → (k : ℕ) → (r : ℕ) × IsRoot xs k r
some_root xs f k = root_below xs f (suc k) k (above_last k)
  where
    above_last : (k : ℕ) → k < suc k
    above_last k = omega arith

-- a forest that has all roots of another one has no others
pub same_back : (xs ys : List ℕ) → IsForest xs → ((k r : ℕ) → IsRoot xs k r → IsRoot ys k r) → (k r : ℕ) → IsRoot ys k r → IsRoot xs k r
same_back xs ys f same k r now = let old = some_root xs f k in
    let P : ℕ → Type 0 = IsRoot xs k in subst P (one_root ys k old.0 r (same k old.0 old.1) now) old.1

-- ---- writes
-- a number that is not greater may be put above one
pub put_forest : (xs : List ℕ) (i v : ℕ) → IsForest xs → i < length xs → v ≤ i → IsForest (set xs i v)
put_forest xs i v f inside h k = elim (cases_eq k i) [
  | inl e ↦ (let P : ℕ → Type 0 = λ j. get_or (set xs i v) j 0 ≤ j in subst P (sym e) (rw (get_or-set_same xs i v 0 inside) h))
  | inr o ↦ rw (get_or-set_other xs i k v 0 o) (f k)
]

-- further up by a step that is known
further_by : (xs : List ℕ) (k v r : ℕ) → get_or xs k 0 ≡ v → v < k → IsRoot xs v r → IsRoot xs k r
further_by xs k v r e less rest = further (rw e less) (rw e rest)

-- a step on the way that is left out changes no root
pub skip_one : (xs : List ℕ) (i : ℕ) → IsForest xs → i < length xs → get_or xs i 0 ≢ i → (k r : ℕ) → IsRoot xs k r
    → IsRoot (set xs i (get_or xs (get_or xs i 0) 0)) k r
skip_one xs i f inside away k _ (itself e) = itself
    (get_or-set_other xs i k (get_or xs (get_or xs i 0) 0) 0 (λ q. away (ap (λ j. get_or xs j 0) (sym q) ∙ e ∙ q)) ∙ e)
skip_one xs i f inside away k r (further less rest) = on (skip_one xs i f inside away (get_or xs k 0) r rest)
  where
    v : ℕ
    v = get_or xs (get_or xs i 0) 0

    new : List ℕ
    new = set xs i v

    on : IsRoot new (get_or xs k 0) r → IsRoot new k r
    on up = elim (cases_eq k i) [
      | inl q ↦ further_by new k (get_or xs (get_or xs k 0) 0) r (get_or-set_at xs i k v 0 q inside ∙ ap (λ j. get_or xs (get_or xs j 0) 0) (sym q))
          (omega (arith, less, f (get_or xs k 0)))
          (let P : ℕ → Type 0 = λ j. IsRoot new j r in
          subst P (get_or-set_other xs i (get_or xs k 0) v 0 (λ e. absurd (omega (arith, less, q, e)))) (root_above new (get_or xs k 0) r up))
      | inr o ↦ further_by new k (get_or xs k 0) r (get_or-set_other xs i k v 0 o) less up
    ]

-- a root that is put below a lesser one: its tree has that root now
pub put_below : (xs : List ℕ) (g h : ℕ) → g < length xs → h ≤ g → get_or xs h 0 ≡ h → (k r : ℕ) → IsRoot xs k r → r ≡ g → IsRoot (set xs g h) k h
put_below xs g h inside less own k _ (itself e) q = elim (cases_eq h g) [
  | inl same ↦ (let P : ℕ → Type 0 = IsRoot (set xs g h) k in subst P (q ∙ sym same) (itself (get_or-set_at xs g k h 0 q inside ∙ same ∙ sym q)))
  | inr o ↦ further_by (set xs g h) k h h (get_or-set_at xs g k h 0 q inside) (omega (arith, q, o, less))
      (itself (get_or-set_other xs g h h 0 o ∙ own))
]
put_below xs g h inside less own k r (further below rest) q = further_by (set xs g h) k (get_or xs k 0) h (get_or-set_other xs g k h 0 away) below
    (put_below xs g h inside less own (get_or xs k 0) r rest q)
  where
    away : k ≢ g
    away e = absurd (omega (arith, below, ap (λ j. get_or xs j 0) (e ∙ sym q), root_own xs (get_or xs k 0) r rest, e, q))

-- and no other tree has changed
pub put_beside : (xs : List ℕ) (g h : ℕ) → get_or xs g 0 ≡ g → (k r : ℕ) → r ≢ g → IsRoot xs k r → IsRoot (set xs g h) k r
put_beside xs g h own k _ o (itself e) = itself (get_or-set_other xs g k h 0 o ∙ e)
put_beside xs g h own k r o (further below rest) = further_by (set xs g h) k (get_or xs k 0) r (get_or-set_other xs g k h 0 away) below
    (put_beside xs g h own (get_or xs k 0) r o rest)
  where
    away : k ≢ g
    away e = absurd (omega (arith, below, ap (λ j. get_or xs j 0) e, own, e))
