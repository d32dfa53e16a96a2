-- Numbers found by a test.
use Rattle.std.proofs.Common.{◌≡◌, ℕ, zero, suc, ◌+◌, ◌-◌, ◌<◌, ◌≤◌, Bool, true, false, cond, List, [], ◌∷◌, ◌++◌, map, length, get_or, take, drop, refl, sym, ap, ◌∙◌, arith, append_assoc}
use Rattle.std.proofs.Math.ListN.{set}
use Rattle.std.proofs.lemmas.List.{drop_more, set_at, map_more, get_or_at, append-nil, length-map, length-take-le}
use Rattle.std.proofs.lemmas.List.Elements.{filter-append}
use Rattle.std.proofs.lemmas.List.FromFn.{fill_by_all}
use Rattle.std.specs.List.{filter, range_with_len}
use Rattle.lane_tests.specs.Columns.{passing}
use Rattle.lane_tests.proofs.Hits.{range-add}
use Rattle.tiling.proofs.Ascending.{IsUp}

pub renumbered : (f : ℕ → ℕ) (i : ℕ) (old now : List ℕ) (y : ℕ) → i < length old → now ≡ map f (take i old) ++ drop i old → y ≡ f (get_or now i 0) → set now i y ≡ map f (take (i + 1) old) ++ drop (i + 1) old
renumbered f i old now y h e k =
    let l : length (map f (take i old)) ≡ i = length-map (take i old) f ∙ length-take-le i old (omega arith) in
    let s : now ≡ map f (take i old) ++ get_or old i 0 ∷ drop (i + 1) old = e ∙ ap (λ r. map f (take i old) ++ r) (drop_more old i 0 h) in
    let x : get_or now i 0 ≡ get_or old i 0 = ap (λ r. get_or r i 0) s ∙ get_or_at (map f (take i old)) (get_or old i 0) (drop (i + 1) old) 0 i l in
    (λ j. set (s j) i ((k ∙ ap f x) j)) ∙ set_at (map f (take i old)) (get_or old i 0) (drop (i + 1) old) (f (get_or old i 0)) i l
    ∙ sym (append_assoc (map f (take i old)) (f (get_or old i 0) ∷ []) (drop (i + 1) old)) ∙ ap (λ r. r ++ drop (i + 1) old) (sym (map_more f old i 0 h))

-- tests that agree on the range
pub filter_same : (p q : ℕ → Bool) (a n : ℕ) → ((k : ℕ) → a ≤ k → k < a + n → p k ≡ q k) → filter p (range_with_len a n) ≡ filter q (range_with_len a n)
filter_same p q a zero h = refl
filter_same p q a (suc n) h =
    let e : p a ≡ q a = h a (omega arith) (omega arith) in
    let r = filter_same p q (a + 1) n (λ k l m. h k (omega arith) (omega arith)) in
    λ i. cond (e i) (a ∷ r i) (r i)

pub filter_none : (p : ℕ → Bool) (a n : ℕ) → ((k : ℕ) → a ≤ k → k < a + n → p k ≡ false) → filter p (range_with_len a n) ≡ []
filter_none p a zero h = refl
filter_none p a (suc n) h = rw (h a (omega arith) (omega arith)) (filter_none p (a + 1) n (λ k l m. h k (omega arith) (omega arith)))

-- what passes lies from `from` to below `to`
pub within_places : (p : ℕ → Bool) (from to n : ℕ) → from ≤ to → to ≤ n → ((k : ℕ) → k < from → p k ≡ false) → ((k : ℕ) → to ≤ k → k < n → p k ≡ false)
    → filter p (range_with_len from (to - from)) ≡ filter p (range_with_len 0 n)
within_places p from to n h l before after =
    let e : n ≡ from + ((to - from) + (n - to)) = omega arith in
    let f : from + (to - from) ≡ to = omega arith in
    let first = filter_none p 0 from (λ k a b. before k (omega arith)) in
    let last = filter_none p to (n - to) (λ k a b. after k a (omega arith)) in
    let whole : range_with_len 0 n ≡ range_with_len 0 from ++ (range_with_len from (to - from) ++ range_with_len to (n - to)) =
    ap (range_with_len 0) e ∙ range-add 0 from ((to - from) + (n - to)) ∙ (λ i. range_with_len 0 from ++ range_with_len (zero_add from i) ((to - from) + (n - to)))
    ∙ ap (λ r. range_with_len 0 from ++ r) (range-add from (to - from) (n - to) ∙ ap (λ m. range_with_len from (to - from) ++ range_with_len m (n - to)) f) in
    sym (ap (filter p) whole ∙ filter-append p (range_with_len 0 from) (range_with_len from (to - from) ++ range_with_len to (n - to))
    ∙ (λ i. first i ++ filter p (range_with_len from (to - from) ++ range_with_len to (n - to)))
    ∙ filter-append p (range_with_len from (to - from)) (range_with_len to (n - to)) ∙ ap (λ r. filter p (range_with_len from (to - from)) ++ r) last ∙ append-nil _)
  where
    zero_add : (m : ℕ) → 0 + m ≡ m
    zero_add m = omega arith

-- found numbers are in the range, and ascend
pub found_between : (p : ℕ → Bool) (a n : ℕ) (k : ℕ) → k < length (filter p (range_with_len a n)) → (a ≤ get_or (filter p (range_with_len a n)) k 0) × (get_or (filter p (range_with_len a n)) k 0 < a + n)
found_between p a zero k h = absurd (omega arith)
found_between p a (suc n) k h = step (p a) k (filter p (range_with_len (a + 1) n)) (found_between p (a + 1) n) h
  where
    step : (b : Bool) (k : ℕ) (rest : List ℕ) → ((k : ℕ) → k < length rest → (a + 1 ≤ get_or rest k 0) × (get_or rest k 0 < a + 1 + n)) → k < length (cond b (a ∷ rest) rest)
        → (a ≤ get_or (cond b (a ∷ rest) rest) k 0) × (get_or (cond b (a ∷ rest) rest) k 0 < a + suc n)
    step true zero rest r h = (omega arith, omega arith)
    step true (suc k) rest r h = let s = r k (omega arith) in (omega (arith, s.0), omega (arith, s.1))
    step false k rest r h = let s = r k h in (omega (arith, s.0), omega (arith, s.1))

pub found_up : (p : ℕ → Bool) (a n : ℕ) → IsUp (filter p (range_with_len a n))
found_up p a zero = record { up = λ i j h l. omega arith }
found_up p a (suc n) = step (p a) (filter p (range_with_len (a + 1) n)) (λ k h. (found_between p (a + 1) n k h).0) (found_up p (a + 1) n)
  where
    step : (b : Bool) (rest : List ℕ) → ((k : ℕ) → k < length rest → a + 1 ≤ get_or rest k 0) → IsUp rest → IsUp (cond b (a ∷ rest) rest)
    step true rest r u = record { up = both rest r u }
      where
        both : (rest : List ℕ) → ((k : ℕ) → k < length rest → a + 1 ≤ get_or rest k 0) → IsUp rest → (i j : ℕ) → i ≤ j → j < length (a ∷ rest) → get_or (a ∷ rest) i 0 ≤ get_or (a ∷ rest) j 0
        both rest r u zero zero h l = omega arith
        both rest r u zero (suc j) h l = omega (arith, r j (omega arith))
        both rest r u (suc i) zero h l = absurd (omega arith)
        both rest r u (suc i) (suc j) h l = u.up i j (omega arith) (omega arith)
    step false rest r u = u

pub whole_order : (order : List ℕ) (n : ℕ) → length order ≡ n → map (λ k. get_or order k 0) (range_with_len 0 n) ≡ order
whole_order order n e = sym (fill_by_all (λ k. get_or order k 0) order n 0 e (λ k h. refl))

pub passing_is : (p : ℕ → Bool) (a n : ℕ) → passing p a n ≡ filter p (range_with_len a n)
unfolding passing
passing_is p a n = refl
