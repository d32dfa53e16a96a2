-- All cycles, one walk after another.
use Rattle.std.proofs.Common.{◌≡◌, ◌≢◌, ℕ, zero, suc, ◌+◌, ◌<◌, ◌≤◌, Bool, true, false, List, [], ◌∷◌, ◌++◌, length, get_or, replicate, refl, sym, ◌∙◌, ap, subst, inl, inr, arith, add-one}
use Rattle.std.specs.Prelude.{All, AllPairs}
use Rattle.std.proofs.lemmas.Bool.{false≢true, cases_eq, cases_lt}
use Rattle.std.proofs.lemmas.List.{get_or_past, length-replicate, get_or_default}
use Rattle.std.proofs.lemmas.List.Elements.{All-nil, All-push, All-cons, All-weaker}
use Rattle.std.proofs.lemmas.List.Concat.{flat_map-append}
use Rattle.std.proofs.lemmas.List.Quantifiers.{all_pairs_push}
use Rattle.polygonize.proofs.Lists.{same_elements}
use Rattle.geom.proofs.Lists.{In, Distinct, in_front, in_back, in_append}
use Rattle.polygonize.specs.Cycle.{IsSeen, IsClosed, IsCycle, Member, NoTwice, Walked, IsLeastFirst, Begins, members, below, AreCycles}
use Rattle.polygonize.proofs.Walking.{both}

pub member_in : (is : List ℕ) (i : ℕ) → Member is i → In i is
member_in [] i m = m
member_in (j ∷ is) i (inl e) = inl e
member_in (j ∷ is) i (inr m) = inr (member_in is i m)

pub in_member : (is : List ℕ) (i : ℕ) → In i is → Member is i
in_member [] i m = m
in_member (j ∷ is) i (inl e) = inl e
in_member (j ∷ is) i (inr m) = inr (in_member is i m)

pub no_twice_distinct : (is : List ℕ) → NoTwice is → Distinct is
no_twice_distinct [] d = tt
no_twice_distinct (j ∷ is) d = ((λ i. d.0 (in_member is j i)), no_twice_distinct is d.1)

pub distinct_append : {X : Type 0} (xs ys : List X) → Distinct xs → Distinct ys → ((x : X) → In x xs → ¬ (In x ys)) → Distinct (xs ++ ys)
distinct_append [] ys d e f = e
distinct_append {X} (x ∷ xs) ys d e f = (no, distinct_append xs ys d.1 e (λ y i. f y (inr i)))
  where
    no : ¬ (In x (xs ++ ys))
    no i = elim (in_append xs ys x i) [ inl j ↦ d.0 j | inr j ↦ f x (inl refl) j ]

-- ---- the numbers below a bound
in_below : (n i : ℕ) → i < n → In i (below n)
in_below zero i h = absurd (omega arith)
in_below (suc n) i h = elim (cases_eq n i) [ inl e ↦ inl e | inr ne ↦ inr (in_below n i (omega arith)) ]

below_in : (n i : ℕ) → In i (below n) → i < n
below_in zero i m = absurd m
below_in (suc n) i (inl e) = omega arith
below_in (suc n) i (inr m) = further (below_in n i m)
  where
    further : i < n → i < suc n
    further h = omega arith

below_distinct : (n : ℕ) → Distinct (below n)
below_distinct zero = tt
below_distinct (suc n) = ((λ m. not_less n (below_in n n m)), below_distinct n)
  where
    not_less : (n : ℕ) → n < n → ⊥
    not_less n h = omega arith

-- ---- what the loop keeps
pub record Found (next : List ℕ) (seen : List Bool) (start : ℕ) (cycles : List (List ℕ)) : Type 0 where
  pub same_length : length seen ≡ length next
  pub closed : IsClosed next seen
  pub are_cycles : All (IsCycle next) cycles
  pub distinct : Distinct (members cycles)
  pub only : (i : ℕ) → In i (members cycles) → IsSeen seen i
  pub all : (i : ℕ) → IsSeen seen i → In i (members cycles)
  pub passed : (i : ℕ) → i < start → IsSeen seen i
  pub no_twice : All NoTwice cycles
  pub least_first : All IsLeastFirst cycles
  pub ascending : AllPairs Begins cycles
  pub begun : All (λ cycle. Begins cycle (start ∷ [])) cycles

seen_inside : (next : List ℕ) (seen : List Bool) (i : ℕ) → length seen ≡ length next → IsSeen seen i → i < length next
seen_inside next seen i e s = elim (cases_lt i (length next)) [ inl h ↦ h | inr h ↦ absurd (false≢true (sym (get_or_past seen i false (omega arith)) ∙ s)) ]

later : (start : ℕ) (cycle : List ℕ) → Begins cycle (start ∷ []) → Begins cycle (suc start ∷ [])
later start [] b = b
later start (i ∷ is) b = omega arith

members-push : (cycles : List (List ℕ)) (cycle : List ℕ) → members (cycles ++ cycle ∷ []) ≡ members cycles ++ cycle
members-push cycles cycle = flat_map-append (λ c. c) cycles (cycle ∷ []) ∙ ap (λ t. members cycles ++ t) (append-nil cycle)
  where
    append-nil : {X : Type 0} (xs : List X) → xs ++ [] ≡ xs
    append-nil [] = refl
    append-nil (x ∷ xs) = ap (λ t. x ∷ t) (append-nil xs)

pub none_seen : (n i : ℕ) → get_or (replicate n false) i false ≡ false
none_seen zero i = refl
none_seen (suc n) zero = refl
none_seen (suc n) (suc i) = none_seen n i

pub none_found : (next : List ℕ) → Found next (replicate (length next) false) 0 []
none_found next = record {
  same_length = length-replicate (length next) false;
  closed = λ j s. absurd (false≢true (sym (none_seen (length next) j) ∙ s));
  are_cycles = All-nil (IsCycle next);
  distinct = tt;
  only = λ i m. absurd m;
  all = λ i s. absurd (false≢true (sym (none_seen (length next) i) ∙ s));
  passed = λ i h. absurd (omega arith);
  no_twice = All-nil NoTwice;
  least_first = All-nil IsLeastFirst;
  ascending = λ i j d h k. absurd (omega arith);
  begun = All-nil (λ cycle. Begins cycle (0 ∷ []));
}

pub one_more_cycle : (next : List ℕ) (old new : List Bool) (start : ℕ) (cycles : List (List ℕ)) (cycle : List ℕ) → length new ≡ length old → Found next old start cycles → Walked next old new start cycle → Found next new (suc start) (cycles ++ cycle ∷ [])
one_more_cycle next old new start cycles cycle len f w = record {
  same_length = len ∙ f.same_length;
  closed = w.closed;
  are_cycles = All-push (IsCycle next) cycles cycle f.are_cycles w.is_cycle;
  distinct = let P : List ℕ → Type 0 = Distinct in subst P (sym (members-push cycles cycle)) (distinct_append (members cycles) cycle f.distinct (no_twice_distinct cycle w.no_twice)
      (λ i m k. both (get_or old i false) (f.only i m) (w.fresh i (in_member cycle i k))));
  only = λ i m. elim (in_append (members cycles) cycle i (let P : List ℕ → Type 0 = In i in subst P (members-push cycles cycle) m)) [ inl j ↦ w.keeps i (f.only i j) | inr j ↦ w.marked i (in_member cycle i j) ];
  all = λ i s. let P : List ℕ → Type 0 = In i in subst P (sym (members-push cycles cycle))
      (elim (w.marks i s) [ inl o ↦ in_front (members cycles) cycle i (f.all i o) | inr m ↦ in_back (members cycles) cycle i (member_in cycle i m) ]);
  passed = λ i h. elim (cases_eq i start) [ inl e ↦ (let P : ℕ → Type 0 = IsSeen new in subst P (sym e) start_seen) | inr n ↦ w.keeps i (f.passed i (before i h n)) ];
  no_twice = All-push NoTwice cycles cycle f.no_twice w.no_twice;
  least_first = All-push IsLeastFirst cycles cycle f.least_first (let P : List ℕ → Type 0 = IsLeastFirst in subst P (sym w.begins) (all_member (λ j. start ≤ j) w.rest (λ j m. not_before j (in_rest j m))));
  ascending = all_pairs_push Begins cycles cycle f.ascending (λ k d h. let P : List ℕ → Type 0 = Begins (get_or cycles k d) in subst P (sym w.begins) (widen (get_or cycles k d) start w.rest (f.begun k d h)));
  begun = All-push (λ c. Begins c (suc start ∷ [])) cycles cycle (All-weaker (λ c. Begins c (start ∷ [])) (λ c. Begins c (suc start ∷ [])) (later start) cycles f.begun)
      (let P : List ℕ → Type 0 = λ c. Begins c (suc start ∷ []) in subst P (sym w.begins) (next_one start));
}
  where
    next_one : (n : ℕ) → n < suc n
    next_one n = omega arith

    before : (i : ℕ) → i < suc start → i ≢ start → i < start
    before i h n = omega arith

    in_rest : (j : ℕ) → Member w.rest j → Member cycle j
    in_rest j m = let P : List ℕ → Type 0 = λ t. Member t j in subst P (sym w.begins) (inr m)

    start_seen : IsSeen new start
    start_seen = w.marked start (let P : List ℕ → Type 0 = λ t. Member t start in subst P (sym w.begins) (inl refl))

    not_before : (j : ℕ) → Member cycle j → start ≤ j
    not_before j m = elim (cases_lt j start) [ inl h ↦ absurd (both (get_or old j false) (f.passed j h) (w.fresh j m)) | inr h ↦ h ]

    all_member : (P : ℕ → Type 0) (is : List ℕ) → ((j : ℕ) → Member is j → P j) → All P is
    all_member P [] g = All-nil P
    all_member P (j ∷ is) g = All-cons P j is (g j (inl refl)) (all_member P is (λ k m. g k (inr m)))

    widen : (c : List ℕ) (j : ℕ) (js : List ℕ) → Begins c (j ∷ []) → Begins c (j ∷ js)
    widen [] j js b = b
    widen (i ∷ is) j js b = b

pub seen_already : (next : List ℕ) (seen : List Bool) (start : ℕ) (cycles : List (List ℕ)) → IsSeen seen start → Found next seen start cycles → Found next seen (suc start) cycles
seen_already next seen start cycles s f = record {
  same_length = f.same_length;
  closed = f.closed;
  are_cycles = f.are_cycles;
  distinct = f.distinct;
  only = f.only;
  all = f.all;
  passed = λ i h. elim (cases_eq i start) [ inl e ↦ (let P : ℕ → Type 0 = IsSeen seen in subst P (sym e) s) | inr n ↦ f.passed i (before i h n) ];
  no_twice = f.no_twice;
  least_first = f.least_first;
  ascending = f.ascending;
  begun = All-weaker (λ c. Begins c (start ∷ [])) (λ c. Begins c (suc start ∷ [])) (later start) cycles f.begun;
}
  where
    before : (i : ℕ) → i < suc start → i ≢ start → i < start
    before i h n = omega arith

pub all_seen : (next : List ℕ) (seen : List Bool) (start : ℕ) (cycles : List (List ℕ)) → ((i : ℕ) → i < length next → IsSeen seen i) → Found next seen start cycles → AreCycles next cycles
all_seen next seen start cycles s f = record {
  are_cycles = f.are_cycles;
  together = same_elements (below (length next)) (members cycles) (below_distinct (length next)) f.distinct
      (λ i m. f.all i (s i (below_in (length next) i m)))
      (λ i m. in_below (length next) i (seen_inside next seen i f.same_length (f.only i m)));
  no_twice = f.no_twice;
  least_first = f.least_first;
  ascending = f.ascending;
}

pub all_found : (next : List ℕ) (seen : List Bool) (start : ℕ) (cycles : List (List ℕ)) → length next ≤ start → Found next seen start cycles → AreCycles next cycles
all_found next seen start cycles h f = all_seen next seen start cycles (λ i k. f.passed i (less i k)) f
  where
    less : (i : ℕ) → i < length next → i < start
    less i k = omega arith

-- ---- the two ways through the loop's body
pub one_more_found : (next : List ℕ) (old new : List Bool) (start : ℕ) (cycles : List (List ℕ)) (cycle : List ℕ) → length new ≡ length old → Found next old start cycles → Walked next old new start cycle → Found next new (start + 1) (cycles ++ cycle ∷ [])
one_more_found next old new start cycles cycle len h w = rw add-one (one_more_cycle next old new start cycles cycle len h w)

pub seen_read : (seen : List Bool) (start : ℕ) (b : Bool) → start < length seen → b ≡ get_or seen start b → b ≡ true → IsSeen seen start
seen_read seen start b h e t = get_or_default seen start false b h ∙ sym e ∙ t

pub seen_found : (next : List ℕ) (seen : List Bool) (start : ℕ) (cycles : List (List ℕ)) (b : Bool) → start < length next → b ≡ get_or seen start b → b ≡ true → Found next seen start cycles → Found next seen (start + 1) cycles
seen_found next seen start cycles b h e t f = rw add-one (seen_already next seen start cycles (seen_read seen start b inside e t) f)
  where
    len : length seen ≡ length next
    len = f.same_length

    inside : start < length seen
    inside = omega (arith, len, h)
