-- What a legal history accepts.
use Rattle.std.proofs.Common.{◌≡◌, ℕ, zero, suc, ◌+◌, ◌<◌, ◌≤◌, ◌==◌, Bool, true, false, ◌||◌, List, [], ◌∷◌, ◌++◌, refl, sym, ap, ◌∙◌, subst, arith}
use Rattle.std.proofs.lemmas.Bool.Decides.{nat_tests}
use Rattle.std.proofs.lemmas.List.{append-nil}
use Rattle.std.specs.Prelude.{nat_lt}
use mathlib.Core.Bool.{true≢false}
use Rattle.tile_book.specs.Counts.{is_it, times, once_below, HoldsEachOnce}
use Rattle.tile_book.specs.declared.desk_core.Event.{Event}
use Rattle.tile_book.specs.declared.desk_core.Event.TheVariants.{Draw, Post, Stop}
use Rattle.tile_book.specs.declared.desk_core.Reply.{Reply}
use Rattle.tile_book.specs.declared.desk_core.Reply.TheVariants.{Number, None, Ok, Stranger, Double, NoHand}
use Rattle.tile_book.specs.History.{accepted_in, posted, posted_by, is_in, expected, IsLegal, posts_it, was_posted}
use Rattle.tile_book.proofs.Totals.{total_append, it_is}

abbrev is_ok : Reply → Bool
is_ok Ok = true
is_ok (Number t) = false
is_ok None = false
is_ok Stranger = false
is_ok Double = false
is_ok NoHand = false

pub in_some : (k : ℕ) (xs : List ℕ) → is_in k xs ≡ true → 0 < times k xs
in_some k [] e = absurd (true≢false (sym e))
in_some k (x ∷ xs) e = cases (in_some k xs) (x == k) refl
  where
    cases : (is_in k xs ≡ true → 0 < times k xs) → (b : Bool) → (x == k) ≡ b → 0 < times k (x ∷ xs)
    cases later true is = rw is (omega arith)
    cases later false is = rw is (omega (arith, later (sym (ap (λ b. b || is_in k xs) is) ∙ e)))

pub in_none : (k : ℕ) (xs : List ℕ) → is_in k xs ≡ false → times k xs ≡ 0
in_none k [] e = refl
in_none k (x ∷ xs) e = cases (in_none k xs) (x == k) refl
  where
    cases : (is_in k xs ≡ false → times k xs ≡ 0) → (b : Bool) → (x == k) ≡ b → times k (x ∷ xs) ≡ 0
    cases later true is = absurd (true≢false (sym (ap (λ b. b || is_in k xs) is) ∙ e))
    cases later false is = rw is (omega (arith, later (sym (ap (λ b. b || is_in k xs) is) ∙ e)))

pub not_in : (k : ℕ) (xs : List ℕ) → times k xs ≡ 0 → is_in k xs ≡ false
not_in k xs none = cases (is_in k xs) refl
  where
    cases : (b : Bool) → is_in k xs ≡ b → b ≡ false
    cases true is = absurd (omega (arith, in_some k xs is))
    cases false is = refl

pub is_there : (k : ℕ) (xs : List ℕ) → times k xs ≡ 1 → is_in k xs ≡ true
is_there k xs once = cases (is_in k xs) refl
  where
    cases : (b : Bool) → is_in k xs ≡ b → b ≡ true
    cases true is = refl
    cases false is = absurd (omega (arith, in_none k xs is))

pub times_snoc : (x : ℕ) (xs : List ℕ) (y : ℕ) → times x (xs ++ y ∷ []) ≡ times x xs + is_it x y
times_snoc x xs y = omega (arith, total_append (is_it x) xs (y ∷ []))

below : (h n : ℕ) → nat_lt h n ≡ true → h < n
below h n e = grind (arith, nat_tests)

-- a post that was legally answered Ok is of a number below n that was not accepted before
fresh : (n hands h k : ℕ) (before : List (Event × Reply)) → Ok ≡ expected n hands before (Post h k) → (k < n) × (times k (accepted_in before) ≡ 0)
fresh n hands h k before legal = cases (nat_lt h hands) (nat_lt k n) (is_in k (accepted_in before)) refl refl refl
  where
    cases : (b d f : Bool) → nat_lt h hands ≡ b → nat_lt k n ≡ d → is_in k (accepted_in before) ≡ f → (k < n) × (times k (accepted_in before) ≡ 0)
    cases false d f known small held = absurd (true≢false (ap is_ok legal ∙ rw known refl))
    cases true false f known small held = absurd (true≢false (ap is_ok legal ∙ rw (known, small) refl))
    cases true true true known small held = absurd (true≢false (ap is_ok legal ∙ rw (known, small, held) refl))
    cases true true false known small held = (below k n small, in_none k (accepted_in before) held)

-- each number is accepted at most once, and is below n
pub at_most_once : (n hands : ℕ) (h : List (Event × Reply)) → IsLegal n hands h → (x : ℕ) → (times x (accepted_in h) ≤ 1) × (0 < times x (accepted_in h) → x < n)
at_most_once n hands [] legal x = (omega arith, λ some. absurd (omega arith))
at_most_once n hands (e ∷ before) legal x = entry (at_most_once n hands before legal.1 x) e.0 e.1 legal.0
  where
    Rest : Type 0
    Rest = (times x (accepted_in before) ≤ 1) × (0 < times x (accepted_in before) → x < n)

    Goal : List ℕ → Type 0
    Goal more = (times x (accepted_in before ++ more) ≤ 1) × (0 < times x (accepted_in before ++ more) → x < n)

    nothing : Rest → Goal []
    nothing rest = subst (λ l. (times x l ≤ 1) × (0 < times x l → x < n)) (sym (append-nil (accepted_in before))) rest

    one : Rest → (k : ℕ) → k < n → times k (accepted_in before) ≡ 0 → (b : Bool) → (k == x) ≡ b → Goal (k ∷ [])
    one rest k small none false is = let same : times x (accepted_in before ++ k ∷ []) ≡ times x (accepted_in before) = times_snoc x (accepted_in before) k ∙ rw is (omega arith) in
        (omega (arith, same, rest.0), λ some. rest.1 (omega (arith, same)))
    one rest k small none true is =
        let eq : k ≡ x = grind (arith, nat_tests) in
        let free : times x (accepted_in before) ≡ 0 = subst (λ j. times j (accepted_in before) ≡ 0) eq none in
        let now : times x (accepted_in before ++ k ∷ []) ≡ 1 = times_snoc x (accepted_in before) k ∙ rw (is, free) refl in
        (omega (arith, now), λ some. omega (arith, eq, small))

    entry : Rest → (ev : Event) (r : Reply) → r ≡ expected n hands before ev → Goal (posted ev r)
    entry rest (Draw h) r l = nothing rest
    entry rest (Stop h) r l = nothing rest
    entry rest (Post h k) Ok l = let f = fresh n hands h k before l in one rest k f.0 f.1 (k == x) refl
    entry rest (Post h k) (Number t) l = nothing rest
    entry rest (Post h k) None l = nothing rest
    entry rest (Post h k) Stranger l = nothing rest
    entry rest (Post h k) Double l = nothing rest
    entry rest (Post h k) NoHand l = nothing rest

-- a number below n that was posted is accepted
pub accepts : (n hands : ℕ) (h : List (Event × Reply)) → IsLegal n hands h → (x : ℕ) → x < n → was_posted hands x h ≡ true → 0 < times x (accepted_in h)
accepts n hands [] legal x small some = absurd (true≢false (sym some))
accepts n hands (e ∷ before) legal x small some = cases (accepts n hands before legal.1 x small) (was_posted hands x before) refl
  where
    more : (r : List ℕ) → times x (accepted_in before ++ r) ≡ times x (accepted_in before) + times x r
    more r = total_append (is_it x) (accepted_in before) r

    now : (ev : Event) (r : Reply) → r ≡ expected n hands before ev → posts_it hands x ev ≡ true → 0 < times x (accepted_in before ++ posted ev r)
    now (Draw h) r l it = absurd (true≢false (sym it))
    now (Stop h) r l it = absurd (true≢false (sym it))
    now (Post h k) r l it = known_hand (nat_lt h hands) (k == x) (is_in x (accepted_in before)) refl refl refl
      where
        known_hand : (b d f : Bool) → nat_lt h hands ≡ b → (k == x) ≡ d → is_in x (accepted_in before) ≡ f → 0 < times x (accepted_in before ++ posted_by k r)
        known_hand false d f known same held = absurd (true≢false (sym it ∙ rw known refl))
        known_hand true false f known same held = absurd (true≢false (sym it ∙ rw (known, same) refl))
        known_hand true true true known same held = omega (arith, more (posted_by k r), in_some x (accepted_in before) held)
        known_hand true true false known same held =
            let eq : k ≡ x = grind (arith, nat_tests) in
            let low : nat_lt k n ≡ true = grind (arith, nat_tests) in
            let free : is_in k (accepted_in before) ≡ false = subst (λ j. is_in j (accepted_in before) ≡ false) (sym eq) held in
            let ok : r ≡ Ok = l ∙ rw (known, low, free) refl in
            subst (λ q. 0 < times x (accepted_in before ++ posted_by k q)) (sym ok) (omega (arith, times_snoc x (accepted_in before) k, ap (is_it x) eq, it_is x))

    cases : (was_posted hands x before ≡ true → 0 < times x (accepted_in before)) → (b : Bool) → was_posted hands x before ≡ b → 0 < times x (accepted_in (e ∷ before))
    cases earlier true is = omega (arith, more (posted e.0 e.1), earlier is)
    cases earlier false is = now e.0 e.1 legal.0 (first (posts_it hands x e.0) (was_posted hands x before) is some)
      where
        first : (b d : Bool) → (d ≡ false) → ((b || d) ≡ true) → b ≡ true
        first true d off some_of = refl
        first false d off some_of = absurd (true≢false (sym some_of ∙ off))

-- where every number below n was posted, each is accepted once and no other
pub all_once : (n hands : ℕ) (h : List (Event × Reply)) → IsLegal n hands h → ((k : ℕ) → k < n → was_posted hands k h ≡ true) → HoldsEachOnce n (accepted_in h)
all_once n hands h legal all x = cases (nat_lt x n) refl
  where
    once : (times x (accepted_in h) ≤ 1) × (0 < times x (accepted_in h) → x < n)
    once = at_most_once n hands h legal x

    none : (m : ℕ) → nat_lt x n ≡ false → (0 < m → x < n) → m ≡ 0
    none zero is low = refl
    none (suc m) is low = absurd (true≢false (sym (grind (arith, nat_tests)) ∙ is))

    cases : (b : Bool) → nat_lt x n ≡ b → times x (accepted_in h) ≡ once_below x n
    cases true is = rw is (let lt = below x n is in omega (arith, once.0, accepts n hands h legal x lt (all x lt)))
    cases false is = rw is (none (times x (accepted_in h)) is once.1)
