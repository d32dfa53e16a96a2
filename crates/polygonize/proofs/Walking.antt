-- The walk along a one-to-one map comes back to where it began, over numbers that weren't seen.
use Rattle.std.proofs.Common.{◌≡◌, ◌≢◌, ◌⊎◌, ℕ, ◌+◌, ◌<◌, Bool, true, false, not, cond, List, [], ◌∷◌, ◌++◌, length, get_or, set, refl, sym, ◌∙◌, ap, subst, inl, inr, arith}
use Rattle.std.specs.Prelude.{All, count_by}
use Rattle.std.proofs.lemmas.Bool.{false≢true, cases_eq}
use Rattle.std.proofs.lemmas.List.{get_or-set_same, get_or-set_other, length-set}
use Rattle.std.proofs.lemmas.List.Elements.{All-append, All-cons, All-nil, All-push, All-get_or}
use Rattle.std.proofs.lemmas.List.Sums.{sum_by-set}
use Rattle.geom.specs.Rings.{along, around}
use Rattle.geom.proofs.RingEdges.{along-append}
use Rattle.polygonize.specs.Cycle.{IsOneToOne, IsSeen, IsUnseen, ComesAfterSeen, IsClosed, pair, Leads, Member, NoTwice, Walked}

pub record Walking (next : List ℕ) (old seen : List Bool) (start at : ℕ) (cycle : List ℕ) : Type 0 where
  pub same_length : length seen ≡ length next
  pub rest : List ℕ
  pub begins : cycle ≡ start ∷ rest
  pub path : All (Leads next) (along pair start rest at)
  pub inside : All (λ i. i < length next) cycle
  pub at_in : at < length next
  pub no_twice : NoTwice cycle
  pub fresh : (i : ℕ) → Member cycle i → IsUnseen old i
  pub marks : (i : ℕ) → IsSeen seen i → IsSeen old i ⊎ Member cycle i
  pub keeps : (i : ℕ) → IsSeen old i → IsSeen seen i
  pub marked : (i : ℕ) → Member cycle i → IsSeen seen i
  pub free : at ≢ start → IsUnseen seen at
  pub before_at : ComesAfterSeen next seen at
  pub befores : (j : ℕ) → IsSeen seen j → (j ≡ start) ⊎ ComesAfterSeen next seen j

-- ---- marks
pub both : (b : Bool) → b ≡ true → b ≡ false → ⊥
both b h k = false≢true (sym k ∙ h)

pub unseen : (b : Bool) → ¬ (b ≡ true) → b ≡ false
unseen true n = absurd (n refl)
unseen false n = refl

pub seen_after : (seen : List Bool) (at i : ℕ) → IsSeen (set seen at true) i → (i ≡ at) ⊎ IsSeen seen i
seen_after seen at i h = elim (cases_eq i at) [ inl e ↦ inl e | inr n ↦ inr (sym (get_or-set_other seen at i true false n) ∙ h) ]

pub seen_at : (seen : List Bool) (at : ℕ) → at < length seen → IsSeen (set seen at true) at
seen_at seen at h = get_or-set_same seen at true false h

pub seen_still : (seen : List Bool) (at i : ℕ) → at < length seen → IsSeen seen i → IsSeen (set seen at true) i
seen_still seen at i h s = elim (cases_eq i at) [
  | inl e ↦ (let P : ℕ → Type 0 = λ k. IsSeen (set seen at true) k in subst P (sym e) (seen_at seen at h))
  | inr n ↦ get_or-set_other seen at i true false n ∙ s
]

pub before_still : (next : List ℕ) (seen : List Bool) (at j : ℕ) → at < length seen → ComesAfterSeen next seen j → ComesAfterSeen next (set seen at true) j
before_still next seen at j h b = record { i = b.i; inside = b.inside; seen_i = seen_still seen at b.i h b.seen_i; then = b.then }

-- ---- members
pub member_push : (is : List ℕ) (k i : ℕ) → Member (is ++ k ∷ []) i → Member is i ⊎ (k ≡ i)
member_push [] k i (inl e) = inr e
member_push [] k i (inr m) = absurd m
member_push (j ∷ is) k i (inl e) = inl (inl e)
member_push (j ∷ is) k i (inr m) = further (member_push is k i m)
  where
    further : Member is i ⊎ (k ≡ i) → Member (j ∷ is) i ⊎ (k ≡ i)
    further (inl x) = inl (inr x)
    further (inr y) = inr y

pub member_last : (is : List ℕ) (k : ℕ) → Member (is ++ k ∷ []) k
member_last [] k = inl refl
member_last (j ∷ is) k = inr (member_last is k)

pub member_front : (is : List ℕ) (k i : ℕ) → Member is i → Member (is ++ k ∷ []) i
member_front [] k i m = absurd m
member_front (j ∷ is) k i (inl e) = inl e
member_front (j ∷ is) k i (inr m) = inr (member_front is k i m)

pub no_twice_push : (is : List ℕ) (k : ℕ) → NoTwice is → ¬ (Member is k) → NoTwice (is ++ k ∷ [])
no_twice_push [] k d n = ((λ m. m), tt)
no_twice_push (j ∷ is) k d n = (other, no_twice_push is k d.1 (λ m. n (inr m)))
  where
    other : ¬ (Member (is ++ k ∷ []) j)
    other m = elim (member_push is k j m) [ inl x ↦ d.0 x | inr e ↦ n (inl (sym e)) ]

-- ---- the first step
pub begun : (next : List ℕ) (old : List Bool) (start : ℕ) → length old ≡ length next → All (λ k. k < length next) next → IsOneToOne next → IsClosed next old → start < length next → IsUnseen old start
    → Walking next old (set old start true) start (get_or next start 0) (start ∷ [])
begun next old start len range one closed inside free = record {
  same_length = length-set old start true ∙ len;
  rest = [];
  begins = refl;
  path = All-cons (Leads next) (start, get_or next start 0) [] refl (All-nil (Leads next));
  inside = All-cons (λ i. i < length next) start [] inside (All-nil (λ i. i < length next));
  at_in = All-get_or (λ k. k < length next) next start 0 inside range;
  no_twice = ((λ m. m), tt);
  fresh = fresh';
  marks = λ i h. elim (seen_after old start i h) [ inl e ↦ inr (inl (sym e)) | inr s ↦ inl s ];
  keeps = λ i s. seen_still old start i in_old s;
  marked = marked';
  free = λ n. unseen (get_or (set old start true) (get_or next start 0) false) (λ h. new n (seen_after old start (get_or next start 0) h));
  before_at = record { i = start; inside = inside; seen_i = seen_at old start in_old; then = refl };
  befores = λ j h. elim (seen_after old start j h) [ inl e ↦ inl e | inr s ↦ inr (before_still next old start j in_old (closed j s)) ];
}
  where
    in_old : start < length old
    in_old = omega arith

    fresh' : (i : ℕ) → Member (start ∷ []) i → IsUnseen old i
    fresh' i (inl e) = let P : ℕ → Type 0 = IsUnseen old in subst P e free
    fresh' i (inr m) = absurd m

    marked' : (i : ℕ) → Member (start ∷ []) i → IsSeen (set old start true) i
    marked' i (inl e) = let P : ℕ → Type 0 = IsSeen (set old start true) in subst P e (seen_at old start in_old)
    marked' i (inr m) = absurd m

    new : get_or next start 0 ≢ start → (get_or next start 0 ≡ start) ⊎ IsSeen old (get_or next start 0) → ⊥
    new n (inl e) = n e
    new n (inr s) = let b = closed (get_or next start 0) s in both (get_or old start false) (let P : ℕ → Type 0 = IsSeen old in subst P (one b.i start b.inside inside b.then) b.seen_i) free

-- ---- one more step
pub onward : (next : List ℕ) (old seen : List Bool) (start at : ℕ) (cycle : List ℕ) → All (λ k. k < length next) next → IsOneToOne next → at ≢ start → Walking next old seen start at cycle
    → Walking next old (set seen at true) start (get_or next at 0) (cycle ++ at ∷ [])
onward next old seen start at cycle range one away w = record {
  same_length = length-set seen at true ∙ w.same_length;
  rest = w.rest ++ at ∷ [];
  begins = ap (λ t. t ++ at ∷ []) w.begins;
  path = let P : List (ℕ × ℕ) → Type 0 = All (Leads next) in subst P (sym (along-append pair start w.rest at [] (get_or next at 0)))
      (All-append (Leads next) (along pair start w.rest at) (along pair at [] (get_or next at 0)) w.path (All-cons (Leads next) (at, get_or next at 0) [] refl (All-nil (Leads next))));
  inside = All-push (λ i. i < length next) cycle at w.inside w.at_in;
  at_in = All-get_or (λ k. k < length next) next at 0 w.at_in range;
  no_twice = no_twice_push cycle at w.no_twice (λ m. both (get_or seen at false) (w.marked at m) now);
  fresh = λ i m. elim (member_push cycle at i m) [ inl x ↦ w.fresh i x | inr e ↦ (let P : ℕ → Type 0 = IsUnseen old in subst P e (unseen (get_or old at false) (λ h. both (get_or seen at false) (w.keeps at h) now))) ];
  marks = λ i h. elim (seen_after seen at i h) [
    | inl e ↦ inr (let P : ℕ → Type 0 = Member (cycle ++ at ∷ []) in subst P (sym e) (member_last cycle at))
    | inr s ↦ elim (w.marks i s) [ inl o ↦ inl o | inr m ↦ inr (member_front cycle at i m) ]
  ];
  keeps = λ i s. seen_still seen at i in_seen (w.keeps i s);
  marked = λ i m. elim (member_push cycle at i m) [ inl x ↦ seen_still seen at i in_seen (w.marked i x) | inr e ↦ (let P : ℕ → Type 0 = IsSeen (set seen at true) in subst P e (seen_at seen at in_seen)) ];
  free = λ n. unseen (get_or (set seen at true) (get_or next at 0) false) (λ h. new n (seen_after seen at (get_or next at 0) h));
  before_at = record { i = at; inside = w.at_in; seen_i = seen_at seen at in_seen; then = refl };
  befores = λ j h. elim (seen_after seen at j h) [
    | inl e ↦ inr (let P : ℕ → Type 0 = ComesAfterSeen next (set seen at true) in subst P (sym e) (before_still next seen at at in_seen w.before_at))
    | inr s ↦ elim (w.befores j s) [ inl e ↦ inl e | inr b ↦ inr (before_still next seen at j in_seen b) ]
  ];
}
  where
    now : IsUnseen seen at
    now = w.free away

    at_bound : at < length next
    at_bound = w.at_in

    len : length seen ≡ length next
    len = w.same_length

    in_seen : at < length seen
    in_seen = omega (arith, at_bound, len)

    -- what comes before the next number is the last one, which wasn't seen
    was : ComesAfterSeen next seen (get_or next at 0) → ⊥
    was b = both (get_or seen at false) (let P : ℕ → Type 0 = IsSeen seen in subst P (one b.i at b.inside w.at_in b.then) b.seen_i) now

    new : get_or next at 0 ≢ start → (get_or next at 0 ≡ at) ⊎ IsSeen seen (get_or next at 0) → ⊥
    new n (inl e) = was (let P : ℕ → Type 0 = ComesAfterSeen next seen in subst P (sym e) w.before_at)
    new n (inr s) = elim (w.befores (get_or next at 0) s) [ inl e ↦ n e | inr b ↦ was b ]

-- ---- the end
pub ended : (next : List ℕ) (old seen : List Bool) (start at : ℕ) (cycle : List ℕ) → at ≡ start → Walking next old seen start at cycle → Walked next old seen start cycle
ended next old seen start at cycle e w = record {
  is_cycle = record {
    inside = w.inside;
    leads = let P : List ℕ → Type 0 = λ t. All (Leads next) (around pair t) in subst P (sym w.begins) (let Q : ℕ → Type 0 = λ z. All (Leads next) (along pair start w.rest z) in subst Q e w.path);
  };
  rest = w.rest;
  begins = w.begins;
  no_twice = w.no_twice;
  fresh = w.fresh;
  marks = w.marks;
  keeps = w.keeps;
  marked = w.marked;
  closed = λ j s. elim (w.befores j s) [ inl h ↦ (let P : ℕ → Type 0 = ComesAfterSeen next seen in subst P (e ∙ sym h) w.before_at) | inr b ↦ b ];
}

-- ---- fewer are unseen
pub one_fewer : (seen : List Bool) (at : ℕ) → at < length seen → IsUnseen seen at → count_by not (set seen at true) + 1 ≡ count_by not seen
one_fewer seen at h u = by_one (count_by not (set seen at true)) (count_by not seen) (cond (not (get_or seen at false)) 1 0) (sum_by-set (λ b. cond (not b) 1 0) seen at true false h) (ap (λ b. cond (not b) 1 0) u)
  where
    by_one : (a b c : ℕ) → a + c ≡ b + 0 → c ≡ 1 → a + 1 ≡ b
    by_one a b c e f = omega arith

pub fewer : (seen : List Bool) (at : ℕ) → at < length seen → IsUnseen seen at → count_by not (set seen at true) < count_by not seen
fewer seen at h u = let e = one_fewer seen at h u in omega (arith, e)
