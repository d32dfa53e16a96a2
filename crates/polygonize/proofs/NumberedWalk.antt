-- The walk that gives what it passes the number of its cycle.
use Rattle.std.proofs.Common.{◌≡◌, ◌≢◌, ◌==◌, ℕ, ◌<◌, Bool, true, false, not, List, [], ◌∷◌, ◌++◌, length, get_or, set, refl, sym, ◌∙◌, ap, subst, inl, inr, arith, append_assoc}
use Rattle.std.specs.Prelude.{All, count_by}
use Rattle.std.proofs.lemmas.Bool.{cases_eq}
use Rattle.std.proofs.lemmas.Bool.Decides.{nat_tests}
use Rattle.std.proofs.lemmas.List.{get_or-map, get_or-set_other, get_or-set_same, length-map, map-set}
use Rattle.geom.proofs.Lists.{contains_in, in_contains}
use Rattle.polygonize.specs.Cycle.{IsClosed, IsOneToOne, IsSeen, IsUnseen, Member, seen_of}
use Rattle.polygonize.specs.RingNumbers.{IsNumberedWalk}
use Rattle.polygonize.proofs.Cycles.{in_member, member_in}
use Rattle.polygonize.proofs.Walking.{Walking, begun, ended, fewer, member_front, member_last, member_push, onward}

-- ---- marks by numbers
is_seen : (number none : ℕ) → number ≢ none → not (number == none) ≡ true
is_seen number none n = grind (arith, nat_tests)

seen_set : (none number : ℕ) (cycle_at : List ℕ) (at : ℕ) → number < none → seen_of none (set cycle_at at number) ≡ set (seen_of none cycle_at) at true
seen_set none number cycle_at at h = map-set (λ r. not (r == none)) cycle_at at number ∙ ap (set (seen_of none cycle_at) at) (is_seen number none (λ e. omega (arith, e, h)))

pub seen_length : (none : ℕ) (cycle_at : List ℕ) → length (seen_of none cycle_at) ≡ length cycle_at
seen_length none cycle_at = length-map cycle_at (λ r. not (r == none))

mark_at : (none : ℕ) (cycle_at : List ℕ) (k : ℕ) → k < length cycle_at → get_or (seen_of none cycle_at) k false ≡ not (get_or cycle_at k 0 == none)
mark_at none cycle_at k h = get_or-map (λ r. not (r == none)) cycle_at k 0 false h

pub seen_by_number : (none : ℕ) (cycle_at : List ℕ) (k : ℕ) → k < length cycle_at → get_or cycle_at k 0 ≢ none → IsSeen (seen_of none cycle_at) k
seen_by_number none cycle_at k h n = mark_at none cycle_at k h ∙ is_seen (get_or cycle_at k 0) none n

pub number_of_unseen : (none : ℕ) (cycle_at : List ℕ) (k : ℕ) → k < length cycle_at → IsUnseen (seen_of none cycle_at) k → get_or cycle_at k 0 ≡ none
number_of_unseen none cycle_at k h u = is_none (get_or cycle_at k 0) (sym (mark_at none cycle_at k h) ∙ u)
  where
    is_none : (number : ℕ) → not (number == none) ≡ false → number ≡ none
    is_none number e = grind (arith, nat_tests)

-- ---- the walk so far: along a cycle that stands behind what the list had
pub record WalksNumbering (next old now : List ℕ) (start at number : ℕ) (list longer : List ℕ) : Type 0 where
  pub cycle : List ℕ
  pub behind : longer ≡ list ++ cycle
  pub walking : Walking next (seen_of (length next) old) (seen_of (length next) now) start at cycle
  pub numbered : (k : ℕ) → Member cycle k → get_or now k 0 ≡ number
  pub rest : (k : ℕ) → ¬ (Member cycle k) → get_or now k 0 ≡ get_or old k 0

pub walk_begun : (next old list : List ℕ) (start number : ℕ) → length old ≡ length next → All (λ k. k < length next) next → IsOneToOne next → IsClosed next (seen_of (length next) old) → start < length next → IsUnseen (seen_of (length next) old) start → number < length next
    → WalksNumbering next old (set old start number) start (get_or next start 0) number list (list ++ start ∷ [])
walk_begun next old list start number len range one closed inside free low = record {
  cycle = start ∷ [];
  behind = refl;
  walking = subst (λ (seen : List Bool). Walking next (seen_of (length next) old) seen start (get_or next start 0) (start ∷ [])) (sym (seen_set (length next) number old start low))
      (begun next (seen_of (length next) old) start (seen_length (length next) old ∙ len) range one closed inside free);
  numbered = numbered;
  rest = λ k n. get_or-set_other old start k number 0 (λ e. n (inl (sym e)));
}
  where
    numbered : (k : ℕ) → Member (start ∷ []) k → get_or (set old start number) k 0 ≡ number
    numbered k (inl e) = subst (λ (i : ℕ). get_or (set old start number) i 0 ≡ number) e (get_or-set_same old start number 0 (omega (arith, inside, len)))
    numbered k (inr m) = absurd m

pub walk_onward : (next old now list longer : List ℕ) (start at number : ℕ) → All (λ k. k < length next) next → IsOneToOne next → number < length next → at ≢ start → WalksNumbering next old now start at number list longer
    → WalksNumbering next old (set now at number) start (get_or next at 0) number list (longer ++ at ∷ [])
walk_onward next old now list longer start at number range one low away w = record {
  cycle = w.cycle ++ at ∷ [];
  behind = ap (λ t. t ++ at ∷ []) w.behind ∙ append_assoc list w.cycle (at ∷ []);
  walking = subst (λ (seen : List Bool). Walking next (seen_of (length next) old) seen start (get_or next at 0) (w.cycle ++ at ∷ [])) (sym (seen_set (length next) number now at low))
      (onward next (seen_of (length next) old) (seen_of (length next) now) start at w.cycle range one away w.walking);
  numbered = λ k m. elim (member_push w.cycle at k m) [ inl x ↦ still k x | inr e ↦ subst (λ (i : ℕ). get_or (set now at number) i 0 ≡ number) e here ];
  rest = λ k n. get_or-set_other now at k number 0 (λ e. n (subst (Member (w.cycle ++ at ∷ [])) (sym e) (member_last w.cycle at))) ∙ w.rest k (λ m. n (member_front w.cycle at k m));
}
  where
    in_now : at < length now
    in_now = let i = w.walking.at_in in let s = w.walking.same_length in let e = seen_length (length next) now in omega (arith, i, s, e)

    here : get_or (set now at number) at 0 ≡ number
    here = get_or-set_same now at number 0 in_now

    still : (k : ℕ) → Member w.cycle k → get_or (set now at number) k 0 ≡ number
    still k m = elim (cases_eq k at) [
      | inl e ↦ subst (λ (i : ℕ). get_or (set now at number) i 0 ≡ number) (sym e) here
      | inr n ↦ get_or-set_other now at k number 0 n ∙ w.numbered k m
    ]

pub walk_ended : (next old now list longer : List ℕ) (start at number : ℕ) → at ≡ start → WalksNumbering next old now start at number list longer → IsNumberedWalk next old now start number list longer
walk_ended next old now list longer start at number e w = record {
  cycle = w.cycle;
  behind = w.behind;
  walked = ended next (seen_of (length next) old) (seen_of (length next) now) start at w.cycle e w.walking;
  numbered = record {
    numbered = λ k c. w.numbered k (in_member w.cycle k (contains_in w.cycle k c));
    rest = λ k n. w.rest k (λ m. n (in_contains w.cycle k (member_in w.cycle k m)));
  };
}

-- ---- fewer have no number
pub fewer_left : (next old now list longer : List ℕ) (start at number : ℕ) → number < length next → at ≢ start → WalksNumbering next old now start at number list longer
    → count_by not (seen_of (length next) (set now at number)) < count_by not (seen_of (length next) now)
fewer_left next old now list longer start at number low away w = rw (seen_set (length next) number now at low)
    (fewer (seen_of (length next) now) at (let i = w.walking.at_in in let s = w.walking.same_length in omega (arith, i, s)) (w.walking.free away))
