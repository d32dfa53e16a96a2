-- How many tests of a list are true.
use Rattle.std.proofs.Common.{◌≡◌, ◌≢◌, ℕ, zero, suc, ◌+◌, ◌<◌, ◌≤◌, ◌==◌, Bool, true, false, ◌||◌, List, [], ◌∷◌, ◌++◌, length, set, refl, sym, ap, ◌∙◌, subst, arith, length-set, length-append, get_or-set_same, get_or-set_other, replicate}
use Rattle.std.proofs.lemmas.List.{length-replicate}
use Rattle.std.specs.Prelude.{slice_index_or, slice_set}
use Rattle.std.proofs.lemmas.Bool.Decides.{nat_tests}
use mathlib.Core.Logic.{dite}
use native.Mathlib.Decide.{ℕ_discrete}
use Rattle.tile_book.specs.History.{one_if, is_in}
use Rattle.tile_book.specs.Machine.{CoreView, trues, IsSound, new_core}
use Rattle.tile_book.specs.declared.draw.TheConstants.{MOST_HANDS, MOST_NUMBERS}

pub trues_le : (bs : List Bool) → trues bs ≤ length bs
trues_le [] = omega arith
trues_le (true ∷ bs) = omega (arith, trues_le bs)
trues_le (false ∷ bs) = omega (arith, trues_le bs)

pub trues_set : (bs : List Bool) (k : ℕ) → k < length bs → slice_index_or bs k false ≡ false → trues (set bs k true) ≡ trues bs + 1
trues_set [] k h e = absurd (omega arith)
trues_set (b ∷ bs) zero h e = omega (arith, ap one_if e)
trues_set (b ∷ bs) (suc k) h e = omega (arith, trues_set bs k (omega arith) e)

pub trues_more : (bs : List Bool) (k : ℕ) → trues bs ≤ trues (set bs k true)
trues_more [] k = omega arith
trues_more (true ∷ bs) zero = omega arith
trues_more (false ∷ bs) zero = omega arith
trues_more (b ∷ bs) (suc k) = omega (arith, trues_more bs k)

pub trues_lt : (bs : List Bool) (k : ℕ) → k < length bs → slice_index_or bs k false ≡ false → trues bs < length bs
trues_lt bs k h e = omega (arith, trues_set bs k h e, trues_le (set bs k true), length-set bs k true)

pub is_in_push : (k : ℕ) (xs : List ℕ) (x : ℕ) → is_in k (xs ++ x ∷ []) ≡ (is_in k xs || (x == k))
is_in_push k [] x = grind (arith, nat_tests)
is_in_push k (y ∷ xs) x = grind (arith, nat_tests, is_in_push k xs x)

pub posts : (c : CoreView) (k : ℕ) → IsSound c → k < c.limit → slice_index_or c.held k false ≡ false
    → IsSound record { limit = c.limit; word = c.word; spent = c.spent; held = slice_set c.held k true; accepted = c.accepted ++ k ∷ [] }
posts c k h lt free = record {
  limit = h.limit;
  hands = h.hands;
  word = h.word;
  places = length-set _ _ _ ∙ h.places;
  held = λ j below. dite (ℕ_discrete j k) (λ same. here j same) (λ apart. there j below apart);
  count = omega (arith, trues_set c.held k (omega (arith, h.places)) free, length-append c.accepted (k ∷ []), h.count);
}
  where
    here : (j : ℕ) → j ≡ k → slice_index_or (slice_set c.held k true) j false ≡ is_in j (c.accepted ++ k ∷ [])
    here j same =
        let room : k < length c.held = omega (arith, h.places) in
        let at : slice_index_or (slice_set c.held k true) k false ≡ true = rw get_or-set_same refl in
        let now : is_in k (c.accepted ++ k ∷ []) ≡ true = is_in_push k c.accepted k ∙ grind (arith, nat_tests) in
        subst (λ i. slice_index_or (slice_set c.held k true) i false ≡ is_in i (c.accepted ++ k ∷ [])) (sym same) (at ∙ sym now)

    there : (j : ℕ) → j < c.limit → j ≢ k → slice_index_or (slice_set c.held k true) j false ≡ is_in j (c.accepted ++ k ∷ [])
    there j below apart =
        let at : slice_index_or (slice_set c.held k true) j false ≡ slice_index_or c.held j false = rw get_or-set_other refl in
        let now : is_in j (c.accepted ++ k ∷ []) ≡ is_in j c.accepted = is_in_push j c.accepted k ∙ grind (arith, nat_tests) in
        at ∙ h.held j below ∙ sym now

no_trues : (n : ℕ) → trues (replicate n false) ≡ 0
no_trues zero = refl
no_trues (suc n) = omega (arith, no_trues n)

false_at : (n k : ℕ) → slice_index_or (replicate n false) k false ≡ false
false_at zero k = refl
false_at (suc n) zero = refl
false_at (suc n) (suc k) = false_at n k

-- a new core is sound
pub starts : (n hands : ℕ) → n ≤ MOST_NUMBERS → hands ≤ MOST_HANDS → IsSound (new_core n hands)
starts n hands small few = record {
  limit = small;
  hands = omega (arith, few, length-replicate hands false);
  word = omega arith;
  places = length-replicate n false;
  held = λ k lt. false_at n k;
  count = no_trues n;
}
