-- A piece that is accepted keeps the book a replay.
use Rattle.std.proofs.Common.{◌≡◌, ◌≢◌, ℕ, zero, suc, ◌+◌, ◌<◌, ◌≤◌, List, [], ◌∷◌, ◌++◌, length, Some, None, Option, refl, sym, ap, ◌∙◌, subst, arith, length-append, length-set, get_or-set_same, get_or-set_other, replicate}
use Rattle.std.proofs.lemmas.List.{length-replicate}
use Rattle.std.specs.Prelude.{slice_index_or, slice_set, MatchOption, IsSome}
use Rattle.std.proofs.lemmas.Bool.Decides.{nat_tests}
use mathlib.Core.Logic.{dite}
use native.Mathlib.Decide.{ℕ_discrete}
use Rattle.tile_book.specs.Counts.{is_it, times}
use Rattle.tile_book.proofs.Accepted.{times_snoc}
use Rattle.tile_book.specs.Books.{BookView, pieces, one_if_some, HoldsAt, IsReplay, with_piece}

it_same : (x : ℕ) → is_it x x ≡ 1
it_same x = grind (arith, nat_tests)

it_other : (x y : ℕ) → x ≢ y → is_it x y ≡ 0
it_other x y apart = grind (arith, nat_tests)

module _ {P : Type 0} where
  pub pieces_le : (os : List (Option P)) → pieces os ≤ length os
  pieces_le [] = omega arith
  pieces_le (None ∷ os) = omega (arith, pieces_le os)
  pieces_le (Some p ∷ os) = omega (arith, pieces_le os)

  -- an empty place leaves room
  pub pieces_lt : (os : List (Option P)) (k : ℕ) → k < length os → slice_index_or os k None ≡ None → pieces os < length os
  pieces_lt [] k h e = absurd (omega arith)
  pieces_lt (o ∷ os) zero h e = omega (arith, ap one_if_some e, pieces_le os)
  pieces_lt (None ∷ os) (suc k) h e = omega (arith, pieces_lt os k (omega arith) e)
  pieces_lt (Some p ∷ os) (suc k) h e = omega (arith, pieces_lt os k (omega arith) e)

  pub pieces_set : (os : List (Option P)) (k : ℕ) (p : P) → k < length os → slice_index_or os k None ≡ None → pieces (slice_set os k (Some p)) ≡ pieces os + 1
  pieces_set [] k p h e = absurd (omega arith)
  pieces_set (o ∷ os) zero p h e = omega (arith, ap one_if_some e)
  pieces_set (o ∷ os) (suc k) p h e = omega (arith, pieces_set os k p (omega arith) e)

  pub posted : (number : P → ℕ) (b : BookView P) (k : ℕ) (p : P) → IsReplay number b → k < b.limit → slice_index_or b.held k None ≡ None → number p ≡ k → IsReplay number (with_piece b k p)
  posted number b k p h lt free is = record {
    places = length-set _ _ _ ∙ h.places;
    held = λ j below. dite (ℕ_discrete j k) (λ same. here j same) (λ apart. there j below apart);
    below = λ j some. dite (ℕ_discrete j k) (λ same. omega arith) (λ apart. h.below j (omega (arith, times_snoc j b.accepted k, it_other j k apart)));
    count = omega (arith, pieces_set b.held k p (omega (arith, h.places)) free, length-append b.accepted (k ∷ []), h.count);
  }
    where
      never : times k b.accepted ≡ 0
      never = subst (HoldsAt number b.accepted k) free (h.held k lt)

      New : ℕ → Option P → Type 0
      New j o = HoldsAt number (b.accepted ++ k ∷ []) j o

      here : (j : ℕ) → j ≡ k → New j (slice_index_or (slice_set b.held k (Some p)) j None)
      here j same =
          let room : k < length b.held = omega (arith, h.places) in
          let at : slice_index_or (slice_set b.held k (Some p)) k None ≡ Some p = rw get_or-set_same refl in
          subst (λ i. New i (slice_index_or (slice_set b.held k (Some p)) i None)) (sym same)
          (subst (New k) (sym at) (is, omega (arith, times_snoc k b.accepted k, it_same k, never)))

      there : (j : ℕ) → j < b.limit → j ≢ k → New j (slice_index_or (slice_set b.held k (Some p)) j None)
      there j below apart =
          let at : slice_index_or (slice_set b.held k (Some p)) j None ≡ slice_index_or b.held j None = rw get_or-set_other refl in
          let same : times j (b.accepted ++ k ∷ []) ≡ times j b.accepted = omega (arith, times_snoc j b.accepted k, it_other j k apart) in
          subst (New j) (sym at) (subst (λ n. MatchOption (slice_index_or b.held j None) (n ≡ 0) (λ q. (number q ≡ j) × (n ≡ 1))) (sym same) (h.held j below))

pub no_pieces : (P : Type 0) (n : ℕ) → pieces {P = P} (replicate n None) ≡ 0
no_pieces P zero = refl
no_pieces P (suc n) = omega (arith, no_pieces P n)

none_at : (P : Type 0) (n k : ℕ) → slice_index_or (replicate {A = Option P} n None) k None ≡ None
none_at P zero k = refl
none_at P (suc n) zero = refl
none_at P (suc n) (suc k) = none_at P n k

-- a new book is empty
pub opened : {P : Type 0} (number : P → ℕ) (n : ℕ) (held : List (Option P)) (accepted : List ℕ) → held ≡ replicate n None → accepted ≡ [] → IsReplay number record { limit = n; held = held; accepted = accepted }
opened {P} number n held accepted is none =
    let empty : IsReplay number record { limit = n; held = replicate n None; accepted = [] } = record {
      places = length-replicate n None;
      held = λ k lt. subst (HoldsAt number [] k) (sym (none_at P n k)) refl;
      below = λ k some. absurd (omega arith);
      count = no_pieces P n;
    } in
    subst (λ (p : List (Option P) × List ℕ). IsReplay number record { limit = n; held = p.0; accepted = p.1 }) (λ i. (sym is i, sym none i)) empty

-- where as many pieces are held as there are places, each place holds one
pub all_held : {P : Type 0} (os : List (Option P)) → pieces os ≡ length os → (k : ℕ) → k < length os → IsSome (slice_index_or os k None)
all_held [] e k h = absurd (omega arith)
all_held (None ∷ os) e k h = absurd (omega (arith, pieces_le os))
all_held (Some p ∷ os) e zero h = refl
all_held (Some p ∷ os) e (suc k) h = all_held os (omega arith) k (omega arith)

pub full : {P : Type 0} (number : P → ℕ) (b : BookView P) → IsReplay number b → length b.accepted ≡ b.limit → (k : ℕ) → k < b.limit → IsSome (slice_index_or b.held k None)
full number b h e k lt = all_held b.held (omega (arith, h.count, h.places)) k (omega (arith, h.places))
