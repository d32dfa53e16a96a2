-- The pieces that a book holds, taken out in the order of their numbers.
use Rattle.std.proofs.Common.{◌≡◌, ◌⊎◌, inl, inr, ℕ, zero, suc, ◌+◌, ◌<◌, ◌≤◌, List, [], ◌∷◌, ◌++◌, length, length-append, refl, sym, ap, ◌∙◌, subst, arith, ⊎_elim, length-set, get_or-set_other}
use Rattle.std.specs.Prelude.{Option, Some, None, slice_get, slice_index_or, slice_set}
use Rattle.tile_book.specs.Books.{BookView, HoldsAt, IsReplay, StandInOrder}

-- from number n on, each place holds a piece of its number, if any
abbrev pub HoldFrom : {P : Type 0} → (P → ℕ) → ℕ → List (Option P) → Type 0
HoldFrom {P} number n held = (k : ℕ) (p : P) → n ≤ k → k < length held → slice_index_or held k None ≡ Some p → number p ≡ k

-- pieces of the numbers below n were made, and the places from n on are as they were
pub record IsPartWay {P : Type 0} (number : P → ℕ) (limit n : ℕ) (held : List (Option P)) (pieces : List P) : Type 0 where
  pub places : length held ≡ limit
  pub made : length pieces ≡ n
  pub left : HoldFrom number n held
  pub in_order : StandInOrder number pieces

pub held_from : {P : Type 0} (number : P → ℕ) (b : BookView P) → IsReplay number b → HoldFrom number 0 b.held
held_from {P} number b h k p low l is = (subst (λ (o : Option P). HoldsAt number b.accepted k o) is (h.held k (omega (arith, h.places)))).0

pub part_way_none : {P : Type 0} (number : P → ℕ) (b : BookView P) → IsReplay number b → IsPartWay number b.limit 0 b.held []
part_way_none number b h = record { places = h.places; made = refl; left = held_from number b h; in_order = λ k p e. absurd (cc) }

pub pushed_at : {X : Type 0} (xs : List X) (y x : X) (j : ℕ) → slice_get (xs ++ y ∷ []) j ≡ Some x → (slice_get xs j ≡ Some x) ⊎ ((j ≡ length xs) × (y ≡ x))
pushed_at [] y x zero e = inr (refl, cc)
pushed_at [] y x (suc j) e = absurd (cc)
pushed_at (z ∷ xs) y x zero e = inl e
pushed_at (z ∷ xs) y x (suc j) e = ⊎_elim (λ p. inl p) (λ p. inr (ap suc p.0, p.1)) (pushed_at xs y x j e)

pub in_order_push : {P : Type 0} (number : P → ℕ) (pieces : List P) (piece : P) → StandInOrder number pieces → number piece ≡ length pieces → StandInOrder number (pieces ++ piece ∷ [])
in_order_push number pieces piece h is = λ k p e. ⊎_elim (λ q. h k p q) (λ q. ap number (sym q.1) ∙ is ∙ sym q.0) (pushed_at pieces piece p k e)

-- one piece more
pub part_way_more : {P : Type 0} (number : P → ℕ) (limit n : ℕ) (held : List (Option P)) (pieces : List P) (o : Option P) (piece : P) → IsPartWay number limit n held pieces → n < limit → number piece ≡ n
    → IsPartWay number limit (n + 1) (slice_set held n o) (pieces ++ piece ∷ [])
part_way_more {P} number limit n held pieces o piece h l is = record {
  places = length-set held n o ∙ h.places;
  made = omega (arith, length-append pieces (piece ∷ []), h.made);
  left = λ k p low below e. h.left k p (omega arith) (omega (arith, length-set held n o)) (sym (other k low) ∙ e);
  in_order = in_order_push number pieces piece h.in_order (is ∙ sym h.made);
}
  where
    other : (k : ℕ) → n + 1 ≤ k → slice_index_or (slice_set held n o) k None ≡ slice_index_or held k None
    other k low = let apart : k ≡ n → ⊥ = λ e. omega arith in rw get_or-set_other refl
