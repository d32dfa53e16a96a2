-- Pieces that are made one after another stand in the order of their numbers.
use Rattle.std.proofs.Common.{◌≡◌, ℕ, List, [], ◌∷◌, ◌++◌, length, sym, ap, ◌∙◌, subst, ⊎_elim}
use Rattle.tile_book.proofs.Completed.{pushed_at}
use Rattle.tile_book.specs.Books.{StandInOrder}

pub in_order_none : {P : Type 0} (number : P → ℕ) → StandInOrder number []
in_order_none number = λ k p e. absurd (cc)

pub in_order_more : {P : Type 0} (number : P → ℕ) (n : ℕ) (xs ys : List P) (x : P) → length xs ≡ n → StandInOrder number xs → number x ≡ n → ys ≡ xs ++ x ∷ [] → StandInOrder number ys
in_order_more {P} number n xs ys x l h is e = subst (λ (zs : List P). StandInOrder number zs) (sym e)
    (λ k p got. ⊎_elim (λ q. h k p q) (λ q. ap number (sym q.1) ∙ is ∙ sym l ∙ sym q.0) (pushed_at xs x p k got))
