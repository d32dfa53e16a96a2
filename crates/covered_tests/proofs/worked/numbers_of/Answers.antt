-- Sets that are added later leave the numbers of sets.
use Rattle.std.proofs.Common.{inl, inr, ℕ, List, [], ◌∷◌, arith, subst}
use Rattle.geom.proofs.Lists.{In}
use Rattle.geom.proofs.Owners.{all_in}
use Rattle.cover_sets.specs.Sets.{IsNumber, Keeps}
use Rattle.covered_tests.proofs.worked.numbers_of.Goals as goal

number_kept : (S T : List (List ℕ)) (n : ℕ) → Keeps S T → IsNumber S n → IsNumber T n
number_kept S T n k i = (k n i).0

six : (P : ℕ → Type 0) (a b c d e f : ℕ) → P a → P b → P c → P d → P e → P f → (n : ℕ) → In n (a ∷ b ∷ c ∷ d ∷ e ∷ f ∷ []) → P n
six P a b c d e f x y z u v w n (inl h) = subst P h x
six P a b c d e f x y z u v w n (inr (inl h)) = subst P h y
six P a b c d e f x y z u v w n (inr (inr (inl h))) = subst P h z
six P a b c d e f x y z u v w n (inr (inr (inr (inl h)))) = subst P h u
six P a b c d e f x y z u v w n (inr (inr (inr (inr (inl h))))) = subst P h v
six P a b c d e f x y z u v w n (inr (inr (inr (inr (inr (inl h)))))) = subst P h w
six P a b c d e f x y z u v w n (inr (inr (inr (inr (inr (inr i)))))) = absurd i

pub returns-clause-numbers : goal.returns-clause-numbers
returns-clause-numbers g c =
    let T = c.of-5.new.self in
    let two = c.of-2.new.self in
    let three = c.of-3.new.self in
    let four = c.of-4.new.self in
    let first = number_kept four T c.in_ok-first.first c.in_ok-all.ensures.keeps (number_kept three four c.in_ok-first.first c.in_ok-last_two.ensures.keeps
    (number_kept two three c.in_ok-first.first c.in_ok-first_two.ensures.keeps (number_kept c.of.new.self two c.in_ok-first.first c.in_ok-second.ensures.keeps c.in_ok-first.ensures.set.0))) in
    let second = number_kept four T c.in_ok-second.second c.in_ok-all.ensures.keeps (number_kept three four c.in_ok-second.second c.in_ok-last_two.ensures.keeps
    (number_kept two three c.in_ok-second.second c.in_ok-first_two.ensures.keeps c.in_ok-second.ensures.set.0)) in
    let first_two = number_kept four T c.in_ok-first_two.first_two c.in_ok-all.ensures.keeps (number_kept three four c.in_ok-first_two.first_two c.in_ok-last_two.ensures.keeps c.in_ok-first_two.ensures.set.0) in
    let last_two = number_kept four T c.in_ok-last_two.last_two c.in_ok-all.ensures.keeps c.in_ok-last_two.ensures.set.0 in
    all_in (IsNumber T) (4294967295 ∷ c.in_ok-first.first ∷ c.in_ok-second.second ∷ c.in_ok-first_two.first_two ∷ c.in_ok-last_two.last_two ∷ c.in_ok-all.all ∷ [])
    (six (IsNumber T) 4294967295 c.in_ok-first.first c.in_ok-second.second c.in_ok-first_two.first_two c.in_ok-last_two.last_two c.in_ok-all.all
    (inr (omega arith, omega arith)) first second first_two last_two c.in_ok-all.ensures.set.0)
