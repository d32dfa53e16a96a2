-- The measure of a worker's loop: how far its hand's numbers reach.
use Rattle.std.proofs.Common.{◌≡◌, ℕ, ◌+◌, ◌<◌, ◌≤◌, List, [], ◌∷◌, ◌++◌, max, arith, sym, ap, ◌∙◌, append_assoc}
use mathlib.Core.List.{IsPrefix}
use Rattle.std.specs.Prelude.{All}
use Rattle.std.proofs.lemmas.List.Elements.{All-head, All-tail}

-- the least number above all of these
abbrev pub above : List ℕ → ℕ
above [] = 0
above (x ∷ xs) = max (x + 1) (above xs)

pub above_le : (xs : List ℕ) (k : ℕ) → All (λ x. x < k) xs → above xs ≤ k
above_le [] k h = omega arith
above_le (x ∷ xs) k h = omega (arith, All-head (λ x. x < k) x xs h, above_le xs k (All-tail (λ x. x < k) x xs h))

pub above_push : (xs : List ℕ) (k : ℕ) → above (xs ++ k ∷ []) ≡ max (above xs) (k + 1)
above_push [] k = omega arith
above_push (x ∷ xs) k = omega (arith, above_push xs k)

-- a list that goes on with what another begins still goes on so with one number more
pub longer : (xs ys zs : List ℕ) (k : ℕ) → IsPrefix xs ys → zs ≡ ys ++ k ∷ [] → IsPrefix xs zs
longer xs ys zs k more is = (more.0 ++ k ∷ [], sym (append_assoc xs more.0 (k ∷ [])) ∙ (ap (λ l. l ++ k ∷ []) more.1 ∙ sym is))
