-- The shell of a polygon, kept at the places of a ring's edges.
use Rattle.std.proofs.Common.{◌≡◌, ◌⊎◌, ℕ, inl, inr, Option, Some, None, List, [], ◌∷◌, get_or}
use Rattle.std.specs.Prelude.{Contains}
use Rattle.std.proofs.lemmas.Bool.{cases_eq}
use Rattle.geom.proofs.Lists.{In, contains_in, in_contains}
use Rattle.polygonize.specs.declared.written.Opening.{Opening}
use Rattle.polygonize.specs.Owning.{KeepsShell}

in_or_not : (xs : List ℕ) (k : ℕ) → In k xs ⊎ ¬ (In k xs)
in_or_not [] k = inr (λ i. i)
in_or_not (x ∷ xs) k = elim (cases_eq x k) [
  | inl e ↦ inl (inl e)
  | inr n ↦ elim (in_or_not xs k) [
    | inl i ↦ inl (inr i)
    | inr m ↦ inr (λ i. elim i [ inl e ↦ n e | inr j ↦ m j ])
  ]
]

pub member : (xs : List ℕ) (k : ℕ) → Contains xs k ⊎ ¬ (Contains xs k)
member xs k = elim (in_or_not xs k) [
  | inl i ↦ inl (in_contains xs k i)
  | inr n ↦ inr (λ c. n (contains_in xs k c))
]

pub kept_or_as_before : (cycle : List ℕ) (shell : Opening) (old new : List (Option Opening)) → KeepsShell cycle shell old new → (k : ℕ) → (get_or new k None ≡ get_or old k None) ⊎ (Contains cycle k × (get_or new k None ≡ Some shell))
kept_or_as_before cycle shell old new w k = elim (member cycle k) [
  | inl c ↦ inr (c, w.kept k c)
  | inr n ↦ inl (w.rest k n)
]
