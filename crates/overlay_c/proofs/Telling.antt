-- From what the engine and the copy say to what a call for C says.
use Rattle.std.proofs.Common.{◌≡◌, inl, inr, ℕ, List, length, subst, sym, refl}
use Rattle.std.specs.Prelude.{MatchResult, Option, Result, Ok, Err, None, Some, Vec}
use Rattle.overlay_c.specs.declared.answer.OverlayAnswer.{OverlayAnswer}
use Rattle.overlay_c.specs.Boundary.{Fills, IsPut, Sizes, filled, none, none_filled, plain, sized, small}

-- ---- what was made or not, its size or where it was put
module _ (IsText : List ℕ → Type 0) (IsFailure : OverlayAnswer → Type 0) where
  put_fills : (text before after : List ℕ) (answer : OverlayAnswer) → IsText text → IsPut text before after answer → Fills IsText IsFailure before after answer
  put_fills text before after answer is (inl (h, told)) = subst (λ (w : OverlayAnswer). Fills IsText IsFailure before after w) (sym told) (filled text is h)
  put_fills text before after answer is (inr (long, same, told)) = subst (λ (w : OverlayAnswer). Fills IsText IsFailure before after w) (sym told) (small text is long same)

  pub sizes : {M : Type 0} (made : Result (Vec ℕ M) OverlayAnswer) (answer : OverlayAnswer) → MatchResult made (λ text. IsText text.items) IsFailure
      → MatchResult made (λ text. answer ≡ plain 0 (length text.items)) (λ told. answer ≡ told) → Sizes IsText IsFailure answer
  sizes (Ok text) answer is h = subst (λ (w : OverlayAnswer). Sizes IsText IsFailure w) (sym h) (sized text.items is)
  sizes (Err told) answer is h = subst (λ (w : OverlayAnswer). Sizes IsText IsFailure w) (sym h) (none is)

  pub fills : {M : Type 0} (made : Result (Vec ℕ M) OverlayAnswer) (before after : List ℕ) (answer : OverlayAnswer) → MatchResult made (λ text. IsText text.items) IsFailure
      → MatchResult made (λ text. IsPut text.items before after answer) (λ told. (answer ≡ told) × (after ≡ before)) → Fills IsText IsFailure before after answer
  fills (Ok text) before after answer is h = put_fills text.items before after answer is h
  fills (Err told) before after answer is h = subst (λ (w : OverlayAnswer). Fills IsText IsFailure before after w) (sym h.0) (none_filled is h.1)

pub none_of : {X : Type 0} (r : Option X) → ((x : X) → r ≡ Some x → ⊥) → r ≡ None
none_of None h = refl
none_of (Some x) h = absurd (h x refl)
