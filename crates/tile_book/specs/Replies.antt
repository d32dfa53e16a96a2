-- What a piece that comes back says.
use Rattle.std.specs.Prelude.{◌≡◌, ℕ, ◌+◌, ◌<◌, ◌≤◌, None, IsSome, MatchResult, Result, slice_index_or}
use Rattle.tile_book.specs.declared.book.Returned.{Returned}
use Rattle.tile_book.specs.declared.book.Returned.TheVariants.{Stranger, Double}
use Rattle.tile_book.specs.Books.{BookView, with_piece}

-- the piece comes back, as a stranger where its number is not below the limit, else because its number is held
abbrev pub ComesBack : {P : Type 0} → (P → ℕ) → BookView P → P → Returned P → Type 0
ComesBack number b p (Stranger q) = (q ≡ p) × (b.limit ≤ number p)
ComesBack number b p (Double q) = (q ≡ p) × (number p < b.limit) × IsSome (slice_index_or b.held (number p) None)

-- a piece whose number is below the limit and isn't held is accepted, and the share counts one more; any other comes back, and nothing has changed
abbrev pub IsPosted : {P : Type 0} → (P → ℕ) → BookView P → BookView P → P → ℕ → ℕ → Result Unit (Returned P) → Type 0
IsPosted number old new p share left told = MatchResult told
    (λ _. (number p < old.limit) × (slice_index_or old.held (number p) None ≡ None) × (new ≡ with_piece old (number p) p) × (left ≡ share + 1))
    (λ r. ComesBack number old p r × (new ≡ old) × (left ≡ share))

-- at a desk whose book holds what others posted too: the piece comes back, as a stranger where its number is not below the limit
abbrev pub SentBack : {P : Type 0} → (P → ℕ) → ℕ → P → Returned P → Type 0
SentBack number limit p (Stranger q) = (q ≡ p) × (limit ≤ number p)
SentBack number limit p (Double q) = (q ≡ p) × (number p < limit)
