-- The features either of a set or of a list, and not of both (own).
use Rattle.std.specs.Prelude.{◌≡◌, ℕ, List}
use Rattle.cover_law.specs.Cover.{has}
use Rattle.cover_law.specs.Rows.{differ}
use Rattle.cover_sets.specs.Sets.{IsNumber, set_of}

abbrev pub IsExchange : List ℕ → List ℕ → List ℕ → Type 0
IsExchange s t r = (f : ℕ) → has f r ≡ differ (has f s) (has f t)

abbrev pub IsExchanged : List (List ℕ) → ℕ → List ℕ → List (List ℕ) → ℕ → Type 0
IsExchanged old m features new n = IsNumber new n × IsExchange (set_of old m) features (set_of new n)
