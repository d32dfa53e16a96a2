-- What is printed (own).
use Rattle.std.specs.Prelude.{◌≡◌, ℕ, List, Option, Result, MatchResult, take}
use Rattle.results.specs.Sinks.{bytes_after}

-- a call printed the first of the bytes, so many; or it failed, and printed none
abbrev pub HasPrinted : {E : Type 0} → Option (List ℕ) → Option (List ℕ) → List ℕ → Result ℕ E → Type 0
HasPrinted old new bytes r = MatchResult r (λ count. new ≡ bytes_after old (take count bytes)) (λ _. new ≡ old)
