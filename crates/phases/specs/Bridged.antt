-- Over the border on the right of a strip (own).
use Rattle.std.specs.Prelude.{◌≡◌, ◌≢◌, ◌<◌, AllPairs, Contains, IfSome, List, None}
use Rattle.std.specs.List.{AllZip}
use Rattle.strips_law.specs.declared.line.Open.{Open}
use Rattle.strips_law.specs.declared.line.Carried.{Carried}

-- no line has the pixel that is carried for it
abbrev pub AreApart : List Open → List Carried → Type 0
AreApart right carried = AllZip (λ o c. IfSome o.near (λ p. p ≢ c.pixel)) right carried

-- for each line that has no pixel one is carried
pub record ArePassing (left : List Open) (carried : List Carried) : Type 0 where
  pub ascending : AllPairs (λ c d. c.number < d.number) carried
  pub passing : (o : Open) → Contains left o → o.near ≡ None → (c : Carried) × Contains carried c × (c.number ≡ o.number)
