-- What answers tell of parts, where all of them are given.
use Rattle.std.proofs.Common.{◌≡◌, List, [], ◌∷◌, map, subst, sym}
use Rattle.std.specs.Prelude.{Result, Ok, Err, MatchResult, IfOk}
use Rattle.std.specs.List.{AllZip}

oks : {P X E : Type 0} (R : P → Result X E → Type 0) (ps : List P) (xs : List X) → AllZip R ps (map Ok xs) → AllZip (λ p x. R p (Ok x)) ps xs
oks R [] [] h = tt
oks R [] (x ∷ xs) h = absurd h
oks R (p ∷ ps) [] h = absurd h
oks R (p ∷ ps) (x ∷ xs) h = (h.0, oks R ps xs h.1)

-- a list of answers was made of those that were given, or one of them is a fault
pub all_given : {P X E W : Type 0} (R : P → Result X E → Type 0) (items : W → List X) (Q : E → Type 0) (ps : List P) (rs : List (Result X E)) (made : Result W E) → AllZip R ps rs → MatchResult made (λ w. (xs : List X) × (rs ≡ map Ok xs) × (items w ≡ xs)) Q → IfOk made (λ w. AllZip (λ p x. R p (Ok x)) ps (items w))
all_given R items Q ps rs (Err e) zip given = tt
all_given R items Q ps rs (Ok w) zip given = subst (λ xs. AllZip (λ p x. R p (Ok x)) ps xs) (sym given.2) (oks R ps given.0 (subst (λ l. AllZip R ps l) given.1 zip))
