-- What is known of all that was made is known of what is answered.
use Rattle.std.proofs.Common.{◌≡◌, subst}
use Rattle.std.specs.Prelude.{IfOk, Err, MatchResult, Ok, Result}

pub made_known : {X E F : Type 0} (P : X → Type 0) (Q : F → Type 0) (made : Result X E) (answer : Result X F) → IfOk made P → MatchResult answer (λ m. made ≡ Ok m) Q → IfOk answer P
made_known {X} {E} P Q made (Ok m) h is = subst (λ (r : Result X E). IfOk r P) is h
made_known P Q made (Err f) h is = tt
