-- What the typed getters read.
use Rattle.std.proofs.Common.{◌≡◌, ◌≢◌, codes, ◌∙◌, ℕ, Bool, true, false, List, Option, Some, None, Result, Ok, refl, sym, ap, inl, inr, arith}
use Rattle.std.specs.Prelude.{IfSome, unwrap_or}
use Rattle.std.specs.Str.{bytes_eq}
use Rattle.std.proofs.lemmas.Slice.Eq.{bytes_eq-Decides}
use Rattle.std.specs.Str.Parse.{ParsesUnsigned, ParsesBool}
use Rattle.clap.specs.Words.{Text, one_of, one_text, rows_of, ReadsOne}
use Rattle.clap.specs.declared.parser.matches.Found.{Found}
use Rattle.clap.proofs.WalkLemmas.{one_text-rows}
use Rattle.clap.specs.Words.{without_minus}
use Rattle.clap.proofs.CallerReads.{signed_reads}
use Rattle.program.specs.Arguments.{MayHaveNumber}
use Rattle.program.specs.CommandLine.{IsGivenNumber, IsHeldNumber, is_set}

bytes_ne : (s t : Text) → s ≢ t → bytes_eq s t ≡ false
bytes_ne s t ne = go (bytes_eq s t) refl
  where
    go : (b : Bool) → bytes_eq s t ≡ b → bytes_eq s t ≡ false
    go true e = absurd (ne ((bytes_eq-Decides s t).0 e))
    go false e = e

pub number_read : {E : Type 0} (G : List ℕ → Result ℕ E → Type 0) (f : Found) (id : Text) (r : Option ℕ)
    → ((t : List ℕ) (x : Result ℕ E) → G t x → ParsesUnsigned 32 10 t x)
    → (one_text f id ≡ None → r ≡ None) → ((t : List ℕ) → one_text f id ≡ Some t → ReadsOne G t r)
    → IfSome r (λ n. IsHeldNumber id (rows_of f) n)
number_read G f id None only none value = tt
number_read {E} G f id (Some n) only none value = go (one_text f id) refl
  where
    some_not_none : (x : ℕ) → Some x ≡ None → ⊥
    some_not_none x e = cc

    go : (o : Option Text) → one_text f id ≡ o → IsHeldNumber id (rows_of f) n
    go None e = let bad : Some n ≡ None = none e in absurd (some_not_none n bad)
    go (Some t) e =
        let p = only t (Ok n) (value t e) in
        (t, sym (one_text-rows f id) ∙ e, p.0.0, p.1)

pub number_given_read : {E : Type 0} (G : List ℕ → Result ℕ E → Type 0) (f : Found) (id : Text) (r : Option ℕ)
    → ((t : List ℕ) (x : Result ℕ E) → G t x → ParsesUnsigned 32 10 t x)
    → (one_text f id ≡ None → r ≡ None) → ((t : List ℕ) → one_text f id ≡ Some t → ReadsOne G t r)
    → MayHaveNumber f id → IsGivenNumber id (rows_of f) r
number_given_read G f id r only none value (inl e) = rw (none e) (sym (one_text-rows f id) ∙ e)
number_given_read {E} G f id r only none value (inr h) =
    let got = signed_reads E G 32 h.0 4294967295 h.1 r (value (without_minus h.1) h.2) only (omega arith) h.3 in
    held r got.0 got.1 (number_read G f id r only none value)
  where
    held : (o : Option ℕ) (n : ℕ) → o ≡ Some n → IfSome o (λ m. IsHeldNumber id (rows_of f) m) → IsGivenNumber id (rows_of f) o
    held None n e h = let bad : None ≡ Some n = e in cc
    held (Some m) n e h = h

pub flag_read : (E : Type 0) (f : Found) (id : Text) (r : Option Bool)
    → (one_text f id ≡ None → r ≡ None) → ((t : List ℕ) → one_text f id ≡ Some t → ReadsOne {T = Bool} {E = E} ParsesBool t r)
    → unwrap_or r false ≡ is_set (one_of id (rows_of f))
flag_read E f id r none value = go (one_text f id) refl ∙ ap is_set (one_text-rows f id)
  where
    both : (r : Option Bool) (t : Text) → ReadsOne {T = Bool} {E = E} ParsesBool t r → unwrap_or r false ≡ bytes_eq t (codes "true")
    both (Some true) t h = rw h refl
    both (Some false) t h = rw h refl
    both None t h = sym (bytes_ne t (codes "true") h.1.0)

    go : (o : Option Text) → one_text f id ≡ o → unwrap_or r false ≡ is_set (one_text f id)
    go None e = rw (none e, e) refl
    go (Some t) e = both r t (value t e) ∙ ap is_set (sym e)
