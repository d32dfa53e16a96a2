-- A text has one reading or one refusal, and not both.
use Rattle.std.proofs.Common.{◌≡◌, ◌⊎◌, inl, inr, ℕ, ◌<◌, ◌≤◌, List, length, Option, Some, None, refl, sym, ap, ◌∙◌, arith}
use Rattle.std.specs.Prelude.{option_map}
use Rattle.std.proofs.lemmas.Bool.{cases_lt}
use Rattle.geom.specs.declared.point.Pt.{Pt}
use Rattle.geom.specs.declared.fault.Fault.{Fault}
use Rattle.geom.specs.declared.fault.Fault.TheVariants.{LayerLong, Syntax, NumberRange, RingShort, RingOpen, TooManySegments, BadTile, BadWorkers, TooManyTiles, NotNoded, Memory, Write}
use Rattle.std.proofs.lemmas.Option.{same_Some}
use Rattle.wkt.specs.LayerText.{Ring, IsBroken, IsLayer}
use Rattle.wkt.specs.Refusals.{all_numbers, first_outside, or_else, first_fault, plain, IsAccepted, StandsFor, IsRefusedWithin}
use Rattle.wkt.proofs.Complete.{at_most_one}

-- the fault of rings as they are written
abbrev fault_of : List Ring → Option Fault
fault_of written = or_else (option_map NumberRange (first_outside (all_numbers written))) (first_fault written)

-- why a text is refused: it is too long, it is no layer, or its rings have a fault
abbrev TooLong : ℕ → List ℕ → Fault → Type 0
TooLong limit text f = (limit < length text) × (f ≡ LayerLong)

abbrev Broken : ℕ → List ℕ → Fault → Type 0
Broken limit text f = (o : ℕ) × (length text ≤ limit) × IsBroken text o × (f ≡ Syntax o)

abbrev Faulty : ℕ → List ℕ → Fault → Type 0
Faulty limit text f = (written : List Ring) × (length text ≤ limit) × IsLayer text written × (fault_of written ≡ Some f)

abbrev Reason : ℕ → List ℕ → Fault → Type 0
Reason limit text f = TooLong limit text f ⊎ (Broken limit text f ⊎ Faulty limit text f)

behind : (a : Option ℕ) (b : Option Fault) (f : Fault) → a ≡ None → b ≡ Some f → or_else (option_map NumberRange a) b ≡ Some f
behind None b f e h = h
behind (Some o) b f e h = absurd cc

reason : (limit : ℕ) (text : List ℕ) (f : Fault) → IsRefusedWithin limit text f → Reason limit text f
reason limit text LayerLong h = inl (h, refl)
reason limit text (Syntax o) h = inr (inl (o, h.0, h.1, refl))
reason limit text (NumberRange o) (short, (written, read, e)) = inr (inr (written, short, read, ap (λ (a : Option ℕ). or_else (option_map NumberRange a) (first_fault written)) e))
reason limit text (RingShort o) (short, (written, read, e, h)) = inr (inr (written, short, read, behind (first_outside (all_numbers written)) (first_fault written) (RingShort o) e h))
reason limit text (RingOpen o) (short, (written, read, e, h)) = inr (inr (written, short, read, behind (first_outside (all_numbers written)) (first_fault written) (RingOpen o) e h))
reason limit text (TooManySegments n) h = absurd h
reason limit text BadTile h = absurd h
reason limit text BadWorkers h = absurd h
reason limit text (TooManyTiles n) h = absurd h
reason limit text (NotNoded e g) h = absurd h
reason limit text Memory h = absurd h
reason limit text Write h = absurd h

-- a text has one longest front
front_le : (text : List ℕ) (o p : ℕ) → IsBroken text o → IsBroken text p → o ≤ p
front_le text o p h k = elim (cases_lt p o) [
  | inl lt ↦ absurd (k.front.longest o lt h.front.within h.front.begins)
  | inr le ↦ le
]

front_same : (text : List ℕ) (o p : ℕ) → IsBroken text o → IsBroken text p → o ≡ p
front_same text o p h k = omega (arith, front_le text o p h k, front_le text p o k h)

long_short : (limit : ℕ) (text : List ℕ) → limit < length text → length text ≤ limit → ⊥
long_short limit text h k = omega (arith, h, k)

same_reason : (limit : ℕ) (text : List ℕ) (f g : Fault) → Reason limit text f → Reason limit text g → f ≡ g
same_reason limit text f g (inl (h, e)) (inl (k, d)) = e ∙ sym d
same_reason limit text f g (inl (h, e)) (inr (inl (p, short, k, d))) = absurd (long_short limit text h short)
same_reason limit text f g (inl (h, e)) (inr (inr (written, short, read, d))) = absurd (long_short limit text h short)
same_reason limit text f g (inr (inl (o, short, h, e))) (inl (k, d)) = absurd (long_short limit text k short)
same_reason limit text f g (inr (inl (o, short, h, e))) (inr (inl (p, s, k, d))) = e ∙ ap (λ (n : ℕ). Syntax n) (front_same text o p h k) ∙ sym d
same_reason limit text f g (inr (inl (o, short, h, e))) (inr (inr (written, s, read, d))) = absurd (h.not_layer written read)
same_reason limit text f g (inr (inr (written, short, read, e))) (inl (k, d)) = absurd (long_short limit text k short)
same_reason limit text f g (inr (inr (written, short, read, e))) (inr (inl (p, s, k, d))) = absurd (k.not_layer written read)
same_reason limit text f g (inr (inr (a, short, r, e))) (inr (inr (b, s, q, d))) = same_Some f g (sym e ∙ ap fault_of (at_most_one text a b r q) ∙ d)

pub same_refusal : (limit : ℕ) (text : List ℕ) (f g : Fault) → IsRefusedWithin limit text f → IsRefusedWithin limit text g → f ≡ g
same_refusal limit text f g h k = same_reason limit text f g (reason limit text f h) (reason limit text g k)

no_fault : (a : Option ℕ) (b : Option Fault) (f : Fault) → a ≡ None → b ≡ None → or_else (option_map NumberRange a) b ≡ Some f → ⊥
no_fault None None f e h k = absurd cc
no_fault None (Some g) f e h k = absurd cc
no_fault (Some o) b f e h k = absurd cc

no_reason : (limit : ℕ) (text : List ℕ) (written : List Ring) (f : Fault) → length text ≤ limit → IsAccepted text written → Reason limit text f → ⊥
no_reason limit text w f short h (inl (k, e)) = long_short limit text k short
no_reason limit text w f short h (inr (inl (o, s, k, e))) = k.not_layer w h.layer
no_reason limit text w f short h (inr (inr (b, s, r, e))) =
    no_fault (first_outside (all_numbers w)) (first_fault w) f h.inside h.sound (ap fault_of (at_most_one text w b h.layer r) ∙ e)

pub not_both : (limit : ℕ) (text : List ℕ) (rings : List (List Pt)) (f : Fault) → length text ≤ limit → StandsFor text rings → IsRefusedWithin limit text f → ⊥
not_both limit text rings f short (written, h, e) k = no_reason limit text written f short h (reason limit text f k)

pub same_reading : (text : List ℕ) (a b : List (List Pt)) → StandsFor text a → StandsFor text b → a ≡ b
same_reading text a b (v, h, e) (w, k, d) = sym e ∙ ap plain (at_most_one text v w h.layer k.layer) ∙ d
