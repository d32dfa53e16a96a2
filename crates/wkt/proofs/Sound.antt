-- What the machine takes is a layer.
use Rattle.std.proofs.Common.{◌≡◌, ℕ, ◌+◌, ◌-◌, ◌<◌, Bool, true, false, cond, eqb, ltb, inl, inr, List, [], ◌∷◌, length, Option, Some, None, refl, sym, subst, arith, lit≤, lit<}
use Rattle.std.specs.Prelude.{IfSome, ◌&&◌, slice_index, option_and_then, option_map}
use borrow.Author.Tests.{ltb-true}
use Rattle.std.proofs.lemmas.List.{append-nil}
use Rattle.std.proofs.lemmas.Bool.Decides.{nat_tests}
use Rattle.std.proofs.lemmas.Option.{same_Some}
use Rattle.wkt.specs.declared.places.Place.{Place}
use Rattle.wkt.specs.declared.places.Place.TheVariants.{Between, Keyword, KeywordGap, Empty, Ended, BeforeBody, BeforeRing, BeforePoint, MinusX, DigitsX, BeforeY, MinusY, DigitsY, AfterPoint, AfterRing, AfterBody}
use Rattle.wkt.specs.declared.places.Class.{Class}
use Rattle.wkt.specs.declared.places.Class.TheVariants.{Space, Digit, Minus, Comma, Open, Close, Letter}
use Rattle.wkt.specs.LayerText.{Ring, multipolygon_word, empty_word, IsLayer}
use Rattle.wkt.specs.Machine.{class_of, opened, closed, turn, Notes, noted, State, run, start, may_end}
use Rattle.wkt.proofs.Rests.{Rest}
use Rattle.wkt.proofs.Bytes.{kinds}
use Rattle.wkt.proofs.Back.{Keeps, back, no_space, if_cond, if_one, both, eqb_cases}

-- ---- the machine keeps its bounds

opened_keeps : (multi : Bool) (m : Notes) → multi ≡ m.multi → Keeps (opened multi) m
opened_keeps true m e = sym e
opened_keeps false m e = tt

closed_keeps : (multi : Bool) (m : Notes) → multi ≡ m.multi → Keeps (closed multi) m
closed_keeps true m e = sym e
closed_keeps false m e = tt

empty_keeps : (k : ℕ) (m : Notes) → k < 5 → Keeps (cond (eqb k 4) Ended (Empty (k + 1))) m
empty_keeps k m lt = elim (eqb_cases k 4) [
  | inl e ↦ rw e tt
  | inr e ↦ rw e (grind (arith, nat_tests))
]

pub keeps : (at : ℕ) (p : Place) (k : Class) (m : Notes) → Keeps p m → IfSome (turn p k m.multi) (λ q. Keeps q (noted at p k m))
keeps at Between Space m g = tt
keeps at Between (Letter c) m g = if_cond (eqb c 77) _ _ (λ q. Keeps q (record m { multi = eqb c 77 })) (λ e. lit≤ tt) (λ e. if_one (eqb c 80) _ (λ q. Keeps q (record m { multi = eqb c 77 })) (λ f. lit≤ tt))
keeps at (Keyword k) (Letter c) m g = if_one (ltb k 12 && eqb c (slice_index multipolygon_word k)) _ (λ q. Keeps q m) (λ e. let lt : k < 12 = ltb-true k 12 (both (ltb k 12) (eqb c (slice_index multipolygon_word k)) e).0 in omega arith)
keeps at (Keyword k) Space m g = if_one (eqb k 12) _ (λ q. Keeps q m) (λ e. tt)
keeps at (Keyword k) Open m g = if_one (eqb k 12) _ (λ q. Keeps q m) (λ e. opened_keeps m.multi m refl)
keeps at KeywordGap Space m g = tt
keeps at KeywordGap Open m g = opened_keeps m.multi m refl
keeps at KeywordGap (Letter c) m g = if_one (eqb c 69) _ (λ q. Keeps q m) (λ e. lit< tt)
keeps at (Empty k) (Letter c) m g = if_one (ltb k 5 && eqb c (slice_index empty_word k)) _ (λ q. Keeps q m) (λ e. empty_keeps k m g)
keeps at Ended Space m g = tt
keeps at BeforeBody Space m g = g
keeps at BeforeBody Open m g = tt
keeps at BeforeRing Space m g = tt
keeps at BeforeRing Open m g = tt
keeps at BeforePoint Space m g = tt
keeps at BeforePoint Minus m g = tt
keeps at BeforePoint (Digit d) m g = tt
keeps at MinusX (Digit d) m g = tt
keeps at DigitsX (Digit d) m g = tt
keeps at DigitsX Space m g = tt
keeps at BeforeY Space m g = tt
keeps at BeforeY Minus m g = tt
keeps at BeforeY (Digit d) m g = tt
keeps at MinusY (Digit d) m g = tt
keeps at DigitsY (Digit d) m g = tt
keeps at DigitsY Space m g = tt
keeps at DigitsY Comma m g = tt
keeps at DigitsY Close m g = tt
keeps at AfterPoint Space m g = tt
keeps at AfterPoint Comma m g = tt
keeps at AfterPoint Close m g = tt
keeps at AfterRing Space m g = tt
keeps at AfterRing Comma m g = tt
keeps at AfterRing Close m g = closed_keeps m.multi m refl
keeps at AfterBody Space m g = g
keeps at AfterBody Comma m g = g
keeps at AfterBody Close m g = tt
keeps at p k m g = tt

-- ---- over a text

pub then_some : {A B C : Type 0} (o : Option A) (g : A → B) (f : B → Option C) (c : C) → option_and_then f (option_map g o) ≡ Some c → (a : A) × (o ≡ Some a) × (f (g a) ≡ Some c)
then_some (Some a) g f c e = (a, refl, e)
then_some None g f c e = absurd cc

pub at_some : {A : Type 0} (o : Option A) (a : A) (P : A → Type 0) → o ≡ Some a → IfSome o P → P a
at_some o a P e h = rw e at h

abbrev pub RestAt : ℕ → State → List ℕ → List Ring → Type 0
RestAt n s t v = Rest n s.place s.notes t v

abbrev pub KeepsAt : State → Type 0
KeepsAt s = Keeps s.place s.notes

pub sound : (n : ℕ) (t : List ℕ) (s s' : State) (v : List Ring) → KeepsAt s → run n s t ≡ Some s' → RestAt n s' [] v → RestAt n s t v × KeepsAt s'
sound n [] s s' v g e r = (subst (λ (x : State). RestAt n x [] v) (sym (same_Some s s' e)) r, subst KeepsAt (same_Some s s' e) g)
sound n (b ∷ t) s s' v g e r =
    let at = n - length (b ∷ t) in
    let q = then_some (turn s.place (class_of b) s.notes.multi) (λ p. record { place = p; notes = noted at s.place (class_of b) s.notes }) (λ x. run n x t) s' e in
    let g' : Keeps q.0 (noted at s.place (class_of b) s.notes) = at_some (turn s.place (class_of b) s.notes.multi) q.0 (λ p. Keeps p (noted at s.place (class_of b) s.notes)) q.1 (keeps at s.place (class_of b) s.notes g) in
    let more = sound n t (record { place = q.0; notes = noted at s.place (class_of b) s.notes }) s' v g' q.2 r in
    (at_some (turn s.place (class_of b) s.notes.multi) q.0 (λ p. Rest n p (noted at s.place (class_of b) s.notes) t v → Rest n s.place s.notes (b ∷ t) v) q.1 (back n b t s.place (class_of b) s.notes v (kinds b) g) more.0, more.1)

at_end : (n : ℕ) (p : Place) (m : Notes) → may_end p ≡ true → Rest n p m [] m.rings
at_end n Between m e = ([], inl (no_space [], refl), sym (append-nil m.rings))
at_end n Ended m e = ([], no_space [], sym (append-nil m.rings))
at_end n p m e = absurd cc

-- what the machine takes to an end is a layer
pub accepted : (text : List ℕ) (s : State) → run (length text) start text ≡ Some s → may_end s.place ≡ true → IsLayer text s.notes.rings
unfolding IsLayer
accepted text s e end =
    let r = sound (length text) text start s s.notes.rings tt e (at_end (length text) s.place s.notes end) in
    subst (λ (v : List Ring). IsLayer text v) (sym r.0.2) r.0.1
