-- A step of the code's reader is a step of the machine.
use Rattle.std.proofs.Common.{◌≡◌, ℕ, ◌+◌, ◌*◌, ◌<◌, Bool, true, false, cond, eqb, ltb, min, [], Some, refl, sym, ap, subst, ◌∙◌, arith}
use Rattle.std.specs.Prelude.{IfSome, IsTrue, nat_le, slice_index, ◌&&◌}
use Rattle.std.proofs.lemmas.Bool.Decides.{nat_tests}
use Rattle.wkt.proofs.Back.{if_cond, if_one}
use Rattle.wkt.proofs.Sound.{at_some}
use Rattle.wkt.specs.declared.places.Place.{Place}
use Rattle.wkt.specs.declared.places.Place.TheVariants.{Between, Keyword, KeywordGap, Empty, Ended, BeforeBody, BeforeRing, BeforePoint, MinusX, DigitsX, BeforeY, MinusY, DigitsY, AfterPoint, AfterRing, AfterBody}
use Rattle.wkt.specs.declared.places.Class.{Class}
use Rattle.wkt.specs.declared.places.Class.TheVariants.{Space, Digit, Minus, Comma, Open, Close, Letter}
use Rattle.wkt.specs.declared.reader.Number.{Number as Numeral}
use Rattle.wkt.specs.declared.reader.Reader.{Reader}
use Rattle.wkt.specs.declared.reader.Event.TheVariants.{Point as EventPoint, Last}
use Rattle.wkt.specs.LayerText.{multipolygon_word, empty_word}
use Rattle.wkt.specs.Machine.{class_of, turn, opened, closed, Notes, signed, number, started, with_geometry, noted, is_multi_after}
use Rattle.wkt.specs.Reading.{u32_max, number_next, x_next, event_of, kind_of, event_as, begins_geometry, IsNumeralOf, IsNumeralFor, Idle, ReaderIs, Says, Went}
use Rattle.wkt.proofs.Bytes.{IsKind, kinds}
use Rattle.wkt.proofs.Fronts.{noted_multi}

-- a digit is a small number
abbrev IsSmall : Class → Type 0
IsSmall (Digit d) = d < 256
IsSmall k = Unit {0}

digit_small : (b : ℕ) → IsTrue (nat_le 48 b && nat_le b 57) → b < 256
digit_small b h = grind (arith, nat_tests)

small : (byte : ℕ) (k : Class) → IsKind byte k → IsSmall k
small byte (Digit d) (h, e) = let b : byte < 256 = digit_small byte h in omega arith
small byte k h = tt

one_digit : (d : ℕ) → d < 256 → d ≡ min d u32_max
one_digit d lt = omega arith

more_digits : (c k d : ℕ) → c ≡ min k u32_max → min (min (c * 10) u32_max + d) u32_max ≡ min (10 * k + d) u32_max
more_digits c k d e = omega arith

abbrev IsNumberOf : Numeral → Notes → Type 0
IsNumberOf c m = IsNumeralOf c m.number_at m.negative m.magnitude

numbers : (at : ℕ) (p : Place) (k : Class) (c : Numeral) (m : Notes) → IsSmall k → IsNumberOf c m → IsNumberOf (number_next p k at c) (noted at p k m)
numbers at BeforePoint Minus c m s h = (refl, refl, refl)
numbers at BeforeY Minus c m s h = (refl, refl, refl)
numbers at BeforePoint (Digit d) c m s h = (refl, refl, one_digit d s)
numbers at BeforeY (Digit d) c m s h = (refl, refl, one_digit d s)
numbers at MinusX (Digit d) c m s h = (h.0, h.1, one_digit d s)
numbers at MinusY (Digit d) c m s h = (h.0, h.1, one_digit d s)
numbers at DigitsX (Digit d) c m s h = (h.0, h.1, more_digits c.magnitude m.magnitude d h.2)
numbers at DigitsY (Digit d) c m s h = (h.0, h.1, more_digits c.magnitude m.magnitude d h.2)
numbers at Between (Letter l) c m s h = h
numbers at BeforeRing Open c m s h = h
numbers at DigitsX Space c m s h = h
numbers at DigitsY Space c m s h = h
numbers at DigitsY Comma c m s h = h
numbers at DigitsY Close c m s h = h
numbers at AfterPoint Close c m s h = h
numbers at p k c m s h = h

-- the number at hand
at_hand : (c : Numeral) (m : Notes) → IsNumberOf c m → IsNumeralFor c (number m)
at_hand c m h = (m.magnitude, sym h.0, ap (λ (b : Bool). signed b m.magnitude) (sym h.1), h.2)

firsts : (at : ℕ) (p : Place) (k : Class) (x c : Numeral) (m : Notes) → IsNumeralFor x m.x → IsNumberOf c m → IsNumeralFor (x_next p k x c) (noted at p k m).x
firsts at DigitsX Space x c m h n = at_hand c m n
firsts at BeforePoint Minus x c m h n = h
firsts at BeforeY Minus x c m h n = h
firsts at BeforePoint (Digit d) x c m h n = h
firsts at BeforeY (Digit d) x c m h n = h
firsts at MinusX (Digit d) x c m h n = h
firsts at MinusY (Digit d) x c m h n = h
firsts at DigitsX (Digit d) x c m h n = h
firsts at DigitsY (Digit d) x c m h n = h
firsts at Between (Letter l) x c m h n = h
firsts at BeforeRing Open x c m h n = h
firsts at DigitsY Space x c m h n = h
firsts at DigitsY Comma x c m h n = h
firsts at DigitsY Close x c m h n = h
firsts at AfterPoint Close x c m h n = h
firsts at p k x c m h n = h

says : (at : ℕ) (p : Place) (k : Class) (x c : Numeral) (m : Notes) → IsNumeralFor x m.x → IsNumberOf c m → Idle p m → Says (event_of p k x c) at m (noted at p k m)
says at BeforeRing Open x c m h n i = (refl, refl, refl, i)
says at DigitsY Space x c m h n i = (record { x = m.x; y = number m }, (h, at_hand c m n), refl, refl, refl)
says at DigitsY Comma x c m h n i = (record { x = m.x; y = number m }, (h, at_hand c m n), refl, refl, refl)
says at DigitsY Close x c m h n i = (record { x = m.x; y = number m }, (h, at_hand c m n), refl, refl, refl)
says at AfterPoint Close x c m h n i = (refl, refl, refl)
says at Between (Letter l) x c m h n i = (refl, refl, refl)
says at BeforePoint Minus x c m h n i = (refl, refl, refl)
says at BeforeY Minus x c m h n i = (refl, refl, refl)
says at BeforePoint (Digit d) x c m h n i = (refl, refl, refl)
says at BeforeY (Digit d) x c m h n i = (refl, refl, refl)
says at MinusX (Digit d) x c m h n i = (refl, refl, refl)
says at MinusY (Digit d) x c m h n i = (refl, refl, refl)
says at DigitsX (Digit d) x c m h n i = (refl, refl, refl)
says at DigitsY (Digit d) x c m h n i = (refl, refl, refl)
says at DigitsX Space x c m h n i = (refl, refl, refl)
says at p k x c m h n i = (refl, refl, refl)

starts : (at : ℕ) (p : Place) (k : Class) (x c : Numeral) (m : Notes) → (noted at p k m).starts ≡ started (begins_geometry (event_of p k x c)) m.starts m.rings
starts at Between (Letter l) x c m = refl
starts at BeforeRing Open x c m = refl
starts at DigitsY Space x c m = refl
starts at DigitsY Comma x c m = refl
starts at DigitsY Close x c m = refl
starts at AfterPoint Close x c m = refl
starts at BeforePoint Minus x c m = refl
starts at BeforeY Minus x c m = refl
starts at BeforePoint (Digit d) x c m = refl
starts at BeforeY (Digit d) x c m = refl
starts at MinusX (Digit d) x c m = refl
starts at MinusY (Digit d) x c m = refl
starts at DigitsX (Digit d) x c m = refl
starts at DigitsY (Digit d) x c m = refl
starts at DigitsX Space x c m = refl
starts at p k x c m = refl

opened_idle : (multi : Bool) (m : Notes) → m.points ≡ [] → Idle (opened multi) m
opened_idle true m e = e
opened_idle false m e = e

closed_idle : (multi : Bool) (m : Notes) → m.points ≡ [] → Idle (closed multi) m
closed_idle true m e = e
closed_idle false m e = e

empty_idle : (k : ℕ) (m : Notes) → m.points ≡ [] → Idle (cond (eqb k 4) Ended (Empty (k + 1))) m
empty_idle k m e = elim (eqb k 4) as (λ b. Idle (cond b Ended (Empty (k + 1))) m) [ true ↦ e | false ↦ e ]

idles : (at : ℕ) (p : Place) (k : Class) (m : Notes) → Idle p m → IfSome (turn p k m.multi) (λ q. Idle q (noted at p k m))
idles at Between Space m g = g
idles at Between (Letter c) m g = if_cond (eqb c 77) _ _ (λ q. Idle q (with_geometry (eqb c 77) m)) (λ e. g) (λ e. if_one (eqb c 80) _ (λ q. Idle q (with_geometry (eqb c 77) m)) (λ f. g))
idles at (Keyword k) (Letter c) m g = if_one (ltb k 12 && eqb c (slice_index multipolygon_word k)) _ (λ q. Idle q m) (λ e. g)
idles at (Keyword k) Space m g = if_one (eqb k 12) _ (λ q. Idle q m) (λ e. g)
idles at (Keyword k) Open m g = if_one (eqb k 12) _ (λ q. Idle q m) (λ e. opened_idle m.multi m g)
idles at KeywordGap Space m g = g
idles at KeywordGap Open m g = opened_idle m.multi m g
idles at KeywordGap (Letter c) m g = if_one (eqb c 69) _ (λ q. Idle q m) (λ e. g)
idles at (Empty k) (Letter c) m g = if_one (ltb k 5 && eqb c (slice_index empty_word k)) _ (λ q. Idle q m) (λ e. empty_idle k m g)
idles at Ended Space m g = g
idles at BeforeBody Space m g = g
idles at BeforeBody Open m g = g
idles at BeforeRing Space m g = g
idles at BeforeRing Open m g = tt
idles at BeforePoint Space m g = tt
idles at BeforePoint Minus m g = tt
idles at BeforePoint (Digit d) m g = tt
idles at MinusX (Digit d) m g = tt
idles at DigitsX (Digit d) m g = tt
idles at DigitsX Space m g = tt
idles at BeforeY Space m g = tt
idles at BeforeY Minus m g = tt
idles at BeforeY (Digit d) m g = tt
idles at MinusY (Digit d) m g = tt
idles at DigitsY (Digit d) m g = tt
idles at DigitsY Space m g = tt
idles at DigitsY Comma m g = tt
idles at DigitsY Close m g = refl
idles at AfterPoint Space m g = tt
idles at AfterPoint Comma m g = tt
idles at AfterPoint Close m g = refl
idles at AfterRing Space m g = g
idles at AfterRing Comma m g = g
idles at AfterRing Close m g = closed_idle m.multi m g
idles at AfterBody Space m g = g
idles at AfterBody Comma m g = g
idles at AfterBody Close m g = g
idles at p k m g = tt

multis : (at : ℕ) (p : Place) (k : Class) (multi : Bool) (m : Notes) → multi ≡ m.multi → is_multi_after p k multi ≡ (noted at p k m).multi
multis at p k multi m e = ap (is_multi_after p k) e ∙ sym (noted_multi at p k m)

pub went : (at byte : ℕ) (k : Class) (old : Reader) (m : Notes) (next : Place) → k ≡ class_of byte → Some next ≡ turn old.place k old.multi → ReaderIs old m
    → Went at byte old m (event_of old.place k old.x old.number) (record { place = next; multi = is_multi_after old.place k old.multi; x = x_next old.place k old.x old.number; number = number_next old.place k at old.number })
went at byte k old m next e f r =
    let s : IsSmall k = small byte k (subst (IsKind byte) (sym e) (kinds byte)) in
    let t : turn old.place (class_of byte) m.multi ≡ Some next = sym (ap (turn old.place (class_of byte)) r.0) ∙ sym (f ∙ ap (λ (x : Class). turn old.place x old.multi) e) in
    let i : Idle next (noted at old.place (class_of byte) m) = at_some (turn old.place (class_of byte) m.multi) next (λ q. Idle q (noted at old.place (class_of byte) m)) t (idles at old.place (class_of byte) m r.3) in
    let w : Went at byte old m (event_of old.place (class_of byte) old.x old.number) (record { place = next; multi = is_multi_after old.place (class_of byte) old.multi; x = x_next old.place (class_of byte) old.x old.number; number = number_next old.place (class_of byte) at old.number }) = record {
      place = t;
      notes = (multis at old.place (class_of byte) old.multi m r.0, firsts at old.place (class_of byte) old.x old.number m r.1 r.2, numbers at old.place (class_of byte) old.number m (subst IsSmall e s) r.2, i);
      says = says at old.place (class_of byte) old.x old.number m r.1 r.2 r.3;
      starts = starts at old.place (class_of byte) old.x old.number m;
    } in
    subst (λ (x : Class). Went at byte old m (event_of old.place x old.x old.number) (record { place = next; multi = is_multi_after old.place x old.multi; x = x_next old.place x old.x old.number; number = number_next old.place x at old.number })) (sym e) w

-- a point before a comma
pub went_comma : (at byte : ℕ) (old : Reader) (m : Notes) → old.place ≡ DigitsY → byte ≡ 44 → ReaderIs old m → Went at byte old m (EventPoint old.x old.number) (record { place = BeforePoint; multi = old.multi; x = old.x; number = old.number })
went_comma at byte old m e f r =
    subst (λ (p : Place). Went at byte old m (event_of p Comma old.x old.number) (record { place = BeforePoint; multi = is_multi_after p Comma old.multi; x = x_next p Comma old.x old.number; number = number_next p Comma at old.number })) e
    (went at byte Comma old m BeforePoint (sym (ap class_of f)) (sym (ap (λ (p : Place). turn p Comma old.multi) e)) r)

-- a point before the end of its ring
pub went_close : (at byte : ℕ) (old : Reader) (m : Notes) → old.place ≡ DigitsY → byte ≡ 41 → ReaderIs old m → Went at byte old m (Last old.x old.number) (record { place = AfterRing; multi = old.multi; x = old.x; number = old.number })
went_close at byte old m e f r =
    subst (λ (p : Place). Went at byte old m (event_of p Close old.x old.number) (record { place = AfterRing; multi = is_multi_after p Close old.multi; x = x_next p Close old.x old.number; number = number_next p Close at old.number })) e
    (went at byte Close old m AfterRing (sym (ap class_of f)) (sym (ap (λ (p : Place). turn p Close old.multi) e)) r)

-- an event has the numbers that the reader has behind it
pub event_behind : (at : ℕ) (p : Place) (k : Class) (x n : Numeral) → event_of p k x n ≡ event_as (kind_of p k) (x_next p k x n) (number_next p k at n)
event_behind at BeforePoint Minus x n = refl
event_behind at BeforeY Minus x n = refl
event_behind at BeforePoint (Digit d) x n = refl
event_behind at BeforeY (Digit d) x n = refl
event_behind at MinusX (Digit d) x n = refl
event_behind at MinusY (Digit d) x n = refl
event_behind at DigitsX (Digit d) x n = refl
event_behind at DigitsY (Digit d) x n = refl
event_behind at DigitsX Space x n = refl
event_behind at Between (Letter l) x n = refl
event_behind at BeforeRing Open x n = refl
event_behind at DigitsY Space x n = refl
event_behind at DigitsY Comma x n = refl
event_behind at DigitsY Close x n = refl
event_behind at AfterPoint Close x n = refl
event_behind at p k x n = refl
