-- What the reader passes from byte to byte, and in one go.
use Rattle.std.proofs.Common.{lit<, [], ◌≡◌, ℕ, suc, ◌+◌, ◌-◌, ◌*◌, ◌^◌, ◌<◌, ◌≤◌, Bool, true, false, List, ◌∷◌, length, get_or, drop, Option, Some, None, refl, sym, ap, subst, ◌∙◌, arith, length-drop}
use Rattle.std.specs.Prelude.{IfSome, option_and_then, option_map, min}
use Rattle.std.proofs.Math.Seq.{drop-cons}
use Rattle.std.proofs.Math.Numerals.{add-one}
use Rattle.std.proofs.Math.Nat.{pow-suc, pow-le-pow_right}
use Rattle.wkt.specs.declared.places.Place.{Place}
use Rattle.wkt.specs.declared.places.Place.TheVariants.{Between, Keyword, KeywordGap, Ended, BeforeRing, BeforePoint, MinusX, DigitsX, BeforeY, MinusY, DigitsY, AfterRing}
use Rattle.wkt.specs.declared.places.Class.{Class}
use Rattle.wkt.specs.declared.places.Class.TheVariants.{Space, Digit, Minus, Open, Close, Letter}
use Rattle.wkt.specs.declared.reader.Number.{Number as Numeral}
use Rattle.wkt.specs.declared.reader.Reader.{Reader}
use Rattle.wkt.specs.declared.reader.Event.{Event}
use Rattle.wkt.specs.declared.reader.Event.TheVariants.{Nothing, Geometry}
use Rattle.wkt.specs.Machine.{class_of, turn, Notes, started, noted, step, run, start, is_multi_after}
use Rattle.wkt.specs.Reading.{u32_max, with_digit, number_next, x_next, event_of, begins_geometry, ReaderIs, Says, Went}
use Rattle.wkt.specs.Running.{HasRead, HasPassed, Passes, before, behind_minus, behind_digit, reader_at, PassesSpaces, PassesDigits, PassesNumber, PassesSecond, Stands}
use Rattle.wkt.proofs.Fronts.{goes_on, noted_multi}
use Rattle.wkt.proofs.Steps.{went}

-- ---- a byte

pub run_on : (text : List ℕ) (at : ℕ) (p q : Place) (m : Notes) → at < length text → turn p (class_of (get_or text at 0)) m.multi ≡ Some q
    → run (length text) (record { place = p; notes = m }) (drop at text) ≡ run (length text) (record { place = q; notes = noted at p (class_of (get_or text at 0)) m }) (drop (at + 1) text)
run_on text at p q m lt e =
    let b = get_or text at 0 in
    let t = drop (suc at) text in
    let here : length text - length (b ∷ t) ≡ at = omega (arith, length-drop (suc at) text) in
    ap (run (length text) (record { place = p; notes = m })) (drop-cons text at 0 lt)
    ∙ ap (λ (k : ℕ). option_and_then (λ s'. run (length text) s' t) (step k (record { place = p; notes = m }) (class_of b))) here
    ∙ ap (λ (o : Option Place). option_and_then (λ s'. run (length text) s' t) (option_map (λ x. record { place = x; notes = noted at p (class_of b) m }) o)) e
    ∙ ap (λ (k : ℕ). run (length text) (record { place = q; notes = noted at p (class_of b) m }) (drop k text)) (sym (add-one at))

pub read_first : (text : List ℕ) (r : Reader) → r.place ≡ start.place → ReaderIs r start.notes → HasRead text 0 r start.notes
read_first text r p h = record {
  within = omega arith;
  on = ap (λ (q : Place). run (length text) (record { place = q; notes = start.notes }) text) (sym p);
  walked = ap (λ (q : Place). Some (q, false)) (sym p) ∙ ap (λ (b : Bool). Some (r.place, b)) (sym h.0);
  is = h;
}

pub read_more : (text : List ℕ) (at : ℕ) (r : Reader) (m : Notes) (e : Event) (r' : Reader) → at < length text → HasRead text at r m → Went at (get_or text at 0) r m e r' → HasRead text (at + 1) r' (noted at r.place (class_of (get_or text at 0)) m)
read_more text at r m e r' lt h w =
    let k = class_of (get_or text at 0) in
    let t : Some r'.place ≡ turn r.place k r.multi = sym w.place ∙ ap (turn r.place k) (sym h.is.0) in
    let b : r'.multi ≡ is_multi_after r.place k r.multi = w.notes.0 ∙ noted_multi at r.place k m ∙ ap (is_multi_after r.place k) (sym h.is.0) in
    record {
      within = omega arith;
      on = h.on ∙ run_on text at r.place r'.place m lt w.place;
      walked = goes_on text at r.place r'.place k r.multi r'.multi lt h.walked refl t b;
      is = w.notes;
    }

-- ---- what nothing completes

pub passes_none : (text : List ℕ) (at : ℕ) (r : Reader) → at ≤ length text → Passes text at at false r r
passes_none text at r le = record { onward = omega arith; within = le; passed = λ m h. record { notes = m; read = h; rings = refl; ring_at = refl; points = refl; starts = refl } }

pub passes_then : {begun : Bool} (text : List ℕ) (a b c : ℕ) (q r s : Reader) → Passes text a b begun q r → Passes text b c false r s → Passes text a c begun q s
passes_then {begun} text a b c q r s f g = record {
  onward = omega (arith, f.onward, g.onward);
  within = g.within;
  passed = λ m h.
      let p : HasPassed text b begun r m = f.passed m h in
      let k : HasPassed text c false s p.notes = g.passed p.notes p.read in
      record { notes = k.notes; read = k.read; rings = k.rings ∙ p.rings; ring_at = k.ring_at ∙ p.ring_at; points = k.points ∙ p.points; starts = k.starts ∙ p.starts };
}

-- a geometry begins behind bytes among which none begins
begins_then : (text : List ℕ) (a b c : ℕ) (q r s : Reader) → Passes text a b false q r → Passes text b c true r s → Passes text a c true q s
begins_then text a b c q r s f g = record {
  onward = omega (arith, f.onward, g.onward);
  within = g.within;
  passed = λ m h.
      let p : HasPassed text b false r m = f.passed m h in
      let k : HasPassed text c true s p.notes = g.passed p.notes p.read in
      record {
        notes = k.notes;
        read = k.read;
        rings = k.rings ∙ p.rings;
        ring_at = k.ring_at ∙ p.ring_at;
        points = k.points ∙ p.points;
        starts = k.starts ∙ ap (λ x. started true x p.notes.rings) p.starts ∙ ap (started true m.starts) p.rings;
      };
}

-- the event of a byte that completes nothing
abbrev quiet : Bool → Event
quiet true = Geometry
quiet false = Nothing

quiet_says : (begun : Bool) (at : ℕ) (m m' : Notes) → Says (quiet begun) at m m' → (m'.rings ≡ m.rings) × (m'.ring_at ≡ m.ring_at) × (m'.points ≡ m.points)
quiet_says true at m m' h = h
quiet_says false at m m' h = h

quiet_begins : (begun : Bool) → begins_geometry (quiet begun) ≡ begun
quiet_begins true = refl
quiet_begins false = refl

-- one byte that completes nothing
passes_byte : (text : List ℕ) (at : ℕ) (begun : Bool) (k : Class) (old : Reader) (next : Place) → at < length text → class_of (get_or text at 0) ≡ k → turn old.place k old.multi ≡ Some next → event_of old.place k old.x old.number ≡ quiet begun
    → Passes text at (at + 1) begun old (record { place = next; multi = is_multi_after old.place k old.multi; x = x_next old.place k old.x old.number; number = number_next old.place k at old.number })
passes_byte text at begun k old next lt is turns none = record {
  onward = omega arith;
  within = omega arith;
  passed = λ m h.
      let new : Reader = record { place = next; multi = is_multi_after old.place k old.multi; x = x_next old.place k old.x old.number; number = number_next old.place k at old.number } in
      let e : Event = event_of old.place k old.x old.number in
      let m' : Notes = noted at old.place (class_of (get_or text at 0)) m in
      let w : Went at (get_or text at 0) old m e new = went at (get_or text at 0) k old m next (sym is) (sym turns) h.is in
      let s : (m'.rings ≡ m.rings) × (m'.ring_at ≡ m.ring_at) × (m'.points ≡ m.points) = quiet_says begun at m m' (subst (λ (x : Event). Says x at m m') none w.says) in
      record {
        notes = m';
        read = read_more text at old m e new lt h w;
        rings = s.0;
        ring_at = s.1;
        points = s.2;
        starts = w.starts ∙ ap (λ (x : Event). started (begins_geometry x) m.starts m.rings) none ∙ ap (λ (b : Bool). started b m.starts m.rings) (quiet_begins begun);
      };
}

space : (text : List ℕ) (at : ℕ) → at < length text → class_of (get_or text at 0) ≡ Space → (second multi : Bool) (x n : Numeral) → Passes text at (at + 1) false (reader_at (before second) multi x n) (reader_at (before second) multi x n)
space text at lt is false multi x n = passes_byte text at false Space (reader_at BeforePoint multi x n) BeforePoint lt is refl refl
space text at lt is true multi x n = passes_byte text at false Space (reader_at BeforeY multi x n) BeforeY lt is refl refl

minus : (text : List ℕ) (at : ℕ) → at < length text → class_of (get_or text at 0) ≡ Minus → (second multi : Bool) (x n : Numeral)
    → Passes text at (at + 1) false (reader_at (before second) multi x n) (reader_at (behind_minus second) multi x (record { at = at; negative = true; magnitude = 0 }))
minus text at lt is false multi x n = passes_byte text at false Minus (reader_at BeforePoint multi x n) MinusX lt is refl refl
minus text at lt is true multi x n = passes_byte text at false Minus (reader_at BeforeY multi x n) MinusY lt is refl refl

first_digit : (text : List ℕ) (at d : ℕ) → at < length text → class_of (get_or text at 0) ≡ Digit d → (second multi : Bool) (x n : Numeral)
    → Passes text at (at + 1) false (reader_at (before second) multi x n) (reader_at (behind_digit second) multi x (record { at = at; negative = false; magnitude = d }))
first_digit text at d lt is false multi x n = passes_byte text at false (Digit d) (reader_at BeforePoint multi x n) DigitsX lt is refl refl
first_digit text at d lt is true multi x n = passes_byte text at false (Digit d) (reader_at BeforeY multi x n) DigitsY lt is refl refl

signed_digit : (text : List ℕ) (at d : ℕ) → at < length text → class_of (get_or text at 0) ≡ Digit d → (second multi : Bool) (x n : Numeral)
    → Passes text at (at + 1) false (reader_at (behind_minus second) multi x n) (reader_at (behind_digit second) multi x (record n { magnitude = d }))
signed_digit text at d lt is false multi x n = passes_byte text at false (Digit d) (reader_at MinusX multi x n) DigitsX lt is refl refl
signed_digit text at d lt is true multi x n = passes_byte text at false (Digit d) (reader_at MinusY multi x n) DigitsY lt is refl refl

digit : (text : List ℕ) (at d : ℕ) → at < length text → class_of (get_or text at 0) ≡ Digit d → (second multi : Bool) (x n : Numeral)
    → Passes text at (at + 1) false (reader_at (behind_digit second) multi x n) (reader_at (behind_digit second) multi x (with_digit n d))
digit text at d lt is false multi x n = passes_byte text at false (Digit d) (reader_at DigitsX multi x n) DigitsX lt is refl refl
digit text at d lt is true multi x n = passes_byte text at false (Digit d) (reader_at DigitsY multi x n) DigitsY lt is refl refl

-- ---- runs

pub spaces_none : (text : List ℕ) (at : ℕ) → at ≤ length text → PassesSpaces text at at
spaces_none text at le = λ second multi x n. passes_none text at (reader_at (before second) multi x n) le

pub spaces_more : (text : List ℕ) (at end : ℕ) → PassesSpaces text at end → end < length text → class_of (get_or text end 0) ≡ Space → PassesSpaces text at (end + 1)
spaces_more text at end p lt is = λ second multi x n.
    let r = reader_at (before second) multi x n in
    passes_then text at end (end + 1) r r r (p second multi x n) (space text end lt is second multi x n)

pub digits_none : (text : List ℕ) (at : ℕ) (n : Numeral) → at ≤ length text → PassesDigits text at at n n
digits_none text at n le = λ second multi x. passes_none text at (reader_at (behind_digit second) multi x n) le

pub digits_more : (text : List ℕ) (at end d : ℕ) (n l : Numeral) → PassesDigits text at end n l → end < length text → class_of (get_or text end 0) ≡ Digit d → PassesDigits text at (end + 1) n (with_digit l d)
digits_more text at end d n l p lt is = λ second multi x.
    passes_then text at end (end + 1) (reader_at (behind_digit second) multi x n) (reader_at (behind_digit second) multi x l) (reader_at (behind_digit second) multi x (with_digit l d))
    (p second multi x) (digit text end d lt is second multi x l)

-- ---- few digits

-- a number of one digit more stays below the next power of ten
pub few_more : (k m d : ℕ) → m < 10 ^ (k + 1) → d < 10 → m * 10 + d < 10 ^ (k + 1 + 1)
few_more k m d lt small =
    let e : 10 ^ (k + 1 + 1) ≡ 10 ^ (k + 1) * 10 = ap (λ (n : ℕ). 10 ^ n) (add-one (k + 1)) ∙ pow-suc 10 (k + 1) in
    omega (arith, e, lt, small)

-- nine digits fit
pub few_fit : (k m d : ℕ) → k < 8 → m < 10 ^ (k + 1) → d < 10 → m * 10 + d < u32_max
few_fit k m d few lt small =
    let le : 10 ^ (k + 1 + 1) ≤ 1000000000 = pow-le-pow_right (lit< tt) {j = 9} (omega (arith, few)) in
    omega (arith, le, few_more k m d lt small)

few_plain : (m d : ℕ) → m * 10 + d < u32_max → min (min (m * 10) u32_max + d) u32_max ≡ m * 10 + d
few_plain m d lt = omega (arith, lt)

pub digits_begin : (text : List ℕ) (at : ℕ) (n : Numeral) → at ≤ length text → PassesDigits text at (at + 0) n n
digits_begin text at n le =
    let here : at ≡ at + 0 = omega arith in
    subst (λ (j : ℕ). PassesDigits text at j n n) here (digits_none text at n le)

pub digits_few : (text : List ℕ) (at k d m : ℕ) (n : Numeral) → PassesDigits text at (at + k) n (record n { magnitude = m }) → at + k < length text → class_of (get_or text (at + k) 0) ≡ Digit d → m * 10 + d < u32_max
    → PassesDigits text at (at + (k + 1)) n (record n { magnitude = m * 10 + d })
digits_few text at k d m n p lt is fits =
    let ends : at + k + 1 ≡ at + (k + 1) = omega arith in
    let more : PassesDigits text at (at + k + 1) n (record n { magnitude = min (min (m * 10) u32_max + d) u32_max }) = digits_more text at (at + k) d n (record n { magnitude = m }) p lt is in
    subst (λ (j : ℕ). PassesDigits text at j n (record n { magnitude = m * 10 + d })) ends
    (subst (λ (v : ℕ). PassesDigits text at (at + k + 1) n (record n { magnitude = v })) (few_plain m d fits) more)

pub positive : (text : List ℕ) (at end d : ℕ) (read : Numeral) → at < length text → class_of (get_or text at 0) ≡ Digit d → PassesDigits text (at + 1) end (record { at = at; negative = false; magnitude = d }) read → PassesNumber text at end read
positive text at end d read lt is p = λ second multi x n.
    passes_then text at (at + 1) end (reader_at (before second) multi x n) (reader_at (behind_digit second) multi x (record { at = at; negative = false; magnitude = d })) (reader_at (behind_digit second) multi x read)
    (first_digit text at d lt is second multi x n) (p second multi x)

pub negative : (text : List ℕ) (at end d : ℕ) (read : Numeral) → at < length text → class_of (get_or text at 0) ≡ Minus → at + 1 < length text → class_of (get_or text (at + 1) 0) ≡ Digit d
    → PassesDigits text (at + 1 + 1) end (record { at = at; negative = true; magnitude = d }) read → PassesNumber text at end read
negative text at end d read lt is lt' is' p = λ second multi x n.
    let signed : Numeral = record { at = at; negative = true; magnitude = 0 } in
    let first : Numeral = record { at = at; negative = true; magnitude = d } in
    passes_then text at (at + 1) end (reader_at (before second) multi x n) (reader_at (behind_minus second) multi x signed) (reader_at (behind_digit second) multi x read)
    (minus text at lt is second multi x n)
    (passes_then text (at + 1) (at + 1 + 1) end (reader_at (behind_minus second) multi x signed) (reader_at (behind_digit second) multi x first) (reader_at (behind_digit second) multi x read)
    (signed_digit text (at + 1) d lt' is' second multi x signed) (p second multi x))

-- ---- a point

-- behind its first number
pub first_number : (text : List ℕ) (at from end : ℕ) (r : Reader) (read : Numeral) → r.place ≡ BeforePoint → PassesSpaces text at from → PassesNumber text from end read → Passes text at end false r (reader_at DigitsX r.multi r.x read)
first_number text at from end r read e f g =
    let b : Reader = reader_at BeforePoint r.multi r.x r.number in
    subst (λ (p : Place). Passes text at end false (reader_at p r.multi r.x r.number) (reader_at DigitsX r.multi r.x read)) (sym e)
    (passes_then text at from end b b (reader_at DigitsX r.multi r.x read) (f false r.multi r.x r.number) (g false r.multi r.x r.number))

pub before_first : (text : List ℕ) (at from : ℕ) (r : Reader) → r.place ≡ BeforePoint → PassesSpaces text at from → Passes text at from false r r
before_first text at from r e f =
    subst (λ (p : Place). Passes text at from false (reader_at p r.multi r.x r.number) (reader_at p r.multi r.x r.number)) (sym e) (f false r.multi r.x r.number)

-- before its second number
pub second_here : (text : List ℕ) (at end : ℕ) (r : Reader) (read : Numeral) → r.place ≡ BeforeY → PassesNumber text at end read → Passes text at end false r (reader_at DigitsY r.multi r.x read)
second_here text at end r read e g =
    subst (λ (p : Place). Passes text at end false (reader_at p r.multi r.x r.number) (reader_at DigitsY r.multi r.x read)) (sym e) (g true r.multi r.x r.number)

-- behind the gap
pub before_second : (text : List ℕ) (at from : ℕ) (r : Reader) → r.place ≡ DigitsX → at < length text → class_of (get_or text at 0) ≡ Space → PassesSpaces text (at + 1) from → Passes text at from false r (reader_at BeforeY r.multi r.number r.number)
before_second text at from r e lt is f =
    let b : Reader = reader_at BeforeY r.multi r.number r.number in
    subst (λ (p : Place). Passes text at from false (reader_at p r.multi r.x r.number) b) (sym e)
    (passes_then text at (at + 1) from (reader_at DigitsX r.multi r.x r.number) b b
    (passes_byte text at false Space (reader_at DigitsX r.multi r.x r.number) BeforeY lt is refl refl) (f true r.multi r.number r.number))

pub second_number : (text : List ℕ) (at from end : ℕ) (r : Reader) (read : Numeral) → r.place ≡ DigitsX → at < length text → class_of (get_or text at 0) ≡ Space → PassesSpaces text (at + 1) from → PassesNumber text from end read
    → Passes text at end false r (reader_at DigitsY r.multi r.number read)
second_number text at from end r read e lt is f g =
    passes_then text at from end r (reader_at BeforeY r.multi r.number r.number) (reader_at DigitsY r.multi r.number read) (before_second text at from r e lt is f) (g true r.multi r.number r.number)

-- the second number behind one byte of white space, if there is one
pub second_read : (text : List ℕ) (at most : ℕ) (o : Option (Numeral × ℕ)) → at < length text → class_of (get_or text at 0) ≡ Space → IfSome o (λ found. PassesNumber text (at + 1) found.1 found.0 × (found.1 ≤ most)) → IfSome o (λ found. PassesSecond text at found.1 found.0)
second_read text at most None lt is g = g
second_read text at most (Some found) lt is g = λ multi x n. second_number text at (at + 1) found.1 (reader_at DigitsX multi x n) found.0 refl lt is (spaces_none text (at + 1) (omega (arith, lt))) g.0

-- ---- from a polygon's last ring to the next polygon's first

-- one byte of what completes nothing and leaves the numbers
byte_at : (text : List ℕ) (at i : ℕ) (begun : Bool) (k : Class) (p q : Place) (x n : Numeral) → at + i < length text → class_of (get_or text (at + i) 0) ≡ k → turn p k false ≡ Some q → event_of p k x n ≡ quiet begun
    → is_multi_after p k false ≡ false → x_next p k x n ≡ x → number_next p k (at + i) n ≡ n → Passes text (at + i) (at + (i + 1)) begun (reader_at p false x n) (reader_at q false x n)
byte_at text at i begun k p q x n lt is t e f g h =
    let old : Reader = reader_at p false x n in
    let here : Passes text (at + i) (at + i + 1) begun old (reader_at q (is_multi_after p k false) (x_next p k x n) (number_next p k (at + i) n)) = passes_byte text (at + i) begun k old q lt is t e in
    let same : Passes text (at + i) (at + i + 1) begun old (reader_at q false x n) =
    subst (λ (m : Numeral). Passes text (at + i) (at + i + 1) begun old (reader_at q false x m)) h
    (subst (λ (y : Numeral). Passes text (at + i) (at + i + 1) begun old (reader_at q false y (number_next p k (at + i) n))) g
    (subst (λ (b : Bool). Passes text (at + i) (at + i + 1) begun old (reader_at q b (x_next p k x n) (number_next p k (at + i) n))) f here)) in
    let ends : at + i + 1 ≡ at + (i + 1) = omega arith in
    subst (λ (j : ℕ). Passes text (at + i) j begun old (reader_at q false x n)) ends same

-- one byte more
then_byte : {begun : Bool} (text : List ℕ) (at i : ℕ) (k : Class) (r : Reader) (p q : Place) (x n : Numeral) → at + i < length text → class_of (get_or text (at + i) 0) ≡ k → turn p k false ≡ Some q → event_of p k x n ≡ Nothing
    → is_multi_after p k false ≡ false → x_next p k x n ≡ x → number_next p k (at + i) n ≡ n → Passes text at (at + i) begun r (reader_at p false x n) → Passes text at (at + (i + 1)) begun r (reader_at q false x n)
then_byte text at i k r p q x n lt is t e f g h before =
    passes_then text at (at + i) (at + (i + 1)) r (reader_at p false x n) (reader_at q false x n) before (byte_at text at i false k p q x n lt is t e f g h)

abbrev next_word : List ℕ
next_word = 41 ∷ 10 ∷ 80 ∷ 79 ∷ 76 ∷ 89 ∷ 71 ∷ 79 ∷ 78 ∷ 32 ∷ 40 ∷ []

next_polygon_at : (text : List ℕ) (at : ℕ) (x n : Numeral) → Stands text at next_word → Passes text at (at + 11) true (reader_at AfterRing false x n) (reader_at BeforeRing false x n)
next_polygon_at text at x n s =
    let r : Reader = reader_at AfterRing false x n in
    let inside : (i : ℕ) → i < 11 → at + i < length text = λ i lt. omega (arith, lt, s.within) in
    let class_at : (i : ℕ) → i < 11 → class_of (get_or text (at + i) 0) ≡ class_of (get_or next_word i 0) = λ i lt. ap class_of (s.bytes i lt) in
    let none : at + 0 ≡ at = omega arith in
    let start : Passes text at (at + 0) false r r = subst (λ (j : ℕ). Passes text at j false r r) (sym none) (passes_none text at r (omega (arith, s.within))) in
    then_byte text at 10 Open r KeywordGap BeforeRing x n (inside 10 (lit< tt)) (class_at 10 (lit< tt)) refl refl refl refl refl
    (then_byte text at 9 Space r (Keyword 12) KeywordGap x n (inside 9 (lit< tt)) (class_at 9 (lit< tt)) refl refl refl refl refl
    (then_byte text at 8 (Letter 78) r (Keyword 11) (Keyword 12) x n (inside 8 (lit< tt)) (class_at 8 (lit< tt)) refl refl refl refl refl
    (then_byte text at 7 (Letter 79) r (Keyword 10) (Keyword 11) x n (inside 7 (lit< tt)) (class_at 7 (lit< tt)) refl refl refl refl refl
    (then_byte text at 6 (Letter 71) r (Keyword 9) (Keyword 10) x n (inside 6 (lit< tt)) (class_at 6 (lit< tt)) refl refl refl refl refl
    (then_byte text at 5 (Letter 89) r (Keyword 8) (Keyword 9) x n (inside 5 (lit< tt)) (class_at 5 (lit< tt)) refl refl refl refl refl
    (then_byte text at 4 (Letter 76) r (Keyword 7) (Keyword 8) x n (inside 4 (lit< tt)) (class_at 4 (lit< tt)) refl refl refl refl refl
    (then_byte text at 3 (Letter 79) r (Keyword 6) (Keyword 7) x n (inside 3 (lit< tt)) (class_at 3 (lit< tt)) refl refl refl refl refl
    (begins_then text at (at + 2) (at + 3) r (reader_at Between false x n) (reader_at (Keyword 6) false x n)
    (then_byte text at 1 Space r Ended Between x n (inside 1 (lit< tt)) (class_at 1 (lit< tt)) refl refl refl refl refl
    (then_byte text at 0 Close r AfterRing Ended x n (inside 0 (lit< tt)) (class_at 0 (lit< tt)) refl refl refl refl refl start))
    (byte_at text at 2 true (Letter 80) Between (Keyword 6) x n (inside 2 (lit< tt)) (class_at 2 (lit< tt)) refl refl refl refl refl)))))))))

pub next_polygon : (text : List ℕ) (at : ℕ) (r : Reader) → r.place ≡ AfterRing → r.multi ≡ false → Stands text at next_word → Passes text at (at + 11) true r (reader_at BeforeRing r.multi r.x r.number)
next_polygon text at r e f s =
    subst (λ (p : Place). Passes text at (at + 11) true (reader_at p r.multi r.x r.number) (reader_at BeforeRing r.multi r.x r.number)) (sym e)
    (subst (λ (b : Bool). Passes text at (at + 11) true (reader_at AfterRing b r.x r.number) (reader_at BeforeRing b r.x r.number)) (sym f) (next_polygon_at text at r.x r.number s))
