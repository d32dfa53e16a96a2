-- A machine that reads a layer text byte by byte, and what it has read at each place.
use Rattle.std.specs.Prelude.{ℕ, ◌+◌, ◌-◌, ◌*◌, Bool, true, false, ◌&&◌, ◌==◌, nat_le, nat_lt, if◌then◌else◌, List, [], ◌∷◌, ◌++◌, length, drop, ℤ, pos, neg_ℤ, Option, Some, None, option_and_then, option_map, slice_index}
use Rattle.wkt.specs.declared.places.Place.{Place}
use Rattle.wkt.specs.declared.places.Place.TheVariants.{Between, Keyword, KeywordGap, Empty, Ended, BeforeBody, BeforeRing, BeforePoint, MinusX, DigitsX, BeforeY, MinusY, DigitsY, AfterPoint, AfterRing, AfterBody}
use Rattle.wkt.specs.declared.places.Class.{Class}
use Rattle.wkt.specs.declared.places.Class.TheVariants.{Space, Digit, Minus, Comma, Open, Close, Letter, Other}
use Rattle.wkt.specs.LayerText.{Number, Point, Ring, is_space, is_digit, multipolygon_word, empty_word}

abbrev pub class_of : ℕ → Class
class_of b = if is_space b then Space else (if is_digit b then Digit (b - 48) else (if b == 45 then Minus else (if b == 44 then Comma else (if b == 40 then Open else (if b == 41 then Close else
    (if nat_le 65 b && nat_le b 90 then Letter b else (if nat_le 97 b && nat_le b 122 then Letter (b - 32) else Other)))))))

abbrev pub opened : Bool → Place
opened multi = if multi then BeforeBody else BeforeRing

abbrev pub closed : Bool → Place
closed multi = if multi then AfterBody else Ended

abbrev pub turn : Place → Class → Bool → Option Place
turn Between Space multi = Some Between
turn Between (Letter c) multi = if c == 77 then Some (Keyword 1) else (if c == 80 then Some (Keyword 6) else None)
turn (Keyword k) (Letter c) multi = if nat_lt k 12 && c == slice_index multipolygon_word k then Some (Keyword (k + 1)) else None
turn (Keyword k) Space multi = if k == 12 then Some KeywordGap else None
turn (Keyword k) Open multi = if k == 12 then Some (opened multi) else None
turn KeywordGap Space multi = Some KeywordGap
turn KeywordGap Open multi = Some (opened multi)
turn KeywordGap (Letter c) multi = if c == 69 then Some (Empty 1) else None
turn (Empty k) (Letter c) multi = if nat_lt k 5 && c == slice_index empty_word k then Some (if k == 4 then Ended else Empty (k + 1)) else None
turn Ended Space multi = Some Between
turn BeforeBody Space multi = Some BeforeBody
turn BeforeBody Open multi = Some BeforeRing
turn BeforeRing Space multi = Some BeforeRing
turn BeforeRing Open multi = Some BeforePoint
turn BeforePoint Space multi = Some BeforePoint
turn BeforePoint Minus multi = Some MinusX
turn BeforePoint (Digit d) multi = Some DigitsX
turn MinusX (Digit d) multi = Some DigitsX
turn DigitsX (Digit d) multi = Some DigitsX
turn DigitsX Space multi = Some BeforeY
turn BeforeY Space multi = Some BeforeY
turn BeforeY Minus multi = Some MinusY
turn BeforeY (Digit d) multi = Some DigitsY
turn MinusY (Digit d) multi = Some DigitsY
turn DigitsY (Digit d) multi = Some DigitsY
turn DigitsY Space multi = Some AfterPoint
turn DigitsY Comma multi = Some BeforePoint
turn DigitsY Close multi = Some AfterRing
turn AfterPoint Space multi = Some AfterPoint
turn AfterPoint Comma multi = Some BeforePoint
turn AfterPoint Close multi = Some AfterRing
turn AfterRing Space multi = Some AfterRing
turn AfterRing Comma multi = Some BeforeRing
turn AfterRing Close multi = Some (closed multi)
turn AfterBody Space multi = Some AfterBody
turn AfterBody Comma multi = Some BeforeBody
turn AfterBody Close multi = Some Ended
turn place class multi = None

-- what was read: the rings that are whole, of each geometry the number of its first one, the ring, the point and the number at hand
pub record Notes : Type 0 where
  pub multi : Bool
  pub rings : List Ring
  pub starts : List ℕ
  pub ring_at : ℕ
  pub points : List Point
  pub x : Number
  pub number_at : ℕ
  pub negative : Bool
  pub magnitude : ℕ

abbrev pub signed : Bool → ℕ → ℤ
signed negative k = if negative then neg_ℤ (pos k) else pos k

abbrev pub number : Notes → Number
number m = record { at = m.number_at; value = signed m.negative m.magnitude }

abbrev pub with_point : Notes → List Point
with_point m = m.points ++ record { x = m.x; y = number m } ∷ []

abbrev pub with_ring : Notes → List Point → List Ring
with_ring m points = m.rings ++ record { at = m.ring_at; points = points } ∷ []

-- the starts with one more geometry, if one begins behind these rings
abbrev pub started : Bool → List ℕ → List Ring → List ℕ
started begun starts rings = if begun then starts ++ length rings ∷ [] else starts

-- a geometry of this kind begins
abbrev pub with_geometry : Bool → Notes → Notes
with_geometry multi m = record m { multi = multi; starts = started true m.starts m.rings }

-- what is noted at a byte of this class at this offset
abbrev pub noted : ℕ → Place → Class → Notes → Notes
noted at Between (Letter c) m = with_geometry (c == 77) m
noted at BeforeRing Open m = record m { ring_at = at; points = [] }
noted at BeforePoint Minus m = record m { number_at = at; negative = true; magnitude = 0 }
noted at BeforePoint (Digit d) m = record m { number_at = at; negative = false; magnitude = d }
noted at MinusX (Digit d) m = record m { magnitude = d }
noted at DigitsX (Digit d) m = record m { magnitude = 10 * m.magnitude + d }
noted at DigitsX Space m = record m { x = number m }
noted at BeforeY Minus m = record m { number_at = at; negative = true; magnitude = 0 }
noted at BeforeY (Digit d) m = record m { number_at = at; negative = false; magnitude = d }
noted at MinusY (Digit d) m = record m { magnitude = d }
noted at DigitsY (Digit d) m = record m { magnitude = 10 * m.magnitude + d }
noted at DigitsY Space m = record m { points = with_point m }
noted at DigitsY Comma m = record m { points = with_point m }
noted at DigitsY Close m = record m { points = []; rings = with_ring m (with_point m) }
noted at AfterPoint Close m = record m { points = []; rings = with_ring m m.points }
noted at place class m = m

-- the machine
pub record State : Type 0 where
  pub place : Place
  pub notes : Notes

abbrev pub step : ℕ → State → Class → Option State
step at s class = option_map (λ p. record { place = p; notes = noted at s.place class s.notes }) (turn s.place class s.notes.multi)

-- the machine after the bytes of t, the last ones of a text of n bytes, if some layer goes on so
abbrev pub run : ℕ → State → List ℕ → Option State
run n s [] = Some s
run n s (b ∷ t) = option_and_then (λ s'. run n s' t) (step (n - length (b ∷ t)) s (class_of b))

abbrev pub start : State
start = record { place = Between; notes = record { multi = false; rings = []; starts = []; ring_at = 0; points = []; x = record { at = 0; value = pos 0 }; number_at = 0; negative = false; magnitude = 0 } }

-- where a text may end
abbrev pub may_end : Place → Bool
may_end Between = true
may_end Ended = true
may_end place = false

-- the machine without its notes: the place, and whether it is in a multipolygon
abbrev pub Control : Type 0
Control = Place × Bool

abbrev pub is_multi_after : Place → Class → Bool → Bool
is_multi_after Between (Letter c) multi = c == 77
is_multi_after place class multi = multi

abbrev pub moved : Control → Class → Option Control
moved c k = option_map (λ p. (p, is_multi_after c.0 k c.1)) (turn c.0 k c.1)

abbrev pub walk : Control → List ℕ → Option Control
walk c [] = Some c
walk c (b ∷ t) = option_and_then (λ d. walk d t) (moved c (class_of b))

-- a text that the machine takes from a place to an end
abbrev pub ending : Bool → List ℕ
ending multi = if multi then 41 ∷ [] else []

abbrev pub completion : Place → Bool → List ℕ
completion Between multi = []
completion (Keyword k) multi = drop k multipolygon_word ++ 32 ∷ empty_word
completion KeywordGap multi = empty_word
completion (Empty k) multi = drop k empty_word
completion Ended multi = []
completion BeforeBody multi = 40 ∷ 40 ∷ 48 ∷ 32 ∷ 48 ∷ 41 ∷ 41 ∷ 41 ∷ []
completion BeforeRing multi = 40 ∷ 48 ∷ 32 ∷ 48 ∷ 41 ∷ 41 ∷ ending multi
completion BeforePoint multi = 48 ∷ 32 ∷ 48 ∷ 41 ∷ 41 ∷ ending multi
completion MinusX multi = 48 ∷ 32 ∷ 48 ∷ 41 ∷ 41 ∷ ending multi
completion DigitsX multi = 32 ∷ 48 ∷ 41 ∷ 41 ∷ ending multi
completion BeforeY multi = 48 ∷ 41 ∷ 41 ∷ ending multi
completion MinusY multi = 48 ∷ 41 ∷ 41 ∷ ending multi
completion DigitsY multi = 41 ∷ 41 ∷ ending multi
completion AfterPoint multi = 41 ∷ 41 ∷ ending multi
completion AfterRing multi = 41 ∷ ending multi
completion AfterBody multi = 41 ∷ []
