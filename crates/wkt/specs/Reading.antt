-- What the code's reader has of the machine's notes.
use Rattle.std.specs.Prelude.{◌≡◌, ℕ, ◌+◌, ◌*◌, Bool, true, false, min, nat_lt, if◌then◌else◌, [], ◌∷◌, ◌++◌, ℤ, Option, Some, None, MatchOption}
use Rattle.geom.specs.Limit.{coordinate_limit}
use Rattle.wkt.specs.declared.places.Place.{Place}
use Rattle.wkt.specs.declared.places.Place.TheVariants.{Between, BeforeRing, BeforePoint, MinusX, DigitsX, BeforeY, MinusY, DigitsY, AfterPoint}
use Rattle.wkt.specs.declared.places.Class.{Class}
use Rattle.wkt.specs.declared.places.Class.TheVariants.{Space, Digit, Minus, Comma, Open, Close, Letter}
use Rattle.wkt.specs.declared.reader.Number.{Number as Numeral}
use Rattle.wkt.specs.declared.reader.Reader.{Reader}
use Rattle.wkt.specs.declared.reader.Event.{Event}
use Rattle.wkt.specs.declared.reader.Event.TheVariants.{Nothing, Geometry, Open as Opens, Point as EventPoint, Last, Close as Closes}
use Rattle.wkt.specs.declared.reader.Kind.{Kind}
use Rattle.wkt.specs.declared.reader.Kind.TheVariants.{Nothing as KindNothing, Geometry as KindGeometry, Open as KindOpen, Point as KindPoint, Last as KindLast, Close as KindClose}
use Rattle.wkt.specs.LayerText.{Number, Point}
use Rattle.wkt.specs.Machine.{class_of, turn, Notes, signed, with_ring, started, noted}

abbrev pub u32_max : ℕ
u32_max = 4294967295

-- the value, where it is within the limit
abbrev pub value_of : Numeral → Option ℤ
value_of x = if nat_lt coordinate_limit x.magnitude then None else Some (signed x.negative x.magnitude)

abbrev pub with_digit : Numeral → ℕ → Numeral
with_digit x d = record x { magnitude = min (min (x.magnitude * 10) u32_max + d) u32_max }

abbrev pub number_next : Place → Class → ℕ → Numeral → Numeral
number_next BeforePoint Minus at x = record { at = at; negative = true; magnitude = 0 }
number_next BeforeY Minus at x = record { at = at; negative = true; magnitude = 0 }
number_next BeforePoint (Digit d) at x = record { at = at; negative = false; magnitude = d }
number_next BeforeY (Digit d) at x = record { at = at; negative = false; magnitude = d }
number_next MinusX (Digit d) at x = record x { magnitude = d }
number_next MinusY (Digit d) at x = record x { magnitude = d }
number_next DigitsX (Digit d) at x = with_digit x d
number_next DigitsY (Digit d) at x = with_digit x d
number_next p k at x = x

abbrev pub x_next : Place → Class → Numeral → Numeral → Numeral
x_next DigitsX Space x number = number
x_next p k x number = x

abbrev pub event_of : Place → Class → Numeral → Numeral → Event
event_of Between (Letter c) x y = Geometry
event_of BeforeRing Open x y = Opens
event_of DigitsY Space x y = EventPoint x y
event_of DigitsY Comma x y = EventPoint x y
event_of DigitsY Close x y = Last x y
event_of AfterPoint Close x y = Closes
event_of p k x y = Nothing

-- the kind of that event, and the event of a kind with these numbers
abbrev pub kind_of : Place → Class → Kind
kind_of Between (Letter c) = KindGeometry
kind_of BeforeRing Open = KindOpen
kind_of DigitsY Space = KindPoint
kind_of DigitsY Comma = KindPoint
kind_of DigitsY Close = KindLast
kind_of AfterPoint Close = KindClose
kind_of p k = KindNothing

abbrev pub event_as : Kind → Numeral → Numeral → Event
event_as KindNothing x y = Nothing
event_as KindGeometry x y = Geometry
event_as KindOpen x y = Opens
event_as KindPoint x y = EventPoint x y
event_as KindLast x y = Last x y
event_as KindClose x y = Closes

-- whether a geometry begins
abbrev pub begins_geometry : Event → Bool
begins_geometry Geometry = true
begins_geometry e = false

-- the numeral has this offset, this sign and this magnitude, or is at the greatest u32
abbrev pub IsNumeralOf : Numeral → ℕ → Bool → ℕ → Type 0
IsNumeralOf c at negative k = (c.at ≡ at) × (c.negative ≡ negative) × (c.magnitude ≡ min k u32_max)

-- the numeral stands for the number
abbrev pub IsNumeralFor : Numeral → Number → Type 0
IsNumeralFor c x = (k : ℕ) × (x.at ≡ c.at) × (x.value ≡ signed c.negative k) × (c.magnitude ≡ min k u32_max)

-- outside a ring no points are at hand
abbrev pub Idle : Place → Notes → Type 0
Idle BeforePoint m = Unit {0}
Idle MinusX m = Unit {0}
Idle DigitsX m = Unit {0}
Idle BeforeY m = Unit {0}
Idle MinusY m = Unit {0}
Idle DigitsY m = Unit {0}
Idle AfterPoint m = Unit {0}
Idle p m = m.points ≡ []

abbrev pub ReaderIs : Reader → Notes → Type 0
ReaderIs r m = (r.multi ≡ m.multi) × IsNumeralFor r.x m.x × IsNumeralOf r.number m.number_at m.negative m.magnitude × Idle r.place m

-- the numerals stand for a point
abbrev pub StandFor : Numeral → Numeral → Point → Type 0
StandFor x y p = IsNumeralFor x p.x × IsNumeralFor y p.y

-- what an event says of the notes before it and behind it
abbrev pub Says : Event → ℕ → Notes → Notes → Type 0
Says Nothing at m m' = (m'.rings ≡ m.rings) × (m'.ring_at ≡ m.ring_at) × (m'.points ≡ m.points)
Says Geometry at m m' = (m'.rings ≡ m.rings) × (m'.ring_at ≡ m.ring_at) × (m'.points ≡ m.points)
Says Opens at m m' = (m'.rings ≡ m.rings) × (m'.ring_at ≡ at) × (m'.points ≡ []) × (m.points ≡ [])
Says (EventPoint x y) at m m' = (p : Point) × StandFor x y p × (m'.rings ≡ m.rings) × (m'.ring_at ≡ m.ring_at) × (m'.points ≡ m.points ++ p ∷ [])
Says (Last x y) at m m' = (p : Point) × StandFor x y p × (m'.ring_at ≡ m.ring_at) × (m'.rings ≡ with_ring m (m.points ++ p ∷ [])) × (m'.points ≡ [])
Says Closes at m m' = (m'.ring_at ≡ m.ring_at) × (m'.rings ≡ with_ring m m.points) × (m'.points ≡ [])

-- the reader went on as the machine does, and told what the notes have more
pub record Went (at byte : ℕ) (old : Reader) (m : Notes) (e : Event) (new : Reader) : Type 0 where
  pub place : turn old.place (class_of byte) m.multi ≡ Some new.place
  pub notes : ReaderIs new (noted at old.place (class_of byte) m)
  pub says : Says e at m (noted at old.place (class_of byte) m)
  pub starts : (noted at old.place (class_of byte) m).starts ≡ started (begins_geometry e) m.starts m.rings

abbrev pub Stepped : ℕ → ℕ → Reader → Notes → Option Event → Reader → Type 0
Stepped at byte old m result new = MatchOption result (turn old.place (class_of byte) m.multi ≡ None) (λ e. Went at byte old m e new)
