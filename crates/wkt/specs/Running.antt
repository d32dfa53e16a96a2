-- How far the code's reader has come in a text, and what it passes over in one go.
use Rattle.std.specs.Prelude.{◌≡◌, ℕ, ◌+◌, ◌<◌, ◌≤◌, Bool, true, false, List, length, take, drop, Some, slice_index}
use Rattle.wkt.specs.declared.places.Place.{Place}
use Rattle.wkt.specs.declared.places.Place.TheVariants.{Between, BeforePoint, MinusX, DigitsX, BeforeY, MinusY, DigitsY}
use Rattle.wkt.specs.declared.reader.Number.{Number as Numeral}
use Rattle.wkt.specs.declared.reader.Reader.{Reader}
use Rattle.wkt.specs.Machine.{Notes, run, start, started, walk}
use Rattle.wkt.specs.Reading.{ReaderIs}

-- the reader stands behind the first bytes of the text, this many, and the machine has these notes there
pub record HasRead (text : List ℕ) (at : ℕ) (r : Reader) (m : Notes) : Type 0 where
  pub within : at ≤ length text
  pub on : run (length text) start text ≡ run (length text) (record { place = r.place; notes = m }) (drop at text)
  pub walked : walk (Between, false) (take at text) ≡ Some (r.place, r.multi)
  pub is : ReaderIs r m

-- the reader stands there, and nothing was completed since these notes, but a geometry may have begun
pub record HasPassed (text : List ℕ) (at : ℕ) (begun : Bool) (r : Reader) (m : Notes) : Type 0 where
  pub notes : Notes
  pub read : HasRead text at r notes
  pub rings : notes.rings ≡ m.rings
  pub ring_at : notes.ring_at ≡ m.ring_at
  pub points : notes.points ≡ m.points
  pub starts : notes.starts ≡ started begun m.starts m.rings

-- the reader goes on from one offset to another, and nothing is completed on its way, but a geometry may begin
pub record Passes (text : List ℕ) (at end : ℕ) (begun : Bool) (old new : Reader) : Type 0 where
  pub onward : at ≤ end
  pub within : end ≤ length text
  pub passed : (m : Notes) → HasRead text at old m → HasPassed text end begun new m

-- this word stands at this offset of the text
pub record Stands (text : List ℕ) (at : ℕ) (word : List ℕ) : Type 0 where
  pub within : at + length word ≤ length text
  pub bytes : (k : ℕ) → k < length word → slice_index text (at + k) ≡ slice_index word k

-- before, behind the sign of, and behind a digit of a point's first number, and its second
abbrev pub before : Bool → Place
before false = BeforePoint
before true = BeforeY

abbrev pub behind_minus : Bool → Place
behind_minus false = MinusX
behind_minus true = MinusY

abbrev pub behind_digit : Bool → Place
behind_digit false = DigitsX
behind_digit true = DigitsY

abbrev pub reader_at : Place → Bool → Numeral → Numeral → Reader
reader_at p multi x number = record { place = p; multi = multi; x = x; number = number }

-- a reader before a number passes these bytes as white space
abbrev pub PassesSpaces : List ℕ → ℕ → ℕ → Type 0
PassesSpaces text at end = (second multi : Bool) (x number : Numeral) → Passes text at end false (reader_at (before second) multi x number) (reader_at (before second) multi x number)

-- a reader behind a digit passes these bytes as more digits of its number
abbrev pub PassesDigits : List ℕ → ℕ → ℕ → Numeral → Numeral → Type 0
PassesDigits text at end number longer = (second multi : Bool) (x : Numeral) → Passes text at end false (reader_at (behind_digit second) multi x number) (reader_at (behind_digit second) multi x longer)

-- a reader before a number passes these bytes as this number
abbrev pub PassesNumber : List ℕ → ℕ → ℕ → Numeral → Type 0
PassesNumber text at end read = (second multi : Bool) (x number : Numeral) → Passes text at end false (reader_at (before second) multi x number) (reader_at (behind_digit second) multi x read)

-- a reader behind a point's first number passes these bytes as white space and this number, its second
abbrev pub PassesSecond : List ℕ → ℕ → ℕ → Numeral → Type 0
PassesSecond text at end read = (multi : Bool) (x number : Numeral) → Passes text at end false (reader_at DigitsX multi x number) (reader_at DigitsY multi number read)
