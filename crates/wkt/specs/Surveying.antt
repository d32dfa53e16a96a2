-- What the code's survey does at each event.
use Rattle.std.specs.Prelude.{ℕ, ◌+◌, ◌==◌, nat_lt, min, if◌then◌else◌, ℤ, pos, Option, Some, None, option_map, Result, Ok, Err}
use Rattle.std.specs.Int.{int_min, int_max}
use Rattle.geom.specs.declared.point.Pt.{Pt}
use Rattle.geom.specs.declared.rect.Rect.{Rect}
use Rattle.geom.specs.declared.fault.Fault.{Fault}
use Rattle.geom.specs.declared.fault.Fault.TheVariants.{NumberRange, RingShort, RingOpen}
use Rattle.geom.specs.Segments.{same_point}
use Rattle.wkt.specs.declared.outline.Outline.{Outline}
use Rattle.wkt.specs.declared.survey.Survey.{Survey}
use Rattle.wkt.specs.declared.reader.Number.{Number as Numeral}
use Rattle.wkt.specs.declared.reader.Event.{Event}
use Rattle.wkt.specs.declared.reader.Event.TheVariants.{Nothing, Geometry, Open, Point, Last, Close}
use Rattle.wkt.specs.Reading.{u32_max, value_of}

-- the corners of a rectangle
pub record Corners : Type 0 where
  pub lo : Pt
  pub hi : Pt

abbrev pub corners : Rect → Corners
corners r = record { lo = r.lo; hi = r.hi }

-- the least box that holds a box and a point
abbrev pub grown : Corners → Pt → Corners
grown r p = record { lo = record { x = int_min r.lo.x p.x; y = int_min r.lo.y p.y }; hi = record { x = int_max r.hi.x p.x; y = int_max r.hi.y p.y } }

abbrev pub grown_by : Option Corners → Pt × Pt → Option Corners
grown_by None s = Some (grown (record { lo = s.0; hi = s.0 }) s.1)
grown_by (Some r) s = Some (grown (grown r s.0) s.1)

-- an outline, by the corners of its box
pub record Sketch : Type 0 where
  pub segments : ℕ
  pub bounds : Option Corners

abbrev pub sketch : Outline → Sketch
sketch o = record { segments = o.segments; bounds = option_map corners o.bounds }

-- a survey, by the corners of its box
pub record Shown : Type 0 where
  pub outside : Option ℕ
  pub fault : Option Fault
  pub outline : Sketch
  pub ring_at : ℕ
  pub points : ℕ
  pub first : Pt
  pub last : Pt

abbrev pub shown : Survey → Shown
shown s = record { outside = s.outside; fault = s.fault; outline = sketch s.outline; ring_at = s.ring_at; points = s.points; first = s.first; last = s.last }

abbrev pub origin : Pt
origin = record { x = pos 0; y = pos 0 }

abbrev pub fresh : Shown
fresh = record { outside = None; fault = None; outline = record { segments = 0; bounds = None }; ring_at = 0; points = 0; first = origin; last = origin }

abbrev pub opened_at : Shown → ℕ → Shown
opened_at s at = record s { ring_at = at; points = 0 }

abbrev pub lengthened : Sketch → Pt → Pt → Sketch
lengthened o a b = record { segments = min (o.segments + 1) u32_max; bounds = grown_by o.bounds (a, b) }

-- with one segment more
abbrev pub stretched : Shown → Pt → Pt → Shown
stretched s a b = record s { outline = lengthened s.outline a b }

abbrev pub added : Shown → Pt → Shown
added s p = record s {
  outline = (if s.points == 0 then s.outline else (if same_point s.last p then s.outline else lengthened s.outline s.last p));
  points = min (s.points + 1) u32_max;
  first = (if s.points == 0 then p else s.first);
  last = p;
}

-- with the values of both numbers, if they have any
abbrev pub valued : Shown → Numeral → Numeral → Option ℤ → Option ℤ → Shown
valued s x y None v = record s { outside = Some x.at }
valued s x y (Some u) None = record s { outside = Some y.at }
valued s x y (Some u) (Some v) = added s (record { x = u; y = v })

abbrev pub unless_outside : Option ℕ → Shown → Shown → Shown
unless_outside None s r = r
unless_outside (Some o) s r = s

abbrev pub pointed : Shown → Numeral → Numeral → Shown
pointed s x y = unless_outside s.outside s (valued s x y (value_of x) (value_of y))

abbrev pub ring_fault : Shown → Option Fault
ring_fault s = if nat_lt s.points 4 then Some (RingShort s.ring_at) else (if same_point s.first s.last then None else Some (RingOpen s.ring_at))

abbrev pub or_ring : Option Fault → Shown → Option Fault
or_ring None s = ring_fault s
or_ring (Some f) s = Some f

abbrev pub closed_ring : Shown → Shown
closed_ring s = record s { fault = or_ring s.fault s; points = 0 }

abbrev pub took : Shown → ℕ → Event → Shown
took s at Nothing = s
took s at Geometry = s
took s at Open = opened_at s at
took s at (Point x y) = pointed s x y
took s at (Last x y) = closed_ring (pointed s x y)
took s at Close = closed_ring s

-- what is answered: the first number outside the limit, or the first fault, or the outline
abbrev pub judged : Option ℕ → Option Fault → Outline → Result Outline Fault
judged (Some o) fault outline = Err (NumberRange o)
judged None (Some f) outline = Err f
judged None None outline = Ok outline
