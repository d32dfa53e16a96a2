-- What the code's collector gathers.
use Rattle.std.specs.Prelude.{◌-◌, nat_lt, if◌then◌else◌, List, [], ◌∷◌, ◌++◌, length, take, pos, unwrap_or}
use Rattle.geom.specs.declared.point.Pt.{Pt}
use Rattle.wkt.specs.declared.read.Collector.{Collector}
use Rattle.wkt.specs.declared.reader.Number.{Number as Numeral}
use Rattle.wkt.specs.declared.reader.Event.{Event}
use Rattle.wkt.specs.declared.reader.Event.TheVariants.{Nothing, Geometry, Open, Point, Last, Close}
use Rattle.wkt.specs.Reading.{value_of}

abbrev pub point_value : Numeral → Numeral → Pt
point_value x y = record { x = unwrap_or (value_of x) (pos 0); y = unwrap_or (value_of y) (pos 0) }

-- whole rings, each without its last point, and the points of one
abbrev pub Gathered : Type 0
Gathered = List (List Pt) × List Pt

abbrev pub but_last : List Pt → List Pt
but_last ps = take (length ps - 1) ps

-- the ring closes, and is kept where it has points enough
abbrev pub closed : Gathered → Gathered
closed g = (if nat_lt (length g.1) 4 then (g.0, []) else (g.0 ++ but_last g.1 ∷ [], []))

abbrev pub gathered : Event → Gathered → Gathered
gathered Nothing g = g
gathered Geometry g = g
gathered Open g = g
gathered (Point x y) g = (g.0, g.1 ++ point_value x y ∷ [])
gathered (Last x y) g = closed (g.0, g.1 ++ point_value x y ∷ [])
gathered Close g = closed g

abbrev pub view : {A : Type 0} → Collector A → Gathered
view c = (c.rings.items, c.points.items)
