-- What the code's collector of features gathers.
use Rattle.std.specs.Prelude.{ℕ, Bool, if◌then◌else◌, List, [], ◌∷◌, ◌++◌, length}
use Rattle.wkt.specs.declared.features.FeatureCollector.{FeatureCollector}
use Rattle.wkt.specs.declared.reader.Event.{Event}
use Rattle.wkt.specs.Reading.{begins_geometry}
use Rattle.wkt.specs.Collecting.{Gathered, gathered, view}

-- what is gathered of rings, and of each geometry how many rings were kept where it began
abbrev pub Seen : Type 0
Seen = Gathered × List ℕ

abbrev pub begun_if : Bool → Seen → Seen
begun_if begun s = (s.0, (if begun then s.1 ++ length s.0.0 ∷ [] else s.1))

-- an event, and whether a geometry begins behind it
abbrev pub followed : Event → Bool → Seen → Seen
followed event begun s = begun_if begun (gathered event s.0, (begun_if (begins_geometry event) s).1)

abbrev pub seen : {A : Type 0} → FeatureCollector A → Seen
seen c = (view c.rings, c.starts.items)
