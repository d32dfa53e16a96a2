-- Rounded edges and their counts (Hobby 1999, in this project's own statement).
use Rattle.std.specs.Prelude.{◌≡◌, ◌↔◌, ℕ, ◌+◌, ◌%◌, ◌<◌, ◌==◌, ◌&&◌, ◌||◌, Bool, false, List, [], ◌∷◌, ◌++◌, AllPairs, Contains, if◌then◌else◌, count_by, filter, map}
use Rattle.geom.specs.declared.point.Pt.{Pt}
use Rattle.geom.specs.declared.segment.Source.{Source}
use Rattle.geom.specs.declared.segment.Source.TheVariants.{A, B}
use Rattle.geom.specs.declared.segment.Seg.{Seg}
use Rattle.geom.specs.declared.edge.Edge.{Edge}
use Rattle.geom.specs.declared.edge.Counted.{Counted}
pub use Rattle.geom.specs.EdgeOrder.{IsEdgeBefore}
use Rattle.geom.specs.Segments.{same_point, same_source, neighbours}
use Rattle.geom.specs.Route.{AreRoutes}

-- the two points of the step are the ends of e, in either order
abbrev pub joins : Edge → Pt × Pt → Bool
joins e step = (same_point e.p step.0 && same_point e.q step.1) || (same_point e.p step.1 && same_point e.q step.0)

-- the neighbours in the routes of a layer's segments
abbrev pub route_steps : Source → List Seg → List (List Pt) → List (Pt × Pt)
route_steps layer [] routes = []
route_steps layer (s ∷ ss) [] = []
route_steps layer (s ∷ ss) (route ∷ routes) = (if same_source s.layer layer then neighbours route else []) ++ route_steps layer ss routes

-- the number of places in the routes of a layer's segments where the ends of e are neighbours
abbrev pub count : Source → Edge → List Seg → List (List Pt) → ℕ
count layer e segments routes = count_by (joins e) (route_steps layer segments routes)

-- the rounded edges, ascending, each with its counts in the two layers: those of which a count is above 0
pub record AreRounded (segments : List Seg) (counted : List Counted) : Type 0 where
  pub routes : List (List Pt)
  pub are_routes : AreRoutes segments segments routes
  pub ascending : AllPairs (λ c d. IsEdgeBefore c.edge d.edge) counted
  pub exact : (c : Counted) → Contains counted c ↔ ((count A c.edge segments routes ≡ c.in_a) × (count B c.edge segments routes ≡ c.in_b) × (0 < c.in_a + c.in_b))

abbrev pub edges_of : List Counted → List Edge
edges_of counted = map (λ c. c.edge) counted

abbrev pub is_odd : ℕ → Bool
is_odd n = n % 2 == 1

-- a rounded layer: the rounded edges of odd count in it
abbrev pub odd_edges : Source → List Counted → List Edge
odd_edges A counted = edges_of (filter (λ c. is_odd c.in_a) counted)
odd_edges B counted = edges_of (filter (λ c. is_odd c.in_b) counted)

-- the number of edges of which v is an end
abbrev pub degree : List Edge → Pt → ℕ
degree edges v = count_by (λ e. same_point e.p v || same_point e.q v) edges

-- every point is an end of an even number of the edges
abbrev pub HasEvenDegrees : List Edge → Type 0
HasEvenDegrees edges = (v : Pt) → is_odd (degree edges v) ≡ false
