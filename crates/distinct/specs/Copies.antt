-- Segments of which some have the same ends, and how many of each layer stand together (own).
use Rattle.std.specs.Prelude.{◌≡◌, ◌⊎◌, ◌↔◌, ℕ, ◌+◌, ◌*◌, ◌<◌, List, [], ◌∷◌, AllPairs, Contains, count_by, if◌then◌else◌, length, sum_by}
use Rattle.std.proofs.Math.Nat.{le_refl}
use Rattle.geom.specs.declared.point.Pt.{Pt}
use Rattle.geom.specs.declared.segment.Source.{Source}
use Rattle.geom.specs.declared.segment.Source.TheVariants.{A, B}
use Rattle.geom.specs.declared.segment.Seg.{Seg}
use Rattle.geom.specs.declared.edge.Edge.{Edge}
use Rattle.geom.specs.declared.edge.Counted.{Counted}
use Rattle.geom.specs.Segments.{neighbours, same_source}
use Rattle.geom.specs.Rounded.{IsEdgeBefore, joins}
use Rattle.geom.specs.Route.{AreRoutes}
use Rattle.distinct.specs.declared.copies.Copies.{Copies}

-- ---- copies

abbrev pub copies_in : Source → Copies → ℕ
copies_in A c = c.in_a
copies_in B c = c.in_b

abbrev pub all_copies : Copies → ℕ
all_copies c = c.in_a + c.in_b

-- one segment of the layer
abbrev pub one_in : Source → Copies
one_in A = record { in_a = 1; in_b = 0; some = le_refl 1 }
one_in B = record { in_a = 0; in_b = 1; some = le_refl 1 }

-- ---- segments with the same ends

-- one way or the other
abbrev pub HaveSameEnds : Seg → Seg → Type 0
HaveSameEnds s t = ((s.a ≡ t.a) × (s.b ≡ t.b)) ⊎ ((s.a ≡ t.b) × (s.b ≡ t.a))

-- the number of a segment depends on its ends alone, and not on which of them is first
abbrev pub IsOfEnds : (Seg → ℕ) → Type 0
IsOfEnds number = (s t : Seg) → HaveSameEnds s t → number s ≡ number t

-- the sum of the numbers of a layer's segments
abbrev pub sum_in : Source → (Seg → ℕ) → List Seg → ℕ
sum_in layer number segments = sum_by (λ s. if same_source s.layer layer then number s else 0) segments

-- the sum of the numbers of segments, each as often as it has copies in the layer
abbrev pub sum_of_copies : Source → (Seg → ℕ) → List Seg → List Copies → ℕ
sum_of_copies layer number [] copies = 0
sum_of_copies layer number (s ∷ ss) [] = 0
sum_of_copies layer number (s ∷ ss) (c ∷ cs) = copies_in layer c * number s + sum_of_copies layer number ss cs

-- some of the segments are kept, with copies that stand for all of them: whatever depends on ends alone has the same sum in each layer
pub record AreCopies (segments kept : List Seg) (copies : List Copies) : Type 0 where
  pub one_each : length copies ≡ length kept
  pub among : (s : Seg) → Contains kept s → Contains segments s
  pub as_many : (layer : Source) (number : Seg → ℕ) → IsOfEnds number → sum_in layer number segments ≡ sum_of_copies layer number kept copies

-- ---- rounded

-- how often the ends of e are neighbours in the routes, each as often as its segment has copies in the layer
abbrev pub count_copies : Source → Edge → List Copies → List (List Pt) → ℕ
count_copies layer e [] routes = 0
count_copies layer e (c ∷ cs) [] = 0
count_copies layer e (c ∷ cs) (route ∷ routes) = copies_in layer c * count_by (joins e) (neighbours route) + count_copies layer e cs routes

-- the rounded edges of segments with copies, ascending, each with its counts in the two layers: those of which a count is above 0
pub record AreCopiesRounded (segments : List Seg) (copies : List Copies) (counted : List Counted) : Type 0 where
  pub routes : List (List Pt)
  pub are_routes : AreRoutes segments segments routes
  pub ascending : AllPairs (λ c d. IsEdgeBefore c.edge d.edge) counted
  pub exact : (c : Counted) → Contains counted c ↔ ((count_copies A c.edge copies routes ≡ c.in_a) × (count_copies B c.edge copies routes ≡ c.in_b) × (0 < c.in_a + c.in_b))
