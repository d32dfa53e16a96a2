-- The segments of two layers (own).
use Rattle.std.specs.Prelude.{◌≡◌, ◌++◌, not, ℕ, All, List, filter, map}
use Rattle.geom.specs.Limit.{AreInLimit, InLimit}
use Rattle.geom.specs.Segments.{AreSegments, layer_steps, parts, same_point, tagged}
use Rattle.geom.specs.declared.point.Pt.{Pt}
use Rattle.geom.specs.declared.segment.Seg.{Seg}
use Rattle.geom.specs.declared.segment.Source.{Source}
use Rattle.wkt.specs.LayerText.{Ring}
use Rattle.wkt.specs.Refusals.{IsAccepted, plain}

-- both ends of each segment are within the coordinate limit
abbrev pub AllInLimit : List Seg → Type 0
AllInLimit segments = All (λ s. AreInLimit s.a s.b) segments

-- each point of the rings is within it
abbrev pub AreRingsInLimit : List (List Pt) → Type 0
AreRingsInLimit rings = All (λ ring. All InLimit ring) rings

-- the steps that are segments of a layer
abbrev pub proper : Source → List (Pt × Pt) → List (Pt × Pt × Source)
proper layer steps = map (tagged layer) (filter (λ step. not (same_point step.0 step.1)) steps)

-- new has the segments of these steps behind those of old
abbrev pub HasSteps : Source → List (Pt × Pt) → List Seg → List Seg → Type 0
HasSteps layer steps old new = map parts new ≡ map parts old ++ proper layer steps

-- the segments of the layers that two texts stand for
pub record AreSegmentsOf (a b : List ℕ) (segments : List Seg) : Type 0 where
  pub rings_a : List Ring
  pub rings_b : List Ring
  pub accepted_a : IsAccepted a rings_a
  pub accepted_b : IsAccepted b rings_b
  pub are_segments : AreSegments (plain rings_a) (plain rings_b) segments

-- the segments of the layer that a text stands for
pub record AreLayerSegments (layer : Source) (text : List ℕ) (segments : List Seg) : Type 0 where
  pub rings : List Ring
  pub accepted : IsAccepted text rings
  pub are_segments : map parts segments ≡ map (tagged layer) (layer_steps (plain rings))
