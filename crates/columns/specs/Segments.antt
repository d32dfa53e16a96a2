-- Segments that are added to a list (own).
use Rattle.std.specs.Prelude.{◌≡◌, ◌++◌, not, All, List, filter, map}
use Rattle.geom.specs.Limit.{AreInLimit}
use Rattle.geom.specs.Segments.{parts, same_point, tagged}
use Rattle.geom.specs.declared.point.Pt.{Pt}
use Rattle.geom.specs.declared.segment.Seg.{Seg}
use Rattle.geom.specs.declared.segment.Source.{Source}

abbrev pub AllInLimit : List Seg → Type 0
AllInLimit segments = All (λ s. AreInLimit s.a s.b) segments

-- new has the segments of those of these steps whose points differ behind those of old
abbrev pub HasSteps : Source → List (Pt × Pt) → List Seg → List Seg → Type 0
HasSteps layer steps old new = map parts new ≡ map parts old ++ map (tagged layer) (filter (λ step. not (same_point step.0 step.1)) steps)
