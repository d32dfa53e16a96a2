-- The numbers of a report, by the definitions (own).
use Rattle.std.specs.Prelude.{◌≡◌, ◌≢◌, ◌↔◌, ℕ, List, AllPairs, Contains, Some, length, slice_get}
use Rattle.geom.specs.declared.edge.Counted.{Counted}
use Rattle.geom.specs.declared.point.Pt.{Pt}
use Rattle.geom.specs.declared.segment.Seg.{Seg}
use Rattle.geom.specs.Hot.{IsHot}
use Rattle.geom.specs.Route.{Meets}
use Rattle.layers.specs.Segments.{AreSegmentsOf}
use Rattle.engine.specs.Runs.{Reports, ReportsWithin}
use Rattle.layers.specs.declared.plan.Plan.{Plan}
use Rattle.results.specs.declared.text.Report.{Report}

-- there are n that have P: a list has exactly these, each once
pub record IsNumberOf {X : Type 0} (P : X → Type 0) (n : ℕ) : Type 0 where
  pub those : List X
  pub once : AllPairs (λ x y. x ≢ y) those
  pub exact : (x : X) → Contains those x ↔ P x
  pub number_is : n ≡ length those

-- a segment, by its number, and a hot pixel that it meets
pub record MeetsHot (segments : List Seg) (pair : ℕ × Pt) : Type 0 where
  pub s : Seg
  pub is_at : slice_get segments pair.0 ≡ Some s
  pub hot : IsHot segments pair.1
  pub met : Meets s pair.1

-- there are so many hot pixels of the segments of two layers, and so many pairs of a segment and a hot pixel that it meets
pub record AreCountsOf (a b : List ℕ) (hot records : ℕ) : Type 0 where
  pub segments : List Seg
  pub are_segments : AreSegmentsOf a b segments
  pub hot_are : ∥ IsNumberOf (IsHot segments) hot ∥₁
  pub records_are : ∥ IsNumberOf (MeetsHot segments) records ∥₁

-- a report on two layers, of any call and plan, tells the number of their hot pixels and that of their records
abbrev pub CountsAreExact : Type 0 → Type 0
CountsAreExact M = (a b : List ℕ) (plan : Plan) (counted : List Counted) (report : Report M) → Reports plan a b counted report → AreCountsOf a b report.hot report.records

-- the same within any limit of segments
abbrev pub CountsAreExactWithin : Type 0 → Type 0
CountsAreExactWithin M = (limit : ℕ) (a b : List ℕ) (plan : Plan) (counted : List Counted) (report : Report M) → ReportsWithin limit plan a b counted report → AreCountsOf a b report.hot report.records
