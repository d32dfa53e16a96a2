-- Records that were found so far.
use Rattle.std.specs.Prelude.{◌≡◌, ◌↔◌, ℕ, Contains, List}
use Rattle.geom.specs.declared.point.Pt.{Pt}
use Rattle.geom.specs.declared.segment.Seg.{Seg}
use Rattle.geom.specs.Route.{Meets}
use Rattle.routing.specs.declared.record.Record.{Record}
use Rattle.routing.specs.declared.record.Candidate.{Candidate}
use Rattle.routing.specs.Pieces.{IsEnd}
use Rattle.routing.specs.Steps.{steps_to}

-- r tells a pixel that s, the segment of this number, meets
pub record IsRecordOf (number : ℕ) (s : Seg) (r : Record) : Type 0 where
  pub numbered : r.segment ≡ number
  pub met : Meets s r.pixel
  pub steps_are : r.steps ≡ steps_to s r.pixel

-- the records of the candidates at those of the pixels that are no ends of them
pub record HasInnerRecords (candidates : List Candidate) (pixels : List Pt) (records : List Record) : Type 0 where
  pub same : (r : Record) → Contains records r ↔ (((c : Candidate) × Contains candidates c × IsRecordOf c.number c.segment r × ¬ (IsEnd c.segment r.pixel)) × Contains pixels r.pixel)

-- the records of the candidates at the pixels
pub record HasRecords (candidates : List Candidate) (pixels : List Pt) (records : List Record) : Type 0 where
  pub same : (r : Record) → Contains records r ↔ (((c : Candidate) × Contains candidates c × IsRecordOf c.number c.segment r) × Contains pixels r.pixel)
