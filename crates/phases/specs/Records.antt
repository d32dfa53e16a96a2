-- The records of segments in a region (own).
use Rattle.std.specs.Prelude.{◌↔◌, AllPairs, Contains, List}
use Rattle.geom.specs.declared.point.Pt.{Pt}
use Rattle.geom.specs.declared.segment.Seg.{Seg}
use Rattle.routing.specs.declared.record.Record.{Record}
use Rattle.routing.specs.Pieces.{IsRecord}
use Rattle.linking.specs.Links.{IsRecordBefore}

-- the records of all routes in the region, in order
pub record AreRecordsIn (In : Pt → Type 0) (segments : List Seg) (records : List Record) : Type 0 where
  pub ascending : AllPairs IsRecordBefore records
  pub exact : (r : Record) → Contains records r ↔ (IsRecord segments r × In r.pixel)
