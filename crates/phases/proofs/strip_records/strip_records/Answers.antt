use Rattle.std.proofs.lemmas.Result.{IfOk-weaker}
use Rattle.hot_region.specs.Rects.{IsIn}
use Rattle.strips_law.specs.Strips.{IsInStrip}
use Rattle.phases.proofs.Columns.{met_in}
use Rattle.phases.proofs.Finding.{none_there, records_there}
use Rattle.phases.proofs.strip_records.strip_records.Goals as goal

pub returns-in-None : goal.returns-in-None
returns-in-None g c = rw c.new.ensures.items (none_there (IsInStrip c.args.cuts.now c.args.strip) c.args.segments.now (λ s p i met. c.in-None.ensures p (met_in c.box_of.result c.args.segments.now c.box_of.ensures.holds s p i met)))

pub returns-in-Some : goal.returns-in-Some
returns-in-Some g c =
    let segments = c.args.segments.now in
    IfOk-weaker c.records_in.result _ _ (λ v h. records_there (IsIn c.in-Some.tile) (IsInStrip c.args.cuts.now c.args.strip) segments v.items (λ s p i met. c.in-Some.ensures p (met_in c.box_of.result segments c.box_of.ensures.holds s p i met)) h) c.records_in.ensures
