use Rattle.std.proofs.Common.{arith}
use Rattle.std.proofs.lemmas.Result.{IfOk-weaker}
use Rattle.wkt.specs.Features.{AreGathered, AreOutlinedFeatures, StandsForFeatures}
use Rattle.wkt.proofs.Parted.{features_parted}
use Rattle.wkt.proofs.WholeLines.{each_read, lines_from, may_read}
use Rattle.wkt.proofs.feature_lines.gathered_features_in_parts.Goals as goal

pub map_parts-requires-after_bounds : goal.map_parts-requires-after_bounds
map_parts-requires-after_bounds g c κs within = rw c.deref.ensures.value (may_read c.args.text.now c.in_ok-parts.parts.items c.in_ok-parts.ensures.parts c.in_ok-parts.ensures.lines)

pub features_of_all-requires : goal.features_of_all-requires
features_of_all-requires g c = each_read AreGathered AreOutlinedFeatures (λ t x h. h.1) c.args.text.now c.deref.result.now c.in_ok-gathered.gathered.items c.in_ok-gathered.ensures

pub returns : goal.returns
returns g c =
    let text = c.args.text.now in
    let gathered = c.in_ok-gathered.gathered.items in
    let stands = lines_from StandsForFeatures features_parted (λ x. x.1) AreGathered (λ t x h. h.0) text 0 c.deref.result.now gathered (omega arith) (rw c.deref.ensures.value c.in_ok-parts.ensures.parts) (rw c.deref.ensures.value c.in_ok-parts.ensures.lines) c.in_ok-gathered.ensures in
    IfOk-weaker c.features_of_all.result _ _ (λ r all. (rw all.1 stands, all.0)) c.features_of_all.ensures
