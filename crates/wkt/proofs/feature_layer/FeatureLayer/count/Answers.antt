use Rattle.wkt.specs.Features.{features_of}
use Rattle.wkt.proofs.Cuts.{count_starts}
use Rattle.wkt.proofs.feature_layer.FeatureLayer.count.Goals as goal

pub returns : goal.returns
returns g c =
    let rings = c.self.inside.rings.items in
    let starts = c.self.inside.starts.items in
    let e = count_starts (features_of rings starts) rings starts c.self.invariant in
    cc
