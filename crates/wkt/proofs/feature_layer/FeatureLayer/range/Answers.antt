use Rattle.std.proofs.Common.{◌≡◌, ◌∙◌, ◌+◌, arith, get_or, length}
use Rattle.std.proofs.lemmas.Grind.{get_or_default_zero}
use Rattle.wkt.specs.Features.{AreCut}
use Rattle.wkt.proofs.Cuts.{count_starts, feature_at, last_feature}
use Rattle.wkt.proofs.feature_layer.FeatureLayer.range.Goals as goal

pub index-from-requires : goal.index-from-requires
index-from-requires g c =
    let cut : AreCut c.args.self.now c.self.inside.rings.items c.self.inside.starts.items = rw c.self.view_is at c.self.invariant in
    omega (arith, count_starts c.args.self.now c.self.inside.rings.items c.self.inside.starts.items cut)

pub returns-then-number-last : goal.returns-then-number-last
returns-then-number-last g c =
    let cut : AreCut c.args.self.now c.self.inside.rings.items c.self.inside.starts.items = rw c.self.view_is at c.self.invariant in
    let count = count_starts c.args.self.now c.self.inside.rings.items c.self.inside.starts.items cut in
    let from : c.index-from.result.now ≡ get_or c.self.inside.starts.items c.args.number 0 = c.index-from.ensures ∙ get_or_default_zero c.self.inside.starts.items c.args.number c.index-from.result.now (omega arith) in
    let past : c.index.result.now ≡ get_or c.self.inside.starts.items (c.args.number + 1) 0 = c.index.ensures ∙ get_or_default_zero c.self.inside.starts.items (c.args.number + 1) c.index.result.now (omega arith) in
    rw (from, past) (feature_at c.args.self.now c.self.inside.rings.items c.self.inside.starts.items c.args.number cut (omega arith))

pub returns-else-number-last : goal.returns-else-number-last
returns-else-number-last g c =
    let cut : AreCut c.args.self.now c.self.inside.rings.items c.self.inside.starts.items = rw c.self.view_is at c.self.invariant in
    let count = count_starts c.args.self.now c.self.inside.rings.items c.self.inside.starts.items cut in
    let from : c.index-from.result.now ≡ get_or c.self.inside.starts.items c.args.number 0 = c.index-from.ensures ∙ get_or_default_zero c.self.inside.starts.items c.args.number c.index-from.result.now (omega arith) in
    let past : c.len.result ≡ length c.self.inside.rings.items = omega (arith, c.len.ensures, c.self.inside.rings.ok.0) in
    rw (from, past) (last_feature c.args.self.now c.self.inside.rings.items c.self.inside.starts.items c.args.number cut (omega arith))
