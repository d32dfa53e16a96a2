use Rattle.std.proofs.Common.{◌∙◌, ◌*◌, ◌+◌, ◌<◌, [], length, get_or, refl, sym, ap, arith}
use Rattle.columns.specs.Answers.{coordinates_of}
use Rattle.columns.specs.Layout.{pairs}
use Rattle.columns.proofs.PointColumns.{pairs_few}
use Rattle.polygon_order.proofs.Cuts.{cut_at, offsets_next, slice_coordinates}
use Rattle.polygon_order.proofs.copying.ring_at.Goals as goal

pub slice_bounds-result-end : goal.slice_bounds-result-end
slice_bounds-result-end c =
    let columns = c.args.columns in
    let inside : c.args.ring + 1 < length columns.rings.now = omega (arith, c.requires.inside) in
    let next = offsets_next (length (pairs columns.coordinates.now)) columns.rings.now c.args.ring (c.args.ring + 1) c.requires.whole.rings_are refl inside in
    let few = (pairs_few columns.coordinates.now).0 in
    let last = next.1 in
    omega (arith, few, last)

pub returns : goal.returns
returns c =
    let columns = c.args.columns in
    let ring = c.args.ring in
    let inside : ring + 1 < length columns.rings.now = omega (arith, c.requires.inside) in
    let from = get_or columns.rings.now ring 0 in
    let past = get_or columns.rings.now (ring + 1) 0 in
    slice_coordinates columns.coordinates.now from past (2 * from) (2 * past) c.requires.whole.points refl refl
    ∙ ap coordinates_of (sym (cut_at columns.rings.now (pairs columns.coordinates.now) ring (ring + 1) [] refl inside))
