use Rattle.std.proofs.Common.{◌<◌, ◌++◌, ◌∙◌, ap, arith, false, length, slice_index_or}
use Rattle.std.proofs.lemmas.List.{get_or_default}
use Rattle.geom.specs.Label.{ways}
use Rattle.geom.proofs.Listing.{one_more}
use Rattle.face_label.proofs.label.directed_edges.Goals as goal

pub loop-i-preserved : goal.loop-i-preserved
loop-i-preserved g c =
    let r = slice_index_or c.args.counted.now c.loop-i.i c.index-counted-i.result in
    let l = slice_index_or c.args.labels.now c.loop-i.i (false, false) in
    let h : c.loop-i.i < length c.args.labels.now = omega (arith, c.loop-i-test.true, c.requires) in
    c.in_ok-add_directions.ensures ∙ ap (λ t. t ++ ways r.edge l) c.loop-i.invariant
    ∙ one_more c.args.counted.now c.args.labels.now c.loop-i.i r l c.loop-i-test.true h (get_or_default c.args.counted.now c.loop-i.i r c.index-counted-i.result c.loop-i-test.true) (get_or_default c.args.labels.now c.loop-i.i l (false, false) h)
