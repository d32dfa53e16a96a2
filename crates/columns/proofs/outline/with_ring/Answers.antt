use Rattle.std.proofs.Common.{◌∙◌, ◌<◌, refl, sym, arith}
use Rattle.std.specs.Prelude.{slice_range}
use Rattle.columns.specs.Layout.{points_of}
use Rattle.columns.proofs.RingOutlines.{with_segments, without_segments}
use Rattle.columns.proofs.outline.with_ring.Goals as goal

pub returns-then-count-eq0-clause-outline : goal.returns-then-count-eq0-clause-outline
returns-then-count-eq0-clause-outline c = λ rings h.
    without_segments rings (slice_range (points_of c.args.points.now) c.args.from c.args.past) c.args.outline c.requires.sound (sym c.if-count-eq0.true ∙ c.count_steps-count.ensures.count) h

pub returns-clause-outline : goal.returns-clause-outline
returns-clause-outline c = λ rings h.
    let some : 0 < c.count_steps-count.result = omega arith in
    with_segments rings (slice_range (points_of c.args.points.now) c.args.from c.args.past) c.args.outline _ c.box_of-bounds.result c.box_of_both.result c.count_steps-count.result c.requires.sound c.count_steps-count.ensures.count some
    c.box_of-bounds.ensures (omega arith) c.box_of_both.ensures refl h
