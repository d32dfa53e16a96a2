use Rattle.std.proofs.Common.{refl}
use Rattle.std.proofs.lemmas.List.{take_all}
use Rattle.geom.specs.Words.{pt_words}
use Rattle.wkt.specs.Readable.{IsShort}
use Rattle.wkt.proofs.Writing.{text_more, all_more}
use Rattle.wkt.proofs.write.push_more_points.Goals as goal

pub loop-point-preserved : goal.loop-point-preserved
loop-point-preserved g c = (
  text_more pt_words c.args.points.now c.loop-point.point-index _ _ c.args.text.now.items c.loop-point.text.items c.extend_from_slice.new.self.items c.push_point.new.text.items c.loop-point-test.true refl c.loop-point.invariant.0 c.in_ok-extend_from_slice.ensures.items c.in_ok-push_point.ensures.text,
  all_more IsShort c.args.points.now c.loop-point.point-index _ _ c.loop-point-test.true refl c.loop-point.invariant.1 c.in_ok-push_point.ensures.short,
)

pub returns-clause-text : goal.returns-clause-text
returns-clause-text g c = rw (take_all c.loop-point.point-index c.args.points.now c.loop-point-test.false) at c.loop-point.invariant.0

pub returns-clause-short : goal.returns-clause-short
returns-clause-short g c = rw (take_all c.loop-point.point-index c.args.points.now c.loop-point-test.false) at c.loop-point.invariant.1
