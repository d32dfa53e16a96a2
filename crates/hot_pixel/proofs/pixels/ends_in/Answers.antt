use Rattle.std.proofs.Common.{List, subst}
use Rattle.std.proofs.lemmas.List.{take_all}
use Rattle.geom.specs.declared.edge.Edge.{Edge}
use Rattle.hot_pixel.specs.SegmentLines.{HasEnds}
use Rattle.hot_pixel.proofs.SweepLaws.{ends_none, ends_more}
use Rattle.hot_pixel.proofs.pixels.ends_in.Goals as goal

pub loop-line-init : goal.loop-line-init
loop-line-init g c = rw c.new-found.ensures.items (ends_none c.args.tile.now)

pub loop-line-preserved : goal.loop-line-preserved
loop-line-preserved g c = ends_more c.args.tile.now c.args.lines.now c.loop-line.line-index c.line-item.result c.loop-line.found.items c.push_in.new.found.items c.push_in-in-loop-line.new.found.items c.loop-line-test.true c.line-item.is c.loop-line.invariant c.in_ok-push_in.ensures c.in_ok-push_in-2.ensures

pub returns : goal.returns
returns g c = subst (λ (es : List Edge). HasEnds c.args.tile.now es c.loop-line.found.items) (take_all c.loop-line.line-index c.args.lines.now c.loop-line-test.false) c.loop-line.invariant
