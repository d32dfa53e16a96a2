use Rattle.std.proofs.Common.{List, subst, get_or}
use Rattle.std.specs.Prelude.{Contains}
use Rattle.std.proofs.Math.IntN.{pos}
use Rattle.std.proofs.lemmas.List.{get_or_default, take_all}
use Rattle.geom.specs.declared.point.Pt.{Pt}
use Rattle.hot_region.specs.Rects.{IsIn}
use Rattle.routing.proofs.SpreadLaws.{holds_more, holds_none}
use Rattle.routing.proofs.spread.box_of.Goals as goal

pub loop-pixel-init : goal.loop-pixel-init
loop-pixel-init c =
    let blank : Pt = record { x = pos 0; y = pos 0 } in
    holds_none (get_or c.args.pixels.now 0 blank) c.spanned_by-rect.result (c.requires.pixels_in 0 blank c.requires.some) c.spanned_by-rect.ensures.lo c.spanned_by-rect.ensures.hi

pub loop-pixel-preserved : goal.loop-pixel-preserved
loop-pixel-preserved c =
    let pixels = c.args.pixels.now in
    let i = c.loop-pixel.pixel-index in
    let blank : Pt = record { x = pos 0; y = pos 0 } in
    let p = get_or pixels i blank in
    let is = get_or_default pixels i blank p c.loop-pixel-test.true in
    let w = c.with-rect.ensures in
    holds_more pixels i p c.loop-pixel.rect c.with-rect.result c.loop-pixel-test.true is (c.requires.pixels_in i blank c.loop-pixel-test.true) (record { left = w.left; below = w.below; right = w.right; above = w.above }) c.loop-pixel.invariant

pub returns-clause-within : goal.returns-clause-within
returns-clause-within c = c.loop-pixel.invariant.limited

pub returns-clause-all : goal.returns-clause-all
returns-clause-all c = subst (λ (ps : List Pt). (p : Pt) → Contains ps p → IsIn c.loop-pixel.rect p) (take_all c.loop-pixel.pixel-index c.args.pixels.now c.loop-pixel-test.false) c.loop-pixel.invariant.all
