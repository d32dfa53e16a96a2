use Rattle.std.proofs.Common.{List, subst, get_or}
use Rattle.std.proofs.Math.IntN.{pos}
use Rattle.std.proofs.lemmas.List.{get_or_default, take_all}
use Rattle.geom.specs.declared.point.Pt.{Pt}
use Rattle.hot_region.specs.Walls.{AreKept}
use Rattle.hot_region.proofs.WallLaws.{kept_none, kept_push, kept_skip}
use Rattle.hot_region.proofs.region.all_behind.Goals as goal
use Rattle.hot_region.proofs.region.all_behind.Goals.{then-is_behind_all+in_ok-push, else-is_behind_all}

pub loop-pixel-init : goal.loop-pixel-init
loop-pixel-init g c = rw c.new-list.ensures.items (kept_none c.args.walls.now)

pub loop-pixel-preserved : goal.loop-pixel-preserved
loop-pixel-preserved g c =
    let walls = c.args.walls.now in
    let pixels = c.args.pixels.now in
    let i = c.loop-pixel.pixel-index in
    let blank : Pt = record { x = pos 0; y = pos 0 } in
    let p = get_or pixels i blank in
    let is = get_or_default pixels i blank p c.loop-pixel-test.true in
    elim c.if-is_behind_all.branch [
      | then-is_behind_all+in_ok-push w ↦ rw (w.list-is, w.in_ok-push.ensures.items) (kept_push walls pixels i p c.loop-pixel.list.items c.loop-pixel-test.true is c.loop-pixel.invariant (c.is_behind_all.ensures.0 w.if-is_behind_all.true))
      | else-is_behind_all w ↦ rw w.list-is (kept_skip walls pixels i p c.loop-pixel.list.items c.loop-pixel-test.true is c.loop-pixel.invariant (λ h. let a = c.is_behind_all.ensures.1 h in let b = w.if-is_behind_all.false in cc))
    ]

pub returns : goal.returns
returns g c = subst (λ (ps : List Pt). AreKept c.args.walls.now ps c.loop-pixel.list.items) (take_all c.loop-pixel.pixel-index c.args.pixels.now c.loop-pixel-test.false) c.loop-pixel.invariant
