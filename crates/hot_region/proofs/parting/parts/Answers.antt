use Rattle.std.proofs.Common.{subst}
use Rattle.std.specs.Prelude.{IfSome}
use Rattle.hot_region.specs.Walls.{ArePartition}
use Rattle.hot_region.proofs.WallLaws.{parts_by_walls}
use Rattle.hot_region.proofs.parting.parts.Goals as goal

pub returns-in-Some-2-clause-parts : goal.returns-in-Some-2-clause-parts
returns-in-Some-2-clause-parts g c =
    let region = c.args.region.now in
    let are = subst (λ o. IfSome o (λ w. ArePartition w.0 w.1)) c.in-Some-2.is c.in_ok-walls.ensures in
    rw (c.in_ok-first.ensures.rect, c.in_ok-first.ensures.walls, c.in_ok-second.ensures.rect, c.in_ok-second.ensures.walls) (parts_by_walls region.rect region.walls.items _ _ are)
