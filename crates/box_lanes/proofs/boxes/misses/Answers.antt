use Rattle.std.proofs.Common.{sym, ◌∙◌}
use Rattle.box_lanes.proofs.HullLaws.{missed, same_hull}
use Rattle.box_lanes.proofs.boxes.misses.Goals as goal

pub returns-in-Some : goal.returns-in-Some
returns-in-Some c = λ h t e. missed c.in-Some.hull h c.args.rect.now c.shares_point.result c.shares_point.ensures t (same_hull c.in-Some.hull h (sym c.in-Some.is ∙ e))
