use Rattle.std.proofs.Common.{inr, sym, ◌∙◌}
use Rattle.geom.proofs.Points.{same_point_true}
use Rattle.hot_region.proofs.leaf.is_end_of.Goals as goal

pub returns-else-eq : goal.returns-else-eq
returns-else-eq c = λ t. inr (same_point_true c.args.point c.args.line.now.q (sym c.eq-else-eq.ensures ∙ t))
