use Rattle.hot_region.proofs.NearLaws.{met_near, met_shares}
use Rattle.hot_region.proofs.halving.passes.Goals as goal

pub returns-then-shares_point : goal.returns-then-shares_point
returns-then-shares_point c = λ p h m. c.is_near.ensures.1 (met_near c.args.rect.now c.args.line.now p h m)

pub returns-else-shares_point : goal.returns-else-shares_point
returns-else-shares_point c = λ p h m. c.shares_point.ensures.1 (rw (c.bounds.ensures.lo, c.bounds.ensures.hi) (met_shares c.args.rect.now c.args.line.now p h m))
