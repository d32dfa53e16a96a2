use Rattle.std.proofs.Common.{inl, inr}
use Rattle.hot_region.proofs.EndLaws.{crosses_in_first, crosses_in_second}
use Rattle.hot_region.proofs.leaf.have_common_end.Goals as goal

pub returns-then-is_end_of : goal.returns-then-is_end_of
returns-then-is_end_of c = λ p t h. inl (crosses_in_first c.args.e.now c.args.f.now p h (c.is_end_of.ensures c.if-is_end_of.true))

pub returns-else-is_end_of : goal.returns-else-is_end_of
returns-else-is_end_of c = λ p t h. inr (crosses_in_second c.args.e.now c.args.f.now p h (c.is_end_of-else-is_end_of.ensures t))
