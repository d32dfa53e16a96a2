use Rattle.std.proofs.Common.{inr}
use Rattle.hot_region.proofs.BesideLaws.{found_beside}
use Rattle.hot_region.proofs.beside.hot_of_others.Goals as goal

pub cross_others-requires : goal.cross_others-requires
cross_others-requires g c = λ p k t. (c.in_ok-add_ends.ensures.same p).1 (inr (k, t))

pub returns : goal.returns
returns g c = found_beside c.args.rect.now c.args.lines.now c.args.others.now c.add_ends.new.found.items c.cross_others.new.found.items c.requires (rw c.new-found.ensures.items at c.in_ok-add_ends.ensures) c.in_ok-cross_others.ensures
