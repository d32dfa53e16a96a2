use Rattle.std.proofs.Common.{arith}
use Rattle.std.proofs.Math.IntN.{ℤ, pos}
use Rattle.std.specs.Prelude.{◌≤ℤ◌, ◌<ℤ◌}
use Rattle.std.proofs.lemmas.Int.{ints}
use Rattle.label_sweep.proofs.status.Status.first_not_below.Goals as goal

above_none : (z : ℤ) → pos 1 ≤ℤ z → pos 0 <ℤ z
above_none z h = omega (arith, ints)

below_one : (z : ℤ) → z <ℤ pos 1 → z ≤ℤ pos 0
below_one z h = omega (arith, ints)

pub returns-clause-between : goal.returns-clause-between
returns-clause-between g c chunked parted = let found = c.place.ensures.between chunked parted in record {
  place = found.place;
  within = found.within;
  before = λ k d from to. above_none _ (found.before k d from to);
  behind = λ k d from to. below_one _ (found.behind k d from to);
}
