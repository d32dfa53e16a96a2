use Rattle.std.proofs.Common.{◌≡◌, w32, w64, to_z, of_z, to_z-of_z, FitsSigned, arith, ◌∙◌}
use Rattle.std.proofs.Math.IntN.{ℤ}
use Rattle.std.specs.Int.{w128}
use Rattle.std.proofs.lemmas.Int.{ints}
use Rattle.geom.specs.Limit.{IsWithin, IsQuotientWithin, coordinate_limit}
use Rattle.crossing.proofs.common_point.point_at.Goals as goal

coordinate : (z : ℤ) → IsWithin coordinate_limit z → IsWithin coordinate_limit (to_z w32 (of_z w32 z))
coordinate z h =
    let f : FitsSigned w32 z = omega (arith, ints) in
    simp to_z-of_z h

pub numerator_at-requires-clause-start_in : goal.numerator_at-requires-clause-start_in
numerator_at-requires-clause-start_in c = coordinate _ c.requires.s_in.a_in.x_in

pub numerator_at-requires-clause-end_in : goal.numerator_at-requires-clause-end_in
numerator_at-requires-clause-end_in c = coordinate _ c.requires.s_in.b_in.x_in

pub numerator_at-requires-2-clause-start_in : goal.numerator_at-requires-2-clause-start_in
numerator_at-requires-2-clause-start_in c = coordinate _ c.requires.s_in.a_in.y_in

pub numerator_at-requires-2-clause-end_in : goal.numerator_at-requires-2-clause-end_in
numerator_at-requires-2-clause-end_in c = coordinate _ c.requires.s_in.b_in.y_in
