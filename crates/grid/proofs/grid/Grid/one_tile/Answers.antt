use Rattle.std.proofs.Common.{rules, arith, refl, to_z-of_z, FitsSigned, w32}
use Rattle.geom.proofs.Bounds.{within_room}
use Rattle.grid.proofs.Columns.{covers, one_column_over}
use Rattle.grid.proofs.grid.Grid.one_tile.Goals as goal

pub invariant_of-result : goal.invariant_of-result
invariant_of-result c =
    let r = c.args.bounds in
    let f : FitsSigned w32 r.lo.x = search rules in
    let g : FitsSigned w32 r.lo.y = search rules in
    let b = c.requires in
    record {
      left_near = rw (to_z-of_z f) (within_room r.lo.x b.a_in.x_in);
      bottom_near = rw (to_z-of_z g) (within_room r.lo.y b.a_in.y_in);
      some_side = omega arith;
      side_small = omega arith;
      few = omega arith;
      across = omega arith;
      up = omega arith;
    }

pub returns-clause-covers : goal.returns-clause-covers
returns-clause-covers c =
    let r = c.args.bounds in
    let f : FitsSigned w32 r.lo.x = search rules in
    let g : FitsSigned w32 r.lo.y = search rules in
    let b = c.requires in
    covers r 536870913 _ (omega arith) (record {
      left_is = to_z-of_z f;
      bottom_is = to_z-of_z g;
      side_is = refl;
      columns_are = one_column_over r.lo.x r.hi.x 536870913 b.a_in.x_in b.b_in.x_in r.wide (omega arith);
      rows_are = one_column_over r.lo.y r.hi.y 536870913 b.a_in.y_in b.b_in.y_in r.high (omega arith);
    })
