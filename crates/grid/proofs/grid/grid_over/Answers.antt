use Rattle.std.proofs.Common.{rules, arith, refl, to_z-of_z, FitsSigned, w32}
use Rattle.geom.proofs.Bounds.{within_room}
use Rattle.grid.proofs.Columns.{covers, wide}
use Rattle.grid.proofs.grid.grid_over.Goals as goal

pub returns-then-tiles-from-clause-exact : goal.returns-then-tiles-from-clause-exact
returns-then-tiles-from-clause-exact c =
    let r = c.args.r in
    let f : FitsSigned w32 r.lo.x = search rules in
    let g : FitsSigned w32 r.lo.y = search rules in
    let f' : FitsSigned w32 r.hi.x = search rules in
    let g' : FitsSigned w32 r.hi.y = search rules in (
      record { left = r.lo.x; bottom = r.lo.y; side = c.args.side; columns = c.steps_over-columns.result; rows = c.steps_over-rows.result },
      record { left_is = refl; bottom_is = refl; side_is = refl; columns_are = simp to_z-of_z at c.steps_over-columns.ensures.value; rows_are = simp to_z-of_z at c.steps_over-rows.ensures.value },
      refl,
      omega arith,
    )

pub invariant_of-result : goal.invariant_of-result
invariant_of-result c =
    let r = c.args.r in
    let f : FitsSigned w32 r.lo.x = search rules in
    let g : FitsSigned w32 r.lo.y = search rules in
    let f' : FitsSigned w32 r.hi.x = search rules in
    let g' : FitsSigned w32 r.hi.y = search rules in
    let b = c.requires.bounds in
    record {
      left_near = rw (to_z-of_z f) (within_room r.lo.x b.a_in.x_in);
      bottom_near = rw (to_z-of_z g) (within_room r.lo.y b.a_in.y_in);
      some_side = omega arith;
      side_small = let s = c.requires.side.1 in omega (arith, s);
      few = omega arith;
      across = wide r.lo.x r.hi.x c.args.side _ b.a_in.x_in b.b_in.x_in r.wide c.requires.side.1 (simp to_z-of_z at c.steps_over-columns.ensures.value);
      up = wide r.lo.y r.hi.y c.args.side _ b.a_in.y_in b.b_in.y_in r.high c.requires.side.1 (simp to_z-of_z at c.steps_over-rows.ensures.value);
    }

pub returns-clause-covers : goal.returns-clause-covers
returns-clause-covers c =
    let r = c.args.r in
    let f : FitsSigned w32 r.lo.x = search rules in
    let g : FitsSigned w32 r.lo.y = search rules in
    let f' : FitsSigned w32 r.hi.x = search rules in
    let g' : FitsSigned w32 r.hi.y = search rules in
    covers r c.args.side _ (omega arith) (record { left_is = to_z-of_z f; bottom_is = to_z-of_z g; side_is = refl; columns_are = simp to_z-of_z at c.steps_over-columns.ensures.value; rows_are = simp to_z-of_z at c.steps_over-rows.ensures.value })
