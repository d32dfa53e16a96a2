use Rattle.std.proofs.Common.{arith, w64, FitsSigned, to_z-of_z}
use Rattle.std.proofs.lemmas.Int.{ints}
use Rattle.rows.proofs.Areas.{from_origin}
use Rattle.rows.proofs.area.side_area.Goals as goal

pub returns-clause-value : goal.returns-clause-value
returns-clause-value c =
    let e = c.args.edge in
    let v = c.vector_to.result in
    let w = c.vector_to-2.result in
    let small = c.determinant.ensures.small in
    let fits : FitsSigned w64 c.determinant.result = omega (arith, ints, small) in
    simp to_z-of_z (from_origin e.from.x e.from.y e.to.x e.to.y v.dx v.dy w.dx w.dy c.determinant.result c.determinant.ensures.value c.vector_to.ensures.dx c.vector_to.ensures.dy c.vector_to-2.ensures.dx c.vector_to-2.ensures.dy)
