use Rattle.std.proofs.Common.{length, ◌-◌, arith}
use Rattle.geom.proofs.Doubling.{back}
use Rattle.polygonize.specs.Below.{vertex_at}
use Rattle.polygonize.specs.Next.{nothing}
use Rattle.polygonize.proofs.short.all_columns.Goals as goal

pub returns-clause-each : goal.returns-clause-each
returns-clause-each c =
    let vertices = c.args.vertices.now in
    let last = length vertices - 1 in
    let some = c.requires.some in
    λ r h. (
      rw (back (vertex_at vertices 0).x (c.requires.vertices_in 0 nothing.from some).x_in) (c.requires.from_left 0 r (omega arith) h),
      rw (back (vertex_at vertices last).x (c.requires.vertices_in last nothing.from (omega (arith, some))).x_in) (c.requires.from_left r last (omega (arith, h)) (omega (arith, some))),
    )
