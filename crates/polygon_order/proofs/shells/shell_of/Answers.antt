use Rattle.std.proofs.Common.{arith}
use Rattle.polygon_order.proofs.ShellOrder.{shell_at, shell_points}
use Rattle.polygon_order.proofs.shells.shell_of.Goals as goal

pub slice_bounds-result-end : goal.slice_bounds-result-end
slice_bounds-result-end c =
    let columns = c.args.columns in
    let h = shell_at columns.coordinates.now columns.rings.now columns.polygons.now c.args.number c.requires.whole c.requires.inside in
    let point = h.point in
    let inside = h.inside in
    omega (arith, point, inside)

pub returns-clause-shell : goal.returns-clause-shell
returns-clause-shell c =
    let columns = c.args.columns in
    record {
      inside = c.requires.inside;
      points = shell_points columns.coordinates.now columns.rings.now columns.polygons.now c.args.number c.requires.whole c.requires.inside;
    }
