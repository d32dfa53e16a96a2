use Rattle.std.proofs.Common.{List, map, subst}
use Rattle.polygon_order.specs.declared.shells.Shell.{Shell}
use Rattle.polygon_order.specs.Order.{AreColumnsAsWritten}
use Rattle.polygon_order.specs.Shells.{AreDistinct, polygons_at}
use Rattle.polygon_order.proofs.ByShell.{by_shells}
use Rattle.polygon_order.proofs.ordering.ordered.Goals as goal

pub returns-in-Ok-copied : goal.returns-in-Ok-copied
returns-in-Ok-copied g c =
    let columns = c.args.columns in
    let shells = c.in-Ok.shells.items in
    let distinct = subst (λ (t : List Shell). AreDistinct columns t) c.deref.ensures.value c.in_default-shell_twice.ensures in
    let are = λ (t : List Shell). AreColumnsAsWritten (polygons_at columns (map (λ s. s.number) t)) c.in-Ok-copied.made in
    record {
      all = polygons_at columns (map (λ s. s.number) shells);
      by_shell = by_shells columns shells c.in-Ok.ensures.shells distinct;
      columns = subst are c.deref-2.ensures.value c.in-Ok-copied.ensures;
    }
