use Rattle.std.proofs.Common.{subst, sym}
use Rattle.overlay_c.specs.Columns.{Lists}
use Rattle.overlay_c.specs.StripWrite.{FailsWrite}
use Rattle.overlay_c.specs.StripWrite.FailsWrite.{no_memory, shell_twice}
use Rattle.overlay_c.proofs.strip_write.columns_written.Goals as goal

pub returns-in-Err-ShellTwice : goal.returns-in-Err-ShellTwice
returns-in-Err-ShellTwice c =
    let given : Lists = record { coordinates = c.args.given.coordinates.now; rings = c.args.given.rings.now; polygons = c.args.given.polygons.now } in
    let twice = rw c.in-Err-ShellTwice.field-0-is at c.in-Err-ShellTwice.ensures in
    subst (FailsWrite given) (sym c.told.ensures) (shell_twice c.in_default.ensures c.in-Err-ShellTwice.number twice)

pub returns-in-Err-Memory : goal.returns-in-Err-Memory
returns-in-Err-Memory c =
    let given : Lists = record { coordinates = c.args.given.coordinates.now; rings = c.args.given.rings.now; polygons = c.args.given.polygons.now } in
    subst (FailsWrite given) (sym c.no_memory.ensures) (no_memory c.in_default.ensures)
