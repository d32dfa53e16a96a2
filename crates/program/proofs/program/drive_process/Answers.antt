use Rattle.std.proofs.Common.{inl, map, string_bytes}
use Rattle.program.proofs.program.drive_process.Goals as goal

pub returns-in-Ok : goal.returns-in-Ok
returns-in-Ok g c = inl (map string_bytes c.in-Ok.words.items, c.in-Ok.ensures, rw (← c.as_slice.ensures.value) c.drive.ensures)
