use Rattle.std.proofs.Common.{inl}
use Rattle.program.proofs.noded_program.drive_noded.Goals as goal

pub returns-in-Ok : goal.returns-in-Ok
returns-in-Ok g c = inl (c.in-Ok.asked, c.in-Ok.ensures, c.answer.ensures)
