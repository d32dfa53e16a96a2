use Rattle.std.proofs.Common.{refl}
use Rattle.program.proofs.program.answer_unmeasured.Goals as goal

pub returns-in-Ok : goal.returns-in-Ok
returns-in-Ok g c =
    (c.perform.result, c.perform.ensures, rw (c.in-Ok.is, c.if-asked.true) c.show_report.ensures)

pub returns-in-Ok-2 : goal.returns-in-Ok-2
returns-in-Ok-2 g c =
    (c.perform.result, c.perform.ensures, rw (c.in-Ok-2.is, c.if-asked.false) (refl, refl))
