use Rattle.program.proofs.covered_program.answer_covered.Goals as goal

pub returns-in-Ok : goal.returns-in-Ok
returns-in-Ok g c =
    (c.perform.result, c.perform.ensures, rw (c.in-Ok.is, c.if-asked.true) c.show_report.ensures)
