use Rattle.program.proofs.measured_program.answer_measured.Goals as goal

pub returns-in-Ok : goal.returns-in-Ok
returns-in-Ok g c =
    (c.perform.result, c.perform.ensures, rw (c.in-Ok.is) c.show_measured.ensures)
