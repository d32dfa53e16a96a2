use Rattle.program.proofs.measured_program.perform_by.Goals as goal

pub returns-clause-runs : goal.returns-clause-runs
returns-clause-runs g c = rw (← c.limits_of-limits.ensures) c.run_measured_within.ensures
