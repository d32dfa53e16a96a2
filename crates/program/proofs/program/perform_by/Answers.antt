use Rattle.program.proofs.program.perform_by.Goals as goal

pub returns-in-Edges-clause-runs : goal.returns-in-Edges-clause-runs
returns-in-Edges-clause-runs g c = rw (c.in-Edges.is, ← c.limits_of-limits.ensures) c.edges_within.ensures

pub returns-in-Apply-clause-runs : goal.returns-in-Apply-clause-runs
returns-in-Apply-clause-runs g c = rw (c.in-Apply.is, ← c.limits_of-limits.ensures) c.run_within.ensures
