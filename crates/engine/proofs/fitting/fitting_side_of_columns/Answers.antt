use Rattle.engine.proofs.FitsColumns.{fitting_columns, fitting_refused_first, fitting_refused_second, never_too_fine_columns}
use Rattle.engine.proofs.fitting.fitting_side_of_columns.Goals as goal

pub returns-in_default-clause-side : goal.returns-in_default-clause-side
returns-in_default-clause-side c = fitting_refused_second c.args.a.now c.args.b.now _ c.in_default.ensures'.answer

pub returns-in_default-clause-fits : goal.returns-in_default-clause-fits
returns-in_default-clause-fits c = never_too_fine_columns c.args.a.now c.args.b.now 262_144 (returns-in_default-clause-side c)

pub returns-in_default-2-clause-side : goal.returns-in_default-2-clause-side
returns-in_default-2-clause-side c =
    let refused = rw c.in_default.is-0 at c.survey.ensures.answer in
    fitting_refused_first c.args.a.now c.args.b.now _ refused

pub returns-in_default-2-clause-fits : goal.returns-in_default-2-clause-fits
returns-in_default-2-clause-fits c = never_too_fine_columns c.args.a.now c.args.b.now 262_144 (returns-in_default-2-clause-side c)

pub returns-clause-side : goal.returns-clause-side
returns-clause-side c =
    fitting_columns c.args.a.now c.args.b.now _ _ _ c.default_side.result c.in-Ok-Ok.ensures.answer c.in-Ok-Ok.ensures'.answer c.joint_bounds.ensures.joint c.default_side.ensures

pub returns-clause-fits : goal.returns-clause-fits
returns-clause-fits c = never_too_fine_columns c.args.a.now c.args.b.now c.default_side.result (returns-clause-side c)
