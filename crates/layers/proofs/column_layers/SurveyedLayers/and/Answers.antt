use Rattle.std.proofs.Common.{ap, ◌+◌}
use Rattle.layers.proofs.ColumnLayers.{surveyed_more}
use Rattle.layers.proofs.column_layers.SurveyedLayers.and.Goals as goal

pub returns-clause-surveyed : goal.returns-clause-surveyed
returns-clause-surveyed c = λ layers layer old accepted is.
    let next = c.args.next in
    surveyed_more layers layer c.args.self _ next old accepted is (ap (λ n. c.args.self.segments + n) c.from.ensures)
    c.joint_bounds.ensures.joint (c.joint_bounds.ensures.in_limit old.in_limit c.requires.in_limit)
