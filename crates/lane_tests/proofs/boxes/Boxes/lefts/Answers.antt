use Rattle.std.proofs.Common.{◌∙◌}
use Rattle.lane_tests.proofs.Rects.{all_small, lefts_are}
use Rattle.lane_tests.proofs.boxes.Boxes.lefts.Goals as goal

pub returns-clause-value : goal.returns-clause-value
returns-clause-value g c = c.deref.ensures.value ∙ lefts_are _ _ _ _ c.self.inside.columns c.self.inside.are_rects c.args.self.now c.columns.invariant c.columns.view_is c.self.view_is

pub returns-clause-fit : goal.returns-clause-fit
returns-clause-fit g c = all_small _ _ _ _ c.self.inside.columns c.self.inside.are_rects c.args.self.now c.columns.invariant c.columns.view_is c.self.view_is
