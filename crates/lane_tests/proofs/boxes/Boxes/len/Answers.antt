use Rattle.std.proofs.Common.{length, sym, ap, ◌∙◌}
use Rattle.std.proofs.lemmas.List.{length-map}
use Rattle.lane_tests.specs.Columns.{corners}
use Rattle.lane_tests.proofs.Rects.{columns_are}
use Rattle.lane_tests.proofs.boxes.Boxes.len.Goals as goal

pub returns-clause-value : goal.returns-clause-value
returns-clause-value g c = c.len.ensures.value ∙ sym (ap length (columns_are c.self.inside.columns c.self.inside.are_rects c.args.self.now c.self.view_is)) ∙ length-map c.args.self.now corners
