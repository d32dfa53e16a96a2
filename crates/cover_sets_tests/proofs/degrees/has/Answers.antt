use Rattle.std.proofs.Common.{◌∙◌}
use Rattle.cover_sets_tests.proofs.Evens.{any_is_has}
use Rattle.cover_sets_tests.proofs.degrees.has.Goals as goal

pub returns : goal.returns
returns c = c.contains.ensures.value ∙ any_is_has c.args.f c.args.features.now
