use Rattle.std.proofs.Common.{◌∙◌, sym}
use Rattle.columns.proofs.Reached.{count_features}
use Rattle.columns.proofs.segments.feature_count.Goals as goal

pub returns : goal.returns
returns c = c.list_count.ensures ∙ sym (count_features c.args.columns.now)
