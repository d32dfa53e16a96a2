use Rattle.std.proofs.Common.{◌∙◌, ap, rules, tests}
use Rattle.std.specs.Slice.Iter.{split_callee, split_done, split_rest}
use Rattle.std.proofs.lemmas.Iterator.Consumers.{map_from_collect, YieldsList-from_filter}
use Rattle.std.proofs.lemmas.Iterator.Splits.{YieldsList-from_slice_split}
use Rattle.edge_lines.proofs.line.words_of.Goals as goal

pub returns : goal.returns
returns g c =
    map_from_collect _ c.collect.ensures.ran
    (YieldsList-from_filter _ _
    (YieldsList-from_slice_split _ _ c.args.line.now (ap split_rest c.filter.ensures.source ∙ c.split.ensures.rest) (ap split_done c.filter.ensures.source ∙ c.split.ensures.done)
    (ap split_callee c.filter.ensures.source ∙ c.split.ensures.closure) (λ x r q k. search (rules, tests)))
    c.filter.ensures.closure (λ x r q k. search (rules, tests)))
