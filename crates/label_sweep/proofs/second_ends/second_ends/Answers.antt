use Rattle.std.proofs.Common.{filter, subst, take}
use Rattle.std.specs.List.Sorted.{IsPermutation}
use Rattle.label_sweep.specs.Endings.{are_of}
use Rattle.label_sweep.proofs.Merging.{up_to_pairs}
use Rattle.label_sweep.proofs.StripEnds.{ends_between, ends_each, seconds}
use Rattle.label_sweep.proofs.second_ends.second_ends.Given.{Over}
use Rattle.label_sweep.proofs.second_ends.second_ends.Goals as goal

moved : (g : Over) (c : goal.After-sorted g) → IsPermutation (filter (are_of c.of-columns.result) (seconds (take c.args.strip.past c.args.counted.now))) c.sorted.result.items
moved g c = subst (λ t. IsPermutation t c.sorted.result.items) c.in_ok-ends.ensures c.sorted.ensures.permutation

pub returns-clause-sorted : goal.returns-clause-sorted
returns-clause-sorted g c = up_to_pairs c.sorted.result.items c.sorted.ensures.sorted

pub returns-clause-between : goal.returns-clause-between
returns-clause-between g c = ends_between c.args.counted.now c.requires.layers.ascending c.args.strip.from c.args.strip.past c.of-columns.result c.of-columns.ensures c.sorted.result.items (moved g c)

pub returns-clause-each : goal.returns-clause-each
returns-clause-each g c = ends_each c.args.counted.now c.requires.layers.ascending c.args.strip.from c.args.strip.past c.of-columns.result c.of-columns.ensures c.sorted.result.items (moved g c)
