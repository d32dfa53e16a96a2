use Rattle.std.proofs.Common.{get_or, rules, sym, ap, ◌∙◌}
use Rattle.std.proofs.lemmas.List.{get_or_default}
use Rattle.std.proofs.lemmas.List.Sorted.{IsPartitionPoint-from_clause}
use Rattle.cover_law.specs.declared.border.Border.{Border}
use Rattle.geom.proofs.Orders.{same_edge_true}
use Rattle.cover_sets.proofs.Searches.{answer_is, found_edge, found_within, is_less, parted}
use Rattle.cover_sets.proofs.edge_covers.number_of.Goals as goal

pub returns-then-eq-clause-edge : goal.returns-then-eq-clause-edge
returns-then-eq-clause-edge g c d =
    let bs = c.args.borders.now in
    let b = c.index-borders-guess.result in
    ap (λ (x : Border). x.edge) (get_or_default bs c.guess-guess.result d b c.if-guess-borders.true)
    ∙ same_edge_true (get_or bs c.guess-guess.result b).edge c.args.edge (sym c.eq.ensures ∙ c.if-eq.true)

pub returns-clause-within : goal.returns-clause-within
returns-clause-within g c =
    let point = IsPartitionPoint-from_clause (λ (b : Border). is_less b.edge c.args.edge) c.args.borders.now c.partition_point.result c.partition_point.ensures.partitioned
    (parted c.args.borders.now c.requires.ascending c.args.edge) (λ a r f k. (answer_is a.0.now.edge c.args.edge r (search rules) (search rules), search rules)) in
    found_within c.args.borders.now c.requires.ascending c.args.edge c.requires.there c.partition_point.result point.0 point.1

pub returns-clause-edge : goal.returns-clause-edge
returns-clause-edge g c =
    let point = IsPartitionPoint-from_clause (λ (b : Border). is_less b.edge c.args.edge) c.args.borders.now c.partition_point.result c.partition_point.ensures.partitioned
    (parted c.args.borders.now c.requires.ascending c.args.edge) (λ a r f k. (answer_is a.0.now.edge c.args.edge r (search rules) (search rules), search rules)) in
    found_edge c.args.borders.now c.requires.ascending c.args.edge c.requires.there c.partition_point.result point.0 point.1
