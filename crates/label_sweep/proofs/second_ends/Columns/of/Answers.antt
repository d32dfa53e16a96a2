use Rattle.std.proofs.Common.{◌≡◌, rules}
use Rattle.std.specs.Prelude.{IsSomeAnd, MatchOption, None}
use Rattle.std.proofs.lemmas.Int.{to_z-of_z}
use Rattle.label_sweep.proofs.StripEnds.{BeginsAt, columns_are, next_is}
use Rattle.label_sweep.proofs.second_ends.Columns.of.Goals as goal

pub returns : goal.returns
returns c =
    let cs = c.args.counted.now in
    let past = c.args.strip.past in
    let mapped : MatchOption c.get.result (c.map.result ≡ None) (λ x. IsSomeAnd c.map.result (λ z. z ≡ x.now.edge.p.x)) = search rules in
    let first : BeginsAt cs c.args.strip.from _ = record { within = c.requires; one = c.index-counted-strip.result; at = c.index-counted-strip.is; column = search (rules, to_z-of_z) } in
    columns_are cs c.args.strip.from past _ first (next_is cs past c.get.result c.map.result c.get.ensures.lookup.3 mapped)
