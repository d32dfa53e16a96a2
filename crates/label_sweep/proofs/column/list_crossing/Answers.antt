use Rattle.std.proofs.Common.{w32, to_z, of_z, to_z-of_z, ◌++◌, [], ◌∷◌, cond, List, take, sym, ap, ◌∙◌}
use Rattle.std.specs.List.{filter}
use Rattle.std.proofs.Math.IntN.{ℤ}
use Rattle.std.proofs.lemmas.List.{take_all}
use Rattle.std.proofs.lemmas.List.Elements.{All-contains, filter_more}
use Rattle.geom.specs.declared.edge.Counted.{Counted}
use Rattle.geom.specs.Limit.{AreInLimit}
use Rattle.geom.specs.Rounded.{edges_of}
use Rattle.geom.proofs.Lists.{contains_in, in_contains, map_in}
use Rattle.label_sweep.specs.Heights.{crosses}
use Rattle.label_sweep.proofs.column.list_crossing.Goals as goal

pub add_crossing-requires : goal.add_crossing-requires
add_crossing-requires g c =
    let cs = c.args.counted.now in
    let one = c.one-item.result in
    record {
      in_limit = All-contains (λ f. AreInLimit f.p f.q) (edges_of cs) one.edge c.requires
          (in_contains (edges_of cs) one.edge (map_in (λ c. c.edge) cs one (contains_in cs one (c.loop-one.one-index, c.loop-one-test.true, sym c.one-item.is))));
    }

pub loop-one-preserved : goal.loop-one-preserved
loop-one-preserved g c =
    let cs = c.args.counted.now in
    let n = c.loop-one.one-index in
    let one = c.one-item.result in
    let border : ℤ = to_z w32 (of_z w32 c.args.border) in
    let more = c.in_ok-add_crossing.ensures in (
      more.added ∙ ap (λ (t : List Counted). t ++ cond (crosses border one) (one ∷ []) []) c.loop-one.invariant.0
          ∙ ap (λ (t : Counted). filter (crosses border) (take n cs) ++ cond (crosses border t) (t ∷ []) []) c.one-item.is
          ∙ sym (filter_more (crosses border) cs n one c.loop-one-test.true),
      more.measured c.loop-one.invariant.1,
    )

pub returns-clause-listed : goal.returns-clause-listed
returns-clause-listed g c =
    let cs = c.args.counted.now in
    c.loop-one.invariant.0 ∙ ap (filter (crosses (to_z w32 (of_z w32 c.args.border)))) (take_all c.loop-one.one-index cs c.loop-one-test.false)
    ∙ ap (λ (t : ℤ). filter (crosses t) cs) (to_z-of_z c.ranges.border)
