use Rattle.std.proofs.Common.{get_or}
use Rattle.std.specs.List.{Contains}
use Rattle.std.proofs.lemmas.List.Elements.{AllWithin-more, at_read}
use Rattle.geom.specs.declared.edge.Counted.{Counted}
use Rattle.label_sweep.proofs.Ends.{firsts_more}
use Rattle.label_sweep.proofs.vertices.first_ends.Goals as goal

pub loop-one-preserved : goal.loop-one-preserved
loop-one-preserved g c =
    let cs = c.args.counted.now in
    let n = c.loop-one.one-index in
    let one = c.one-item.result in
    let more = c.add_first_end.new.ends.items in
    let e = c.in_ok-add_first_end.ensures in
    let P : Counted → Type 0 = λ t. Contains more t.edge.p in (
      AllWithin-more P cs 0 n (λ k d l m. e.kept (get_or cs k d).edge.p (c.loop-one.invariant.0 k d l m)) (at_read cs P n one c.loop-one-test.true c.one-item.is e.added),
      firsts_more cs c.loop-one.ends.items more n one c.loop-one-test.true c.one-item.is c.loop-one.invariant.1 e.only,
    )
