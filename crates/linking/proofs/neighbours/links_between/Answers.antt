use Rattle.std.proofs.Common.{arith}
use Rattle.std.proofs.lemmas.Result.{IfOk-weaker}
use Rattle.linking.specs.Links.{AreNeighbourLinks, layer_link}
use Rattle.linking.proofs.neighbours.links_between.Goals as goal

pub neighbour_links-requires : goal.neighbour_links-requires
neighbour_links-requires g c = record {
  below = c.requires.below;
  apart = c.requires.apart;
  short = let l = c.if-records.false in omega arith;
}

pub returns : goal.returns
returns g c =
    let segments = c.args.segments.now in
    let records = c.args.records.now in
    IfOk-weaker c.neighbour_links.result _ _ (λ v (h : AreNeighbourLinks layer_link segments records v.items). (h, (let l = c.if-records.false in let f = h.few in omega arith))) c.neighbour_links.ensures
