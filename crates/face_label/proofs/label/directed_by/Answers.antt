use Rattle.std.proofs.Common.{◌≡◌, ◌∙◌, ap}
use Rattle.geom.specs.Label.{ways_of}
use Rattle.geom.proofs.Listing.{are_directed, labels_of, result_edges}
use Rattle.geom.proofs.Orders.{directed_once}
use Rattle.face_label.proofs.label.directed_by.Goals as goal

pub new-requires : goal.new-requires
new-requires g c =
    let e : c.in_ok-edges.edges.items ≡ ways_of c.args.counted.now (labels_of c.args.op c.args.counted.now c.args.counted.now) =
    c.in_ok-edges.ensures ∙ ap (ways_of c.args.counted.now) (c.deref.ensures.value ∙ c.in_ok-labels.ensures) in
    are_directed c.args.op c.args.counted.now c.dedup.new.self.items (result_edges c.args.op c.args.counted.now c.dedup.new.self.items
    (rw e at (directed_once c.in_ok-edges.edges.items c.sort_unstable.new.self.items c.dedup.new.self.items c.sort_unstable.ensures.permutation c.sort_unstable.ensures.sorted c.dedup.ensures.filtered)))

pub returns : goal.returns
returns g c =
    let e : c.in_ok-edges.edges.items ≡ ways_of c.args.counted.now (labels_of c.args.op c.args.counted.now c.args.counted.now) =
    c.in_ok-edges.ensures ∙ ap (ways_of c.args.counted.now) (c.deref.ensures.value ∙ c.in_ok-labels.ensures) in
    rw c.new.ensures (result_edges c.args.op c.args.counted.now c.dedup.new.self.items
    (rw e at (directed_once c.in_ok-edges.edges.items c.sort_unstable.new.self.items c.dedup.new.self.items c.sort_unstable.ensures.permutation c.sort_unstable.ensures.sorted c.dedup.ensures.filtered)))
