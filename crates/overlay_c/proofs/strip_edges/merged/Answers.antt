use Rattle.overlay_c.specs.Strips.{IsCounted, IsCountedBefore}
use Rattle.overlay_c.proofs.StripLists.{each_item}
use Rattle.overlay_c.proofs.strip_edges.merged.Goals as goal

pub edges_of-requires : goal.edges_of-requires
edges_of-requires c = each_item IsCounted IsCountedBefore c.args.inner.now c.requires.in_place.inner_in

pub edges_of-requires-2 : goal.edges_of-requires-2
edges_of-requires-2 c = each_item IsCounted IsCountedBefore c.args.across.now c.requires.in_place.across_in
