use Rattle.std.proofs.Common.{◌≡◌, ◌+◌, get_or, length}
use Rattle.std.specs.Prelude.{IfSome}
use Rattle.grid.specs.Tiles.{tile_count}
use Rattle.linking.specs.Ends.{record_of, route_of}
use Rattle.linking.specs.Numbers.{HasOwned}
use Rattle.linking.proofs.RouteLinks.{IsLinkedTo}
use Rattle.linking.proofs.linked.add_route.Given as goal

abbrev pub invariant-loop-record : goal.invariant-loop-record
invariant-loop-record g l =
    (l.last ≡ (get_or (route_of l.number l.s l.inner) l.record-index (record_of l.number l.s l.s.a)).pixel)
    × (length l.linking.counts.counts.items ≡ tile_count l.grid) × IfSome l.linking.counts.last (HasOwned l.grid)
    × IsLinkedTo l.grid g.M.MakesLinks.link_of g.M.MakesLinks.times_of l.makers l.number l.s l.inner (l.record-index + 1) l.fn.linking.links.items l.fn.linking.counts.counts.items l.linking.links.items l.linking.counts.counts.items
