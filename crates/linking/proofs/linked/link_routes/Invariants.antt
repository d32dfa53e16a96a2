use Rattle.std.proofs.Common.{◌≡◌, ◌⊎◌, ◌≤◌}
use Rattle.std.specs.Prelude.{IfSome}
use Rattle.linking.specs.Numbers.{HasOwned}
use Rattle.linking.proofs.RouteLinks.{IsLinkedBelow}
use Rattle.linking.proofs.linked.link_routes.Given as goal

abbrev pub invariant-loop-number : goal.invariant-loop-number
invariant-loop-number g l =
    IsLinkedBelow l.grid g.M.MakesLinks.link_of g.M.MakesLinks.times_of l.segments l.makers l.first l.records l.number l.place l.linking.links.items l.linking.counts.counts.items
    × IfSome l.linking.counts.last (HasOwned l.grid) × ((l.number ≤ l.past) ⊎ (l.number ≡ l.first))
