use Rattle.std.proofs.Common.{◌≡◌, ◌++◌, All, flat_map}
use Rattle.wkt.specs.Outlines.{IsOutline, IsOutlined}
use Rattle.wkt.proofs.lines.gathered_of_all.Given as goal

-- the outline of the rings so far, and the rest behind them
abbrev pub invariant-loop-next : goal.invariant-loop-next
invariant-loop-next g l =
    IsOutline (flat_map (λ v. v.items) l.lists.items) l.outline × All IsOutlined l.next-iterator.rest.items
    × (flat_map (λ v. v.items) l.lists.items ++ flat_map (λ x. x.1.items) l.next-iterator.rest.items ≡ flat_map (λ x. x.1.items) l.fn.parts.items)
