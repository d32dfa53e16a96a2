use Rattle.std.proofs.Common.{◌≡◌, ◌++◌, flat_map, map}
use Rattle.linking.proofs.linked.parted.Given as goal

-- the lists so far, and those of the rest behind them
abbrev pub invariant-loop-linked : goal.invariant-loop-linked
invariant-loop-linked g l =
    (flat_map (λ v. v.items.items) l.lists.items ++ flat_map (λ f. f.links.items.items) l.linked-iterator.rest.items ≡ flat_map (λ f. f.links.items.items) l.fn.found.items)
    × (map (λ v. v.items) l.counts.items ++ map (λ f. f.records.items) l.linked-iterator.rest.items ≡ map (λ f. f.records.items) l.fn.found.items)
