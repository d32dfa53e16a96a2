use Rattle.std.proofs.Common.{◌≡◌, ◌++◌, flat_map}
use Rattle.distinct.proofs.in_parts.parted.Given as goal

-- the lists so far, and those of the rest behind them
abbrev pub invariant-loop-part : goal.invariant-loop-part
invariant-loop-part g l =
    (flat_map (λ v. v.items) l.kept.items ++ flat_map (λ d. d.segments.items) l.part-iterator.rest.items ≡ flat_map (λ d. d.segments.items) l.fn.found.items)
    × (flat_map (λ v. v.items) l.counts.items ++ flat_map (λ d. d.copies.items) l.part-iterator.rest.items ≡ flat_map (λ d. d.copies.items) l.fn.found.items)
