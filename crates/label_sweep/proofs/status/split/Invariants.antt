use Rattle.std.proofs.Common.{◌≡◌, ◌<◌, length}
use Rattle.label_sweep.specs.Chunks.{AreChunks, joined}
use Rattle.label_sweep.proofs.Chunks.{size_at}
use Rattle.label_sweep.proofs.status.split.Given as goal

-- the same edges, in chunks
abbrev pub invariant-loop-chunks : goal.invariant-loop-chunks
invariant-loop-chunks g l = (l.at < length l.chunks.items) × (AreChunks l.initial.chunks.items → AreChunks l.chunks.items) × (joined l.chunks.items ≡ joined l.initial.chunks.items)

abbrev pub decreases-loop-chunks : goal.decreases-loop-chunks
decreases-loop-chunks g l = size_at (λ c. length c.items) l.chunks.items l.at
