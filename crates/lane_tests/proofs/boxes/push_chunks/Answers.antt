use Rattle.std.proofs.Common.{refl}
use Rattle.lane_tests.proofs.Hits.{gathered_none, gathered_more}
use Rattle.lane_tests.proofs.boxes.push_chunks.Goals as goal

pub loop-chunk-init : goal.loop-chunk-init
loop-chunk-init g c = gathered_none _ _ _

pub loop-chunk-preserved : goal.loop-chunk-preserved
loop-chunk-preserved g c = gathered_more _ _ _ _ _ _ _ _ c.loop-chunk.invariant refl c.note_eight-count.ensures.few c.note_eight-count.ensures.noted
