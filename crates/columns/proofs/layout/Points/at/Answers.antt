use Rattle.std.proofs.Common.{◌∙◌, sym}
use Rattle.columns.proofs.PointColumns.{both, pair_at, paired_at}
use Rattle.columns.proofs.layout.Points.at.Goals as goal

pub pair_at-requires : goal.pair_at-requires
pair_at-requires c = rw c.in-Interleaved.is at c.requires

pub paired_at-requires : goal.paired_at-requires
paired_at-requires c = rw c.in-Separate.is at c.requires

pub returns-in-Interleaved : goal.returns-in-Interleaved
returns-in-Interleaved c = λ other. rw c.in-Interleaved.is
    (both c.pair_at.result _ _ c.pair_at.ensures.x c.pair_at.ensures.y ∙ sym (pair_at c.in-Interleaved.coordinates.now c.args.number other (rw c.in-Interleaved.is at c.requires)))

pub returns-in-Separate : goal.returns-in-Separate
returns-in-Separate c = λ other. rw c.in-Separate.is
    (both c.paired_at.result _ _ c.paired_at.ensures.x c.paired_at.ensures.y ∙ sym (paired_at c.in-Separate.x.now c.in-Separate.y.now c.args.number other (rw c.in-Separate.is at c.requires)))
