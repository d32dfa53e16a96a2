use Rattle.routing.proofs.CuttingLaws.{cut_itself}
use Rattle.routing.proofs.by_line.portions_of.Goals as goal

pub cut_at-requires : goal.cut_at-requires
cut_at-requires g c = λ m k. rw c.deref-then-not-is_empty.ensures.value (rw c.deref.ensures.value at (c.in_ok-marks.ensures m (rw c.deref-then-not-is_empty-2.ensures.value at k)))

pub returns : goal.returns
returns g c = cut_itself c.args.table.items
