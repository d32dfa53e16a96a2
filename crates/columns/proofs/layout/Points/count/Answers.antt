use Rattle.std.proofs.Common.{◌≡◌, arith, length, sym}
use Rattle.columns.proofs.PointColumns.{as_many, pairs_few, paired_all}
use Rattle.columns.proofs.layout.Points.count.Goals as goal

pub returns-in-Interleaved : goal.returns-in-Interleaved
returns-in-Interleaved c =
    let cs = c.in-Interleaved.coordinates.now in
    let few = pairs_few cs in
    let low = few.0 in
    let high = few.1 in
    rw c.in-Interleaved.is (omega (arith, low, high))

pub returns-in-Separate : goal.returns-in-Separate
returns-in-Separate c =
    let same : length c.in-Separate.x.now ≡ length c.in-Separate.y.now = as_many (length c.in-Separate.x.now) (length c.in-Separate.y.now) (rw c.in-Separate.is at c.requires) in
    rw c.in-Separate.is (sym (paired_all c.in-Separate.x.now c.in-Separate.y.now same))
