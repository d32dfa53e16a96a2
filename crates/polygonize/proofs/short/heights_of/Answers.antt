use Rattle.std.proofs.Common.{◌≡◌, length, arith}
use Rattle.polygonize.specs.Next.{nothing}
use Rattle.polygonize.proofs.EdgesBelow.Reaching.{all_heights, no_heights, one_height}
use Rattle.polygonize.proofs.short.heights_of.Goals as goal

pub loop-v-init : goal.loop-v-init
loop-v-init g c = rw c.in_ok-heights.ensures.items (no_heights c.args.vertices.now)

pub loop-v-preserved : goal.loop-v-preserved
loop-v-preserved g c =
    let n = c.loop-v.v-index in
    rw c.in_ok-push.ensures.items (one_height c.args.vertices.now n c.loop-v.heights.items (c.requires n nothing.from c.loop-v-test.true).y_in c.loop-v.invariant)

pub returns : goal.returns
returns g c =
    let vertices = c.args.vertices.now in
    let all : c.loop-v.v-index ≡ length vertices = omega arith in
    all_heights vertices c.loop-v.heights.items c.lengthen.new.numbers.items (rw all at c.loop-v.invariant) c.in_ok-lengthen.ensures
