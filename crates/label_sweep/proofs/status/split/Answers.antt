use Rattle.std.proofs.Common.{ℕ, length, ap, arith}
use Rattle.std.specs.declared.vec.Vec.{Vec}
use Rattle.label_sweep.proofs.Chunks.{size_is}
use Rattle.label_sweep.proofs.status.split.Goals as goal

pub loop-chunks-smaller : goal.loop-chunks-smaller
loop-chunks-smaller g c =
    let n : Vec ℕ g.row.A.Denot → ℕ = λ v. length v.items in
    let d = c.index-in-loop-chunks.result.now in
    let e = c.index.result.now in
    let a = size_is n c.loop-chunks.chunks.items c.args.at d c.loop-chunks.invariant.0 in
    let b = size_is n c.loop-chunks.chunks.items c.args.at e c.loop-chunks.invariant.0 in
    let i = ap n c.index-in-loop-chunks.ensures in
    let j = ap n c.index.ensures in
    let x = d.ok.0 in
    let y = e.ok.0 in
    let z = c.split_once.new.chunks.ok.0 in
    let k = size_is n c.split_once.new.chunks.items c.args.at d (omega (arith, c.in_ok-split_once.ensures.inside, z)) in
    let m = c.in_ok-split_once.ensures.kept d in
    omega (arith, a, b, i, j, k, m, x, y, c.len.ensures, c.len-keep.ensures, c.loop-chunks-test.true)
