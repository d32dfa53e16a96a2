use Rattle.std.proofs.Common.{ℕ, ◌<◌, length, sym, arith, subst}
use Rattle.std.specs.declared.vec.Vec.{Vec}
use Rattle.label_sweep.proofs.Places.{split_chunks, split_joined}
use Rattle.label_sweep.proofs.status.split_once.Goals as goal

pub returns-clause-all : goal.returns-clause-all
returns-clause-all g c =
    let ok = c.args.chunks.now.ok.0 in
    let inside : c.args.at < length c.args.chunks.now.items = omega (arith, c.requires.inside, ok) in
    rw c.in_ok-insert.ensures.items
    (split_joined c.args.chunks.now.items c.args.at c.args.keep c.index_mut.result.now c.split_off.new.self c.in_ok-tail.tail inside c.index_mut.ensures.value c.in_ok-tail.ensures.items c.in_ok-tail.ensures.tail)

pub returns-clause-chunked : goal.returns-clause-chunked
returns-clause-chunked g c chunked =
    let ok = c.args.chunks.now.ok.0 in
    let inside : c.args.at < length c.args.chunks.now.items = omega (arith, c.requires.inside, ok) in
    let P : Vec ℕ g.row.A.Denot → Type 0 = λ v. c.args.keep < length v.items in
    rw c.in_ok-insert.ensures.items
    (split_chunks c.args.chunks.now.items c.args.at c.args.keep c.index_mut.result.now c.split_off.new.self c.in_ok-tail.tail chunked inside c.index_mut.ensures.value c.requires.some
    (subst P (sym c.index_mut.ensures.value) (c.requires.others c.index_mut.result.now)) c.in_ok-tail.ensures.items c.in_ok-tail.ensures.tail)
