use Rattle.std.proofs.Common.{ℕ, suc, ◌<◌, ◌≤◌, List, ◌++◌, drop, length, sym, arith, subst}
use Rattle.std.specs.declared.vec.Vec.{Vec}
use Rattle.label_sweep.specs.Chunks.{joined, number_of}
use Rattle.label_sweep.proofs.Places.{from_here, from_next, next_filled}
use Rattle.label_sweep.proofs.Slots.{front_inside, lowest_here, lowest_next}
use Rattle.label_sweep.proofs.status.Status.lowest_from.Goals as goal

pub returns-then-place-len : goal.returns-then-place-len
returns-then-place-len g c kept =
    let status = c.args.self.now in
    let chunks = status.chunks.items in
    let here = c.index-chunk.result.now in
    let k : ℕ = c.args.place.chunk in
    let n : ℕ = c.args.place.within in
    let x : ℕ = c.index.result.now in
    let ok = here.ok.0 in
    let inside = front_inside (joined chunks) status.free.items (length status.slots.items) kept.inside in
    let rest : List ℕ = drop (suc n) here.items ++ joined (drop (suc k) chunks) in
    lowest_here status.slots.items (joined chunks) inside (number_of chunks c.args.place) c.slot.result x rest
    (from_here chunks k n here x c.requires.chunk c.index-chunk.ensures (omega (arith, c.if-place-len.true, c.len.ensures, ok)) c.index.ensures) c.slot.ensures.some c.slot.ensures.none

pub returns-then-place-len-2 : goal.returns-then-place-len-2
returns-then-place-len-2 g c kept =
    let status = c.args.self.now in
    let chunks = status.chunks.items in
    let here = c.index-chunk.result.now in
    let next = c.index-then-place-len-2.result.now in
    let k : ℕ = c.args.place.chunk in
    let n : ℕ = c.args.place.within in
    let ok = here.ok.0 in
    let all = status.chunks.ok.0 in
    let P : Vec ℕ g.row.A.Denot → Type 0 = λ v. n ≤ length v.items in
    let more : suc k < length chunks = omega (arith, c.if-place-len-2.true, c.len-else-place-len.ensures, all) in
    let inside = front_inside (joined chunks) status.free.items (length status.slots.items) kept.inside in
    lowest_next status.slots.items (joined chunks) inside (number_of chunks c.args.place) c.first_of.result next.items (joined (drop (suc (suc k)) chunks))
    (from_next chunks k n here next more c.index-chunk.ensures (subst P (sym c.index-chunk.ensures) (c.requires.within here)) (omega (arith, c.if-place-len.false, c.len.ensures, ok)) c.index-then-place-len-2.ensures)
    (next_filled chunks kept.chunked k next more c.index-then-place-len-2.ensures) (rw c.deref.ensures.value at c.first_of.ensures)
