use Rattle.std.proofs.Common.{◌≡◌, ◌-◌, ◌++◌, ◌∙◌, ap, arith, drop, length, take}
use Rattle.label_sweep.specs.Chunks.{joined}
use Rattle.label_sweep.proofs.Chunks.{slice_from}
use Rattle.label_sweep.proofs.Places.{overwritten, overwritten_chunks, replaced, replaced_chunks}
use Rattle.label_sweep.proofs.status.replace_between.Goals as goal

pub returns-clause-chunked : goal.returns-clause-chunked
returns-clause-chunked g c chunked low order =
    let chunks = c.args.chunks.now.items in
    c.in_ok-split.ensures.chunked (rw (c.in_ok-drop_chunks.ensures.dropped (omega (arith, order)))
    (replaced_chunks chunks c.args.low c.args.high c.index_mut-2.result.now c.refill.new.chunk c.args.fresh.now c.deref-2.result.now chunked order low c.index_mut-2.ensures.value c.in_ok-refill.ensures))

pub returns-clause-all : goal.returns-clause-all
returns-clause-all g c order =
    let chunks = c.args.chunks.now.items in
    let rest : c.deref-2.result.now ≡ drop c.args.high.within c.index.result.now.items =
    c.deref-2.ensures.value ∙ c.in_ok-extend_from_slice.ensures.items ∙ ap (λ t. t ++ take (length c.deref.result.now - c.args.high.within) (drop c.args.high.within c.deref.result.now)) c.clear.ensures.items
    ∙ slice_from c.args.high.within c.deref.result.now ∙ ap (λ t. drop c.args.high.within t) c.deref.ensures.value in
    c.in_ok-split.ensures.all ∙ ap joined (c.in_ok-drop_chunks.ensures.dropped (omega (arith, order)))
    ∙ replaced chunks c.args.low c.args.high c.index_mut-2.result.now c.index.result.now c.refill.new.chunk c.args.fresh.now c.deref-2.result.now order c.requires.low c.requires.high
    c.index_mut-2.ensures.value c.index.ensures c.in_ok-refill.ensures rest

pub returns-then-is_so_far-clause-all : goal.returns-then-is_so_far-clause-all
returns-then-is_so_far-clause-all g c order =
    overwritten c.args.chunks.now.items c.args.low c.args.high c.index_mut.result.now c.overwrite.new.chunk c.args.fresh.now c.if-low-high.true c.requires.low c.requires.high c.index_mut.ensures.value c.overwrite.ensures

pub returns-then-is_so_far-clause-chunked : goal.returns-then-is_so_far-clause-chunked
returns-then-is_so_far-clause-chunked g c chunked low order =
    overwritten_chunks c.args.chunks.now.items c.args.low c.args.high c.index_mut.result.now c.overwrite.new.chunk c.args.fresh.now chunked c.if-low-high.true low c.index_mut.ensures.value c.overwrite.ensures
