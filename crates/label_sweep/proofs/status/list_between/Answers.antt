use Rattle.std.proofs.Common.{◌≡◌, ◌≢◌, ◌⊎◌, inl, inr, ℕ, List, ◌++◌, length, ap, ◌∙◌, arith}
use Rattle.std.specs.Prelude.{slice_range}
use Rattle.std.specs.declared.vec.Vec.{Vec}
use Rattle.label_sweep.proofs.Chunks.{listed, listed_all, listed_more}
use Rattle.label_sweep.proofs.status.list_between.Goals as goal
use Rattle.label_sweep.proofs.status.list_between.Goals.{then-number-low, else-number-low, then-number-high, else-number-high}

pub loop-number-preserved : goal.loop-number-preserved
loop-number-preserved g c order far =
    let chunks = c.args.chunks.now in
    let here = c.index-chunks-number.result in
    let low = c.args.low in
    let high = c.args.high in
    let k : ℕ = c.loop-number.number in
    let from : ℕ = c.if-number-low.from in
    let past : ℕ = c.if-number-high.past in
    let len = here.ok.0 in
    let starts : ((k ≡ low.chunk) × (from ≡ low.within)) ⊎ ((k ≢ low.chunk) × (from ≡ 0)) = elim c.if-number-low.branch [ then-number-low w ↦ inl (w.if-number-low.true, w.from-is) | else-number-low w ↦ inr (w.if-number-low.false, w.from-is) ] in
    let ends : ((k ≡ high.chunk) × (past ≡ high.within)) ⊎ ((k ≢ high.chunk) × (past ≡ length here.items)) =
    elim c.if-number-high.branch [ then-number-high w ↦ inl (w.if-number-high.true, w.past-is) | else-number-high w ↦ inr (w.if-number-high.false, (let l = w.len-past.ensures in let e = w.past-is in omega (arith, l, e, len))) ] in
    let so_far : List ℕ = listed (λ (v : Vec ℕ g.row.A.Denot). v.items) chunks low.chunk low.within high.chunk high.within order c.requires.high.chunk c.requires.low.within c.requires.high.within far k in
    c.in_ok-extend_from_slice.ensures.items
    ∙ ap (λ t. t ++ slice_range c.deref.result.now c.min.result past) (c.loop-number.invariant order far)
    ∙ ap (λ t. so_far ++ slice_range t c.min.result past) c.deref.ensures.value
    ∙ ap (λ t. so_far ++ slice_range here.items t past) c.min.ensures
    ∙ listed_more (λ (v : Vec ℕ g.row.A.Denot). v.items) chunks low.chunk low.within high.chunk high.within order c.requires.high.chunk c.requires.low.within c.requires.high.within far k here c.loop-number.auto.number (omega (arith, c.loop-number-test.true)) c.index-chunks-number.is from past starts ends

pub returns : goal.returns
returns g c order far =
    let low = c.args.low in
    let high = c.args.high in
    let end = c.loop-number.auto.number-end (omega (arith, order)) in
    c.loop-number.invariant order far
    ∙ listed_all (λ (v : Vec ℕ g.row.A.Denot). v.items) c.args.chunks.now low.chunk low.within high.chunk high.within order c.requires.high.chunk c.requires.low.within c.requires.high.within far c.loop-number.number (omega (arith, end, c.loop-number-test.false))
