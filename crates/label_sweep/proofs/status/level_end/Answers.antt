use Rattle.std.proofs.Common.{◌≡◌, ℕ, arith, pos, int_le, true, sym, ◌∙◌, subst}
use Rattle.std.proofs.lemmas.List.{get_or_default}
use Rattle.std.proofs.lemmas.List.Elements.{AllWithin-more}
use Rattle.geom.specs.Determinant.{side}
use Rattle.label_sweep.specs.Slots.{passes}
use Rattle.label_sweep.proofs.status.level_end.Goals as goal

pub loop-end-preserved : goal.loop-end-preserved
loop-end-preserved c =
    let P : ℕ → Type 0 = λ i. passes (λ s. int_le (pos 0) (side s.spoke.one.edge.p s.spoke.one.edge.q c.args.v)) c.args.slots.now i ≡ true in (
      omega arith,
      omega arith,
      AllWithin-more P c.args.chunk.now c.args.from c.loop-end.end c.loop-end.invariant.2 (λ d. subst P (get_or_default c.args.chunk.now c.loop-end.end 0 d c.loop-end-test.true) (sym c.is_from.ensures ∙ c.if-is_from.true)),
    )
