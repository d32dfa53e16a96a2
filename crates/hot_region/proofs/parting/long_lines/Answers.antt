use Rattle.std.proofs.lemmas.List.Elements.{All-push}
use Rattle.geom.specs.declared.edge.Edge.{Edge}
use Rattle.geom.specs.Limit.{AreInLimit}
use Rattle.hot_region.proofs.parting.long_lines.Goals as goal
use Rattle.hot_region.proofs.parting.long_lines.Goals.{then-k-step+then-is_long+in_ok-push, then-k-step+else-is_long, else-k-step}

pub loop-k-preserved : goal.loop-k-preserved
loop-k-preserved g c = elim c.if-k-step.branch [
  | then-k-step+then-is_long+in_ok-push w ↦
      let line = w.index-lines-k.result in
      rw (w.long-is, w.in_ok-push.ensures.items) (All-push (λ (e : Edge). AreInLimit e.p e.q) c.loop-k.long.items line.edge c.loop-k.invariant line.in_limit)
  | then-k-step+else-is_long w ↦ rw w.long-is c.loop-k.invariant
  | else-k-step w ↦ rw w.long-is c.loop-k.invariant
]
