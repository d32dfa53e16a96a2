use Rattle.std.proofs.Common.{◌∙◌, ap, sym}
use Rattle.std.proofs.lemmas.Bool.{false≢true}
use Rattle.strip_polygons.proofs.InTurn.{all_met, next_met, next_not_met}
use Rattle.strip_polygons.proofs.in_turn.known_of.Goals as goal
use Rattle.strip_polygons.proofs.in_turn.known_of.Goals.{then-begins_in+in_ok-push, else-begins_in}

pub loop-d-preserved : goal.loop-d-preserved
loop-d-preserved g c =
    elim c.if-begins_in.branch [
      | then-begins_in+in_ok-push w ↦
          next_met c.args.cuts.now c.args.strip c.args.waiting.items c.args.directed.now c.loop-d.known.items c.if-begins_in.known.items c.loop-d.d-index _
          c.loop-d-test.true (ap (λ v. v.items) w.known-is ∙ w.in_ok-push.ensures.items) c.loop-d.invariant
          (c.begins_in.ensures.0 w.if-begins_in.true)
      | else-begins_in w ↦
          next_not_met c.args.cuts.now c.args.strip c.args.waiting.items c.args.directed.now c.loop-d.known.items c.if-begins_in.known.items c.loop-d.d-index _
          c.loop-d-test.true (ap (λ v. v.items) w.known-is) c.loop-d.invariant
          (λ b. false≢true (sym w.if-begins_in.false ∙ c.begins_in.ensures.1 b))
    ]

pub returns : goal.returns
returns g c = all_met c.args.cuts.now c.args.strip c.args.waiting.items c.args.directed.now c.loop-d.known.items c.in_order.result.items c.loop-d.d-index
    c.loop-d-test.false c.loop-d.invariant c.in_order.ensures.ascending c.in_order.ensures.same
