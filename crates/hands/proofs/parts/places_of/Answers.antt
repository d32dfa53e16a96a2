use Rattle.std.proofs.Common.{◌∙◌, ◌++◌, [], ◌∷◌, ap, sym, take, arith}
use Rattle.std.proofs.lemmas.List.{take_more}
use Rattle.std.specs.Prelude.{Some, None}
use Rattle.hands.specs.Idle.{with_idle}
use Rattle.hands.proofs.Answering.{no_places, one_more_place, two_more}
use Rattle.hands.proofs.parts.places_of.Goals as goal

pub loop-part-init : goal.loop-part-init
loop-part-init g c = c.in_ok-places.ensures.items ∙ sym no_places

pub loop-part-preserved : goal.loop-part-preserved
loop-part-preserved g c =
    let front = take_more c.args.parts.now c.loop-part.part-index c.part-item.result (omega arith) ∙ ap (λ p. take c.loop-part.part-index c.args.parts.now ++ p ∷ []) (sym c.part-item.is) in
    c.in_ok-push-2.ensures.items ∙ ap (λ l. l ++ None ∷ []) (c.in_ok-push.ensures.items ∙ ap (λ l. l ++ Some c.part-item.result ∷ []) c.loop-part.invariant) ∙ two_more _ _ ∙ sym (ap with_idle front ∙ one_more_place _ _)
