use Rattle.std.proofs.Common.{◌∙◌}
use Rattle.std.proofs.lemmas.Result.{IfOk-weaker}
use Rattle.face_label.specs.Strip.{StripedLayers}
use Rattle.face_label.proofs.Sets.{all_set_ways, none_ways}
use Rattle.face_label.proofs.label.labelled.Goals as goal

pub returns-in-None : goal.returns-in-None
returns-in-None g c = c.new.ensures.items ∙ none_ways c.args.op c.args.counted.now c.args.strips.now c.in-None.ensures c.requires

pub returns-in-Some : goal.returns-in-Some
returns-in-Some g c =
    let s : StripedLayers = record { a = c.in-Some.layers.now.a; b = c.in-Some.layers.now.b } in
    IfOk-weaker c.by_strips.result _ _ (λ all h. h ∙ all_set_ways c.args.op c.args.counted.now c.args.strips.now s c.in-Some.ensures c.requires) c.by_strips.ensures
