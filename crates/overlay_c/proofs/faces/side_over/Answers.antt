use Rattle.std.proofs.Common.{ℕ, List, arith, subst}
use Rattle.std.proofs.lemmas.List.{length-map}
use Rattle.engine.specs.Fitting.{IsFittingSideOver}
use Rattle.overlay_c.specs.Faces.{fitting, many_layers}
use Rattle.overlay_c.proofs.faces.side_over.Goals as goal

pub returns-then-layers-gt-MOST_LAYERS : goal.returns-then-layers-gt-MOST_LAYERS
returns-then-layers-gt-MOST_LAYERS c =
    let layers = c.args.layers.now in
    let same = length-map layers (λ l. l.bytes.now) in
    let more = c.if-layers-gt-MOST_LAYERS.true in
    many_layers (omega (arith, same, more))

pub returns : goal.returns
returns c =
    let layers = c.args.layers.now in
    let same = length-map layers (λ l. l.bytes.now) in
    let few = c.if-layers-gt-MOST_LAYERS.false in
    fitting (omega (arith, same, few)) (subst (λ (ts : List (List ℕ)). IsFittingSideOver ts c.fitting_side_over.result) c.texts_of-texts.ensures c.fitting_side_over.ensures.side)
