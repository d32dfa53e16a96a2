use Rattle.std.proofs.Common.{◌∙◌, ℕ, List, ap, arith, subst, sym}
use Rattle.std.proofs.lemmas.List.{length-map}
use Rattle.engine.specs.Faces.{AreFacesWritten, DeclinesFaces}
use Rattle.engine.specs.Runs.{alone}
use Rattle.overlay_c.specs.declared.answer.OverlayAnswer.{OverlayAnswer}
use Rattle.overlay_c.specs.Faces.{FailsFaces, declined, faces_answer, many_layers, texts_in}
use Rattle.overlay_c.proofs.FacesTelling.{faces_made}
use Rattle.overlay_c.proofs.faces.faces_text.Goals as goal

pub returns-then-layers-gt-MOST_LAYERS : goal.returns-then-layers-gt-MOST_LAYERS
returns-then-layers-gt-MOST_LAYERS c =
    let layers = c.args.layers.now in
    let same = length-map layers (λ l. l.bytes.now) in
    let more = c.if-layers-gt-MOST_LAYERS.true in
    subst (λ (w : OverlayAnswer). FailsFaces c.args.limits c.args.side (texts_in layers) w) (sym c.plain_answer.ensures) (many_layers (omega (arith, same, more)))

pub returns-in-Ok : goal.returns-in-Ok
returns-in-Ok c =
    let made = c.in-Ok.field-0 in
    faces_made c.args.limits c.args.side (texts_in c.args.layers.now) made.text.items made.report
    (subst (λ (ts : List (List ℕ)). AreFacesWritten c.args.limits (alone c.args.side) ts made.text.items made.report) c.texts_of-texts.ensures c.in-Ok.ensures.answer)

pub returns : goal.returns
returns c =
    let layers = c.args.layers.now in
    let f = c.in-Err.fault in
    let same = length-map layers (λ l. l.bytes.now) in
    let few = c.if-layers-gt-MOST_LAYERS.false in
    subst (λ (w : OverlayAnswer). FailsFaces c.args.limits c.args.side (texts_in layers) w) (sym (c.answer_of_faces.ensures ∙ ap (λ (n : ℕ). faces_answer n f) (sym same)))
    (declined f (omega (arith, same, few)) (subst (λ (ts : List (List ℕ)). DeclinesFaces c.args.limits (alone c.args.side) ts f.at f.refusal) c.texts_of-texts.ensures c.in-Err.ensures.answer))
