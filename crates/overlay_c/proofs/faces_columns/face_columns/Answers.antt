use Rattle.std.proofs.Common.{◌∙◌, ℕ, List, ap, arith, subst, sym}
use Rattle.std.proofs.lemmas.List.{length-map}
use Rattle.columns.specs.declared.layout.Columns.{Columns}
use Rattle.engine.specs.FaceColumns.{AreFaceColumnsMade, DeclinesFaceColumns}
use Rattle.engine.specs.Runs.{alone}
use Rattle.overlay_c.specs.declared.faces_answer.OverlayFacesAnswer.{OverlayFacesAnswer}
use Rattle.overlay_c.specs.Columns.{columns_in}
use Rattle.overlay_c.specs.FacesColumns.{FailsFaceColumns, declined, face_refusal, layers_in, many_layers}
use Rattle.overlay_c.proofs.FacesColumnsTelling.{are_columns}
use Rattle.overlay_c.proofs.faces_columns.face_columns.Goals as goal

pub returns-then-layers-gt-MOST_LAYERS : goal.returns-then-layers-gt-MOST_LAYERS
returns-then-layers-gt-MOST_LAYERS c =
    let layers = c.args.layers.now in
    let same = length-map layers columns_in in
    let more = c.if-layers-gt-MOST_LAYERS.true in
    subst (λ (w : OverlayFacesAnswer). FailsFaceColumns c.args.limits c.args.side (layers_in layers) w) (sym c.no_faces.ensures) (many_layers (omega (arith, same, more)))

pub returns-in-Ok : goal.returns-in-Ok
returns-in-Ok c =
    let made = c.in-Ok.field-0 in
    are_columns c.args.limits c.args.side (layers_in c.args.layers.now) made.columns made.report
    (subst (λ (ls : List Columns). AreFaceColumnsMade c.args.limits (alone c.args.side) ls made.columns made.report) c.columns_of_layers-all.ensures c.in-Ok.ensures.answer)

pub returns : goal.returns
returns c =
    let layers = c.args.layers.now in
    let refused = c.in-Err.refused in
    let same = length-map layers columns_in in
    let few = c.if-layers-gt-MOST_LAYERS.false in
    subst (λ (w : OverlayFacesAnswer). FailsFaceColumns c.args.limits c.args.side (layers_in layers) w)
    (sym (c.answer_of_face_columns.ensures ∙ ap (λ (n : ℕ). face_refusal n refused) (sym same)))
    (declined refused (omega (arith, same, few)) (subst (λ (ls : List Columns). DeclinesFaceColumns c.args.limits (alone c.args.side) ls refused) c.columns_of_layers-all.ensures c.in-Err.ensures.answer))
