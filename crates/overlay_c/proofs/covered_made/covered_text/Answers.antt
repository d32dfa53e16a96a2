use Rattle.std.proofs.Common.{◌∙◌, subst, sym}
use Rattle.std.proofs.Math.Logic.{∥∥₁_map}
use Rattle.overlay_c.specs.declared.answer.OverlayAnswer.{OverlayAnswer}
use Rattle.overlay_c.specs.Covered.{FailsCovered, declined, no_operation}
use Rattle.overlay_c.proofs.Telling.{none_of}
use Rattle.overlay_c.proofs.covered_made.covered_text.Goals as goal

pub returns-in_default : goal.returns-in_default
returns-in_default c =
    subst (λ (w : OverlayAnswer). FailsCovered c.args.limits.segments c.args.call c.args.side c.args.a.now c.args.b.now w) (sym c.plain_answer.ensures)
    (no_operation (sym c.op_of.ensures ∙ none_of c.op_of.result c.in_default.not-Some))

pub returns-in-Ok : goal.returns-in-Ok
returns-in-Ok c =
    let written = c.in-Ok.ensures.answer in
    record {
      op = c.in-Some.op;
      asked = sym c.op_of.ensures ∙ c.in-Some.is;
      features_a = written.features_a;
      features_b = written.features_b;
      grid = written.grid;
      ready = written.ready;
      result = ∥∥₁_map written.result (λ told. told.of);
    }

pub returns : goal.returns
returns c =
    subst (λ (w : OverlayAnswer). FailsCovered c.args.limits.segments c.args.call c.args.side c.args.a.now c.args.b.now w) (sym c.answer_of_faces.ensures)
    (declined c.in-Some.op (sym c.op_of.ensures ∙ c.in-Some.is) c.in-Err.fault c.in-Err.ensures.answer)
