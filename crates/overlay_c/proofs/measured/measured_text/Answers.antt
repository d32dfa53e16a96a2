use Rattle.std.proofs.Common.{◌∙◌, subst, sym}
use Rattle.overlay_c.specs.declared.answer.OverlayAnswer.{OverlayAnswer}
use Rattle.overlay_c.specs.Measured.{FailsMeasured, declined, no_operation}
use Rattle.overlay_c.proofs.Telling.{none_of}
use Rattle.overlay_c.proofs.measured.measured_text.Goals as goal

pub returns-in_default : goal.returns-in_default
returns-in_default c = (
  subst (λ (w : OverlayAnswer). FailsMeasured c.args.limits.segments c.args.call c.args.side c.args.a.now c.args.b.now w) (sym c.plain_answer.ensures)
      (no_operation (sym c.op_of.ensures ∙ none_of c.op_of.result c.in_default.not-Some)),
  c.nothing_measured.ensures,
)

pub returns-in-Ok : goal.returns-in-Ok
returns-in-Ok c =
    let measured = c.in-Ok.ensures.answer in
    let written = measured.written in
    record {
      op = c.in-Some.op;
      asked = sym c.op_of.ensures ∙ c.in-Some.is;
      may = (written.reports.rings_a, written.reports.rings_b, written.reports.grid, written.reports.ready);
      segments = written.reports.rounded.segments;
      are_segments = written.reports.rounded.are_segments;
      counted = written.counted;
      rounded = written.reports.rounded.rounded;
      result = written.result;
      measures = c.in-Ok.made.measures;
      layers = measured.layers;
      area = measured.area;
      told_is = c.told_of.ensures;
    }

pub returns-in-Err : goal.returns-in-Err
returns-in-Err c = (
  subst (λ (w : OverlayAnswer). FailsMeasured c.args.limits.segments c.args.call c.args.side c.args.a.now c.args.b.now w) (sym c.answer_of.ensures)
      (declined c.in-Some.op (sym c.op_of.ensures ∙ c.in-Some.is) c.in-Err.fault.at c.in-Err.fault.fault c.in-Err.ensures.answer),
  c.nothing_measured.ensures,
)
