use Rattle.std.proofs.Common.{◌∙◌, sym}
use Rattle.program.proofs.AskedReading.{done_with_areas, done_without_areas}
use Rattle.program.proofs.program.answer_by_parity.Goals as goal

pub returns-in-Some : goal.returns-in-Some
returns-in-Some g c =
    done_with_areas g.O.Sink.state g.E.Sink.state c.args.out.now c.answer_measured.new.out c.args.err.now c.answer_measured.new.err c.args.asked.now c.args.a.now c.args.b.now c.in-Some.op c.answer_measured.result
    (sym c.operation_measured.ensures ∙ c.in-Some.is) c.answer_measured.ensures

pub returns-in-None : goal.returns-in-None
returns-in-None g c =
    done_without_areas g.O.Sink.state g.E.Sink.state c.args.out.now c.answer_unmeasured.new.out c.args.err.now c.answer_unmeasured.new.err c.args.asked.now c.args.a.now c.args.b.now c.answer_unmeasured.result
    (sym c.operation_measured.ensures ∙ c.in-None.is) c.answer_unmeasured.ensures
