use Rattle.std.proofs.Common.{◌≡◌, ◌∙◌, ap, inr, sym}
use Rattle.layers.specs.Refusals.{text_limit}
use Rattle.program.specs.Program.{limit_of}
use Rattle.program.proofs.AskedReading.{done_as_covered, done_by_parity}
use Rattle.program.proofs.program.answer.Goals as goal

pub returns-in-Some : goal.returns-in-Some
returns-in-Some g c =
    let longest : c.text_limit-longest.result ≡ text_limit (limit_of c.args.asked.now.segments) = c.text_limit-longest.ensures ∙ ap text_limit c.limits_of.ensures in
    inr (
      c.deref.result.now,
      c.load.new.self,
      rw (c.deref.ensures.value, ← longest) c.in-Ok.ensures.loaded,
      inr (
        c.deref-in-Some.result.now,
        rw (c.deref-in-Some.ensures.value, ← longest) c.in-Ok-load.ensures.loaded,
        done_as_covered g.O.Sink.state g.E.Sink.state c.args.out.now c.answer_covered.new.out c.args.err.now c.answer_covered.new.err c.args.asked.now
            c.deref.result.now c.deref-in-Some.result.now c.in-Some.op c.answer_covered.result
            (sym c.operation_covered.ensures ∙ c.in-Some.is) c.answer_covered.ensures,
      ),
    )

pub returns : goal.returns
returns g c =
    let longest : c.text_limit-longest.result ≡ text_limit (limit_of c.args.asked.now.segments) = c.text_limit-longest.ensures ∙ ap text_limit c.limits_of.ensures in
    inr (
      c.deref-in-None.result.now,
      c.load.new.self,
      rw (c.deref-in-None.ensures.value, ← longest) c.in-Ok.ensures.loaded,
      inr (
        c.deref-in-None-2.result.now,
        rw (c.deref-in-None-2.ensures.value, ← longest) c.in-Ok-load.ensures.loaded,
        done_by_parity g.O.Sink.state g.E.Sink.state c.args.out.now c.answer_by_parity.new.out c.args.err.now c.answer_by_parity.new.err c.args.asked.now
            c.deref-in-None.result.now c.deref-in-None-2.result.now c.answer_by_parity.result
            (sym c.operation_covered.ensures ∙ c.in-None.is) c.answer_by_parity.ensures,
      ),
    )
