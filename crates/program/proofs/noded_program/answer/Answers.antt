use Rattle.std.proofs.Common.{inr}
use Rattle.program.proofs.noded_program.answer.Goals as goal

pub returns : goal.returns
returns g c =
    inr (
      c.deref.result.now,
      c.test_text.result,
      rw (c.deref.ensures.value) c.in-Ok.ensures.loaded,
      c.test_text.ensures,
      c.tell_tested.ensures,
    )
