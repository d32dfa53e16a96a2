use Rattle.std.proofs.Common.{◌≡◌, ◌∷◌, [], subst, rules}
use Rattle.program.specs.Program.{RunsCoveredFor}
use Rattle.program.proofs.Choosing.{fitted_covered, fitting_chosen_over}
use Rattle.program.proofs.covered_program.perform.Goals as goal

-- the first run wrote nothing
pub returns-in-Err-Usual : goal.returns-in-Err-Usual
returns-in-Err-Usual g c =
    let same : c.perform_by.new.out ≡ c.args.out.now = search rules in
    let asked = c.args.asked.now in
    let side = c.fitting_side_over-side.result in (
      side,
      fitting_chosen_over asked.side (c.args.a.now ∷ c.args.b.now ∷ []) side c.is_none.result c.is_none.ensures c.if-is_none.true c.fitting_side_over-side.ensures.side,
      subst (λ out. RunsCoveredFor g.O.Sink.state out c.perform_by-in-Err-Usual.new.out asked c.args.op side c.args.a.now c.args.b.now c.perform_by-in-Err-Usual.result) same c.perform_by-in-Err-Usual.ensures.runs,
      fitted_covered asked.side side c.args.a.now c.args.b.now c.fitting_side_over-side.ensures.fits asked c.args.op g.O.Sink.state c.perform_by.new.out c.perform_by-in-Err-Usual.new.out c.perform_by-in-Err-Usual.result
          c.perform_by-in-Err-Usual.ensures.runs,
    )
