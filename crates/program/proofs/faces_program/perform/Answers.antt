use Rattle.std.proofs.Common.{◌≡◌, List, ℕ, map, subst, rules, Bor}
use Rattle.program.specs.FacesProgram.{RunsFacesFor}
use Rattle.program.proofs.Choosing.{fitted_faces, fitting_chosen_over}
use Rattle.program.proofs.faces_program.perform.Goals as goal

-- the first run wrote nothing
pub returns-in-Err-Usual : goal.returns-in-Err-Usual
returns-in-Err-Usual g c =
    let same : c.perform_by.new.out ≡ c.args.out.now = search rules in
    let asked = c.args.asked.now in
    let texts = map (λ (t : Bor (List ℕ)). t.now) c.args.layers.now in
    let side = c.fitting_side_over.result in (
      side,
      fitting_chosen_over asked.side texts side c.is_none.result c.is_none.ensures c.if-is_none.true c.fitting_side_over.ensures.side,
      subst (λ out. RunsFacesFor g.O.Sink.state out c.perform_by-in-Err-Usual.new.out asked side texts c.perform_by-in-Err-Usual.result) same c.perform_by-in-Err-Usual.ensures.runs,
      fitted_faces asked.side side texts c.fitting_side_over.ensures.fits asked g.O.Sink.state c.perform_by.new.out c.perform_by-in-Err-Usual.new.out c.perform_by-in-Err-Usual.result c.perform_by-in-Err-Usual.ensures.runs,
    )
