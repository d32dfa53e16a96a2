use Rattle.std.proofs.Common.{◌≡◌, subst, rules}
use Rattle.program.specs.Program.{RunsMeasuredFor}
use Rattle.program.proofs.Choosing.{fitted, fitting_chosen}
use Rattle.program.proofs.measured_program.perform.Goals as goal

-- the first run wrote nothing
pub returns-in-Err-TooManyTiles : goal.returns-in-Err-TooManyTiles
returns-in-Err-TooManyTiles g c =
    let same : c.perform_by.new.out ≡ c.args.out.now = search rules in
    let asked = c.args.asked.now in
    let side = c.fitting_side.result in (
      side,
      fitting_chosen asked.side c.args.a.now c.args.b.now side c.is_none.result c.is_none.ensures c.if-is_none.true c.fitting_side.ensures.side,
      subst (λ out. RunsMeasuredFor g.O.Sink.state out c.perform_by-in-Err-TooManyTiles.new.out asked c.args.op side c.args.a.now c.args.b.now c.perform_by-in-Err-TooManyTiles.result) same
          c.perform_by-in-Err-TooManyTiles.ensures.runs,
      fitted asked.side asked side c.args.a.now c.args.b.now c.fitting_side.ensures.fits g.O.Sink.state c.perform_by.new.out c.perform_by-in-Err-TooManyTiles.new.out _ c.perform_by-in-Err-TooManyTiles.result
          c.perform_by-in-Err-TooManyTiles.ensures.runs,
    )
