use Rattle.std.proofs.Common.{◌≡◌, subst, rules}
use Rattle.program.specs.Program.{RunsFor}
use Rattle.program.proofs.Choosing.{fitted, fitting_chosen}
use Rattle.program.proofs.program.perform.Goals as goal

-- the first run wrote nothing
pub returns-in-Err-TooManyTiles : goal.returns-in-Err-TooManyTiles
returns-in-Err-TooManyTiles g c =
    let same : c.perform_by.new.out ≡ c.args.out.now = search rules in (
      c.fitting_side.result,
      fitting_chosen c.args.asked.now.side c.args.a.now c.args.b.now c.fitting_side.result c.is_none.result c.is_none.ensures c.if-is_none.true c.fitting_side.ensures.side,
      subst (λ out. RunsFor g.O.Sink.state out c.perform_by-in-Err-TooManyTiles.new.out c.args.asked.now c.fitting_side.result c.args.a.now c.args.b.now c.perform_by-in-Err-TooManyTiles.result)
          same c.perform_by-in-Err-TooManyTiles.ensures.runs,
      fitted c.args.asked.now.side c.args.asked.now c.fitting_side.result c.args.a.now c.args.b.now c.fitting_side.ensures.fits g.O.Sink.state c.perform_by.new.out c.perform_by-in-Err-TooManyTiles.new.out _ c.perform_by-in-Err-TooManyTiles.result
          c.perform_by-in-Err-TooManyTiles.ensures.runs,
    )
