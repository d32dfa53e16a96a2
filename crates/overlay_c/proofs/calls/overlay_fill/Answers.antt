use Rattle.overlay_c.specs.Boundary.{Fails, IsTextOf}
use Rattle.overlay_c.proofs.Telling.{fills}
use Rattle.overlay_c.proofs.calls.overlay_fill.Goals as goal

pub returns-clause-fills : goal.returns-clause-fills
returns-clause-fills c = rw (← c.default.ensures) (fills (IsTextOf c.default.result.segments c.args.call c.args.side c.args.a.now c.args.b.now) (Fails c.default.result.segments c.args.call c.args.side c.args.a.now c.args.b.now) c.text_of.result c.args.room.now c.fill_with.new.room c.fill_with.result c.text_of.ensures c.fill_with.ensures.put)
