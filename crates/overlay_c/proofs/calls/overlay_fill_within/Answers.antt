use Rattle.overlay_c.specs.Boundary.{Fails, IsTextOf}
use Rattle.overlay_c.proofs.Telling.{fills}
use Rattle.overlay_c.proofs.calls.overlay_fill_within.Goals as goal

pub returns-clause-fills : goal.returns-clause-fills
returns-clause-fills c = fills (IsTextOf c.args.segments c.args.call c.args.side c.args.a.now c.args.b.now) (Fails c.args.segments c.args.call c.args.side c.args.a.now c.args.b.now) c.text_of.result c.args.room.now c.fill_with.new.room c.fill_with.result c.text_of.ensures c.fill_with.ensures.put
