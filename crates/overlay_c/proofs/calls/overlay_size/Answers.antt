use Rattle.overlay_c.specs.Boundary.{Fails, IsTextOf}
use Rattle.overlay_c.proofs.Telling.{sizes}
use Rattle.overlay_c.proofs.calls.overlay_size.Goals as goal

pub returns : goal.returns
returns c = rw (← c.default.ensures) (sizes (IsTextOf c.default.result.segments c.args.call c.args.side c.args.a.now c.args.b.now) (Fails c.default.result.segments c.args.call c.args.side c.args.a.now c.args.b.now) c.text_of.result c.size_of.result c.text_of.ensures c.size_of.ensures)
