use Rattle.overlay_c.specs.Covered.{FailsCovered, IsCoveredMade}
use Rattle.overlay_c.proofs.Telling.{fills}
use Rattle.overlay_c.proofs.calls.overlay_covered_fill.Goals as goal

pub returns-clause-fills : goal.returns-clause-fills
returns-clause-fills c = fills (IsCoveredMade c.args.segments c.args.call c.args.side c.args.a.now c.args.b.now) (FailsCovered c.args.segments c.args.call c.args.side c.args.a.now c.args.b.now) c.covered_text.result c.args.room.now c.fill_with.new.room c.fill_with.result c.covered_text.ensures c.fill_with.ensures.put
