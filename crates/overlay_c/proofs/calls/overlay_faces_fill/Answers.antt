use Rattle.overlay_c.specs.Faces.{AreFacesMade, FailsFaces, texts_in}
use Rattle.overlay_c.proofs.Telling.{fills}
use Rattle.overlay_c.proofs.calls.overlay_faces_fill.Goals as goal

pub returns-clause-fills : goal.returns-clause-fills
returns-clause-fills c = fills (AreFacesMade (record { segments = c.args.segments; ids = c.args.ids }) c.args.side (texts_in c.args.layers.now)) (FailsFaces (record { segments = c.args.segments; ids = c.args.ids }) c.args.side (texts_in c.args.layers.now)) c.faces_text.result c.args.room.now c.fill_with.new.room c.fill_with.result c.faces_text.ensures c.fill_with.ensures.put
