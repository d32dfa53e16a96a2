use Rattle.overlay_c.specs.Faces.{AreFacesMade, FailsFaces, texts_in}
use Rattle.overlay_c.proofs.Telling.{sizes}
use Rattle.overlay_c.proofs.calls.overlay_faces_size.Goals as goal

pub returns : goal.returns
returns c = sizes (AreFacesMade (record { segments = c.args.segments; ids = c.args.ids }) c.args.side (texts_in c.args.layers.now)) (FailsFaces (record { segments = c.args.segments; ids = c.args.ids }) c.args.side (texts_in c.args.layers.now)) c.faces_text.result c.size_of.result c.faces_text.ensures c.size_of.ensures
