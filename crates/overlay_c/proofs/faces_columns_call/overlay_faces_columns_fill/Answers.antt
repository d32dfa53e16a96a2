use Rattle.overlay_c.specs.FacesColumns.{layers_in, lists_in}
use Rattle.overlay_c.proofs.FacesColumnsTelling.{faces_fill}
use Rattle.overlay_c.proofs.faces_columns_call.overlay_faces_columns_fill.Goals as goal

pub returns-clause-fills : goal.returns-clause-fills
returns-clause-fills c = faces_fill (record { segments = c.args.segments; ids = c.args.ids }) c.args.side (layers_in c.args.layers.now) c.face_columns-made.result
    (lists_in c.args.rooms.now) (lists_in c.fill_face_rooms.new.rooms) c.fill_face_rooms.result c.face_columns-made.ensures c.fill_face_rooms.ensures.put
