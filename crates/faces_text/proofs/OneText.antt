-- Layers have one text of faces.
use Rattle.std.proofs.Common.{map, sym, ap, ◌∙◌, length}
use Rattle.std.specs.List.{flat_map}
use Rattle.cover_law.proofs.FaceLaws.{faces_are_one}
use Rattle.faces_text.specs.Text.{FacesTextIsOne, rows_text}

pub faces_text_is_one : FacesTextIsOne
faces_text_is_one layers text other h k = h.text_is ∙ ap (rows_text (map (λ features. length features) layers)) (faces_are_one (flat_map (λ features. features) layers) h.rows k.rows h.are_faces k.are_faces) ∙ sym k.text_is
