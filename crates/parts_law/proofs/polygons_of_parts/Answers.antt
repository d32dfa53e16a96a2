use Rattle.parts_law.proofs.ClosedApart.{closed_apart}
use Rattle.parts_law.proofs.Polygons.{polygons_together}
use Rattle.parts_law.proofs.polygons_of_parts.Goals as goal

pub returns : goal.returns
returns c = λ cuts from past directed closed others h.
    polygons_together directed closed others h.bounds (closed_apart cuts from past directed closed others h)
