use Rattle.parts_law.proofs.Bounds.{part_is_bounds}
use Rattle.parts_law.proofs.ClosedApart.{closed_apart}
use Rattle.parts_law.proofs.Parts.{others_are_apart}
use Rattle.parts_law.proofs.parts_are_bounds.Goals as goal

pub returns : goal.returns
returns c = λ cuts from past directed closed others h.
    let apart = closed_apart cuts from past directed closed others h in (
      part_is_bounds directed closed others h.bounds apart,
      part_is_bounds directed others closed h.bounds (others_are_apart directed closed others apart),
    )
