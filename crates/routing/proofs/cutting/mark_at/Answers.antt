use Rattle.std.proofs.lemmas.List.Elements.{Contains-get_or}
use Rattle.routing.proofs.cutting.mark_at.Goals as goal

pub returns : goal.returns
returns c = rw c.index-marks-place.is (Contains-get_or c.args.marks.now c.args.place _ c.requires)
