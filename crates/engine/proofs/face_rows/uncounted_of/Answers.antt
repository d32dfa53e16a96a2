use Rattle.std.proofs.Common.{◌∙◌, ap, map}
use Rattle.std.proofs.lemmas.List.{take_all}
use Rattle.engine.specs.FaceRows.{uncounted}
use Rattle.engine.proofs.face_rows.uncounted_of.Goals as goal

pub returns : goal.returns
returns g c = c.loop-border.invariant ∙ ap (map uncounted) (take_all c.loop-border.border-index c.args.borders.now c.loop-border-test.false)
