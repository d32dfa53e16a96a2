use Rattle.std.proofs.Common.{◌∙◌}
use Rattle.face_label.proofs.Sets.{set_ways}
use Rattle.face_label.proofs.odd.directions.Goals as goal

pub returns-in-Some : goal.returns-in-Some
returns-in-Some g c = λ counted h i. c.directions_in.ensures ∙ set_ways c.args.op c.args.strips.now (record { a = c.in-Some.layers.now.a; b = c.in-Some.layers.now.b }) counted c.args.edge c.in-Some.ensures h i
