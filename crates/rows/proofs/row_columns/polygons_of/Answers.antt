use Rattle.std.proofs.Common.{arith}
use Rattle.std.proofs.lemmas.List.{nil_from_length}
use Rattle.rows.proofs.Behind.{all_shaped, next_shaped}
use Rattle.rows.proofs.row_columns.polygons_of.Goals as goal

pub loop-row-preserved : goal.loop-row-preserved
loop-row-preserved g c =
    let inv = c.loop-row.invariant in
    next_shaped c.args.rows.items c.loop-row.row-iterator.rest.items c.next.new.self.rest.items c.in-Some.row c.loop-row.all c.push.new.self c.in-Some.ensures.steps.0 inv (c.in_ok-push.ensures inv.done inv.have)

pub returns : goal.returns
returns g c =
    let rest = c.loop-row.row-iterator.rest in
    all_shaped c.args.rows.items rest.items c.loop-row.all (nil_from_length rest.items (omega (arith, c.in-None.ensures.steps.0, rest.ok.0))) c.loop-row.invariant
