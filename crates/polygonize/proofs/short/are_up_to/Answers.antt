use Rattle.std.proofs.Common.{◌≡◌, ◌-◌, ◌∙◌, int_le, true, sym, arith}
use Rattle.geom.proofs.Doubling.{back}
use Rattle.geom.proofs.Numbers.{le_le}
use Rattle.geom.proofs.Tests.{le_told}
use Rattle.polygonize.specs.Below.{vertex_at}
use Rattle.polygonize.proofs.short.are_up_to.Goals as goal

pub returns-else-past-eq0 : goal.returns-else-past-eq0
returns-else-past-eq0 c = λ yes.
    let column = c.args.column in
    let vertices = c.args.vertices.now in
    let last = c.args.past - 1 in
    let some = c.if-past-eq0.false in
    let inside = c.requires.inside in
    let test : c.is_up_to.result ≡ true = grind arith in
    let up : int_le (vertex_at vertices last).x column ≡ true = rw (back column c.requires.column_in) at (sym c.is_up_to.ensures ∙ test) in
    λ r h. le_le _ _ column (c.requires.from_left r last (omega (arith, some, h)) (omega (arith, some, inside))) (le_told _ column up)
