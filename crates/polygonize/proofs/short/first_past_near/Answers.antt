use Rattle.std.proofs.Common.{◌≡◌, false, int_le, sym, ◌∙◌}
use Rattle.geom.proofs.Doubling.{back}
use Rattle.geom.proofs.Numbers.{lt_le}
use Rattle.geom.proofs.Tests.{le_untold}
use Rattle.polygonize.specs.Below.{vertex_at}
use Rattle.polygonize.proofs.short.first_past_near.Goals as goal

pub returns-then-not-is_up_to-clause-past : goal.returns-then-not-is_up_to-clause-past
returns-then-not-is_up_to-clause-past c =
    let column = c.args.column in
    let v = vertex_at c.args.vertices.now c.loop-past.past in
    let right : int_le v.x column ≡ false = rw (back column c.requires.column_in) at (sym c.is_up_to.ensures ∙ c.if-not-is_up_to.true) in
    λ r l m. lt_le column v.x (vertex_at c.args.vertices.now r).x (le_untold v.x column right) (c.requires.from_left c.loop-past.past r l m)
