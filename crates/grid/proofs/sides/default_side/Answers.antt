use Rattle.std.proofs.Common.{arith, refl}
use Rattle.grid.proofs.TriedSides.{doubled, is_side}
use Rattle.grid.proofs.sides.default_side.Goals as goal

pub loop-bounds-init : goal.loop-bounds-init
loop-bounds-init c = record { exponent = 18; from = omega arith; to = omega arith; power = refl; least = λ k low high. absurd (omega (arith, low, high)) }

pub is_too_fine-requires-clause-side : goal.is_too_fine-requires-clause-side
is_too_fine-requires-clause-side c = is_side c.args.bounds c.loop-bounds.side c.loop-bounds.invariant

pub overflow_mul-side : goal.overflow_mul-side
overflow_mul-side c =
    let side = is_side c.args.bounds c.loop-bounds.side c.loop-bounds.invariant in
    omega (arith, side.1)

pub loop-bounds-smaller : goal.loop-bounds-smaller
loop-bounds-smaller c =
    let next = is_side c.args.bounds _ (doubled c.args.bounds c.loop-bounds.side c.requires c.loop-bounds.invariant c.loop-bounds-test.ensures) in
    let side = is_side c.args.bounds c.loop-bounds.side c.loop-bounds.invariant in
    omega (arith, next.1, side.0)

pub loop-bounds-preserved : goal.loop-bounds-preserved
loop-bounds-preserved c = doubled c.args.bounds c.loop-bounds.side c.requires c.loop-bounds.invariant c.loop-bounds-test.ensures

pub returns : goal.returns
returns c =
    let h = c.loop-bounds.invariant in
    record { exponent = h.exponent; from = h.from; power = h.power; is_side = is_side c.args.bounds c.loop-bounds.side h; few = c.loop-bounds-test.ensures; least = h.least }
