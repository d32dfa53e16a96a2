use Rattle.std.proofs.Common.{◌≡◌, ℕ, arith, slice_range, subst}
use Rattle.std.specs.List.{AllZip}
use Rattle.rows.specs.Made.{IsRowOf}
use Rattle.rows.proofs.Zips.{none_in, one_more_in}
use Rattle.rows.proofs.parts.rows_of_part.Goals as goal

pub loop-place-init : goal.loop-place-init
loop-place-init g c = rw (none_in c.args.row_sets.now c.args.part.from, c.in_ok-rows.ensures.items) tt

pub loop-place-preserved : goal.loop-place-preserved
loop-place-preserved g c =
    let here = c.loop-place-test.true in
    let within = c.requires.within in
    rw c.in_ok-push.ensures.items (one_more_in (IsRowOf c.args.sets.now c.args.edges.now) c.args.row_sets.now c.args.part.from c.loop-place.place _ c.loop-place.rows.items c.in_ok-row_of_set.field-0
    c.loop-place.auto.place (omega (arith, here, within)) c.loop-place.invariant c.in_ok-row_of_set.ensures)

pub returns : goal.returns
returns g c =
    let past : c.loop-place.place ≡ c.args.part.past = omega (arith, c.loop-place-test.false, c.loop-place.auto.place-end c.requires.order) in
    subst (λ (n : ℕ). AllZip (IsRowOf c.args.sets.now c.args.edges.now) (slice_range c.args.row_sets.now c.args.part.from n) c.loop-place.rows.items) past c.loop-place.invariant
