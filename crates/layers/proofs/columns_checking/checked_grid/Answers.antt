use Rattle.std.proofs.Common.{◌+◌, ◌≤◌, inl, inr, rules, subst}
use Rattle.geom.specs.declared.fault.Part.{Part}
use Rattle.layers.specs.Grids.{IsTooFine}
use Rattle.layers.proofs.columns_checking.checked_grid.Goals as goal

pub returns-in-Err : goal.returns-in-Err
returns-in-Err c = let h = c.in-Err.ensures in inl (h.2, h.1)

pub returns-in-Ok : goal.returns-in-Ok
returns-in-Ok c =
    let few : c.args.a.segments + c.args.b.segments ≤ c.args.limits.segments = search rules in
    (few, c.in-Ok.ensures)

pub returns-in-Err-grid_over : goal.returns-in-Err-grid_over
returns-in-Err-grid_over c =
    let h = c.in-Err-grid_over.ensures in
    let f = c.in-Err-grid_over.fault in
    let few : c.args.a.segments + c.args.b.segments ≤ c.args.limits.segments = search rules in
    inr (few, subst (λ (p : Part). IsTooFine c.args.a.bounds c.args.b.bounds c.args.side p f.fault) h.part_is h)
