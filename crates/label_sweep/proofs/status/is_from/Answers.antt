use Rattle.std.proofs.Common.{◌≡◌, Bool, int_le, sym, ap, ◌∙◌, rules}
use Rattle.geom.specs.Determinant.{side}
use Rattle.label_sweep.specs.declared.standing.StandingEdge.{StandingEdge}
use Rattle.label_sweep.specs.Slots.{nowhere, passes}
use Rattle.label_sweep.proofs.Slots.{passes_in_slot}
use Rattle.label_sweep.proofs.status.is_from.Goals as goal

pub returns-in-Some : goal.returns-in-Some
returns-in-Some c =
    let p : StandingEdge → Bool = λ s. int_le c.args.bound (side s.spoke.one.edge.p s.spoke.one.edge.q c.args.v) in
    let found = c.in-Some.ensures.lookup.3 in
    let same : passes p c.args.slots.now c.args.number ≡ p c.in-Some.one.now = passes_in_slot p c.args.slots.now c.args.number found.0 ∙ ap p (sym (found.1 nowhere)) in
    rw same (search rules)
