use Rattle.std.proofs.Common.{◌≡◌, true, w32, FitsSigned, to_z, of_z, to_z-of_z, refl, sym, subst, arith}
use Rattle.std.specs.List.{All}
use lib.Signed.{lt_z, le_z}
use Rattle.std.proofs.lemmas.Int.{ints}
use Rattle.std.proofs.Math.IntN.{ℤ}
use Rattle.std.proofs.lemmas.List.{map-append}
use Rattle.std.proofs.lemmas.List.Elements.{All-push}
use Rattle.label_sweep.specs.declared.column.CrossingEdge.{CrossingEdge}
use Rattle.geom.specs.Limit.{IsWithin, coordinate_limit}
use Rattle.geom.specs.declared.edge.Counted.{Counted}
use Rattle.label_sweep.specs.Heights.{crosses}
use Rattle.label_sweep.proofs.Heights.{AtHeight}
use Rattle.label_sweep.proofs.column.add_crossing.Goals as goal

is_crossing : (border : ℤ) (one : Counted) → FitsSigned w32 border → IsWithin coordinate_limit one.edge.p.x → IsWithin coordinate_limit one.edge.q.x
    → lt_z (to_z w32 (of_z w32 one.edge.p.x)) (to_z w32 (of_z w32 border)) ≡ true → le_z (to_z w32 (of_z w32 border)) (to_z w32 (of_z w32 one.edge.q.x)) ≡ true → crosses border one ≡ true
is_crossing border one f h k begun lasts =
    let p : FitsSigned w32 one.edge.p.x = omega (arith, ints) in
    let q : FitsSigned w32 one.edge.q.x = omega (arith, ints) in
    let b = simp to_z-of_z at begun in
    let l = simp to_z-of_z at lasts in
    rw (b, l) refl

pub returns-in_ok-push-clause-added : goal.returns-in_ok-push-clause-added
returns-in_ok-push-clause-added g c =
    let t = is_crossing c.args.border c.args.one.now c.ranges.border c.requires.in_limit.a_in.x_in c.requires.in_limit.b_in.x_in c.if-one-border.true c.if-border-one.true in
    rw (c.in_ok-push.ensures.items, t, map-append, c.at.ensures.spoke) refl

pub returns-in_ok-push-clause-measured : goal.returns-in_ok-push-clause-measured
returns-in_ok-push-clause-measured g c = λ h.
    let P : CrossingEdge → Type 0 = AtHeight c.args.border in
    let m : P c.at.result = subst (λ (t : ℤ). AtHeight t c.at.result) (to_z-of_z c.ranges.border) c.at.ensures.measured in
    subst (All P) (sym c.in_ok-push.ensures.items) (All-push P c.args.crossings.now.items c.at.result h m)
