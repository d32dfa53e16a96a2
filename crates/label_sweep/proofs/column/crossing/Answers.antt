use Rattle.std.proofs.Common.{map, to_z-of_z, ap, ◌∙◌, subst, sym}
use Rattle.std.proofs.Math.IntN.{ℤ}
use Rattle.std.proofs.lemmas.Result.{IfOk-weaker}
use Rattle.geom.specs.Rounded.{edges_of}
use Rattle.label_sweep.specs.Column.{AreCrossing, HaveCrossing}
use Rattle.label_sweep.proofs.Crossing.{spoke_of, spokes_cross, spokes_inside}
use Rattle.label_sweep.proofs.column.crossing.Goals as goal

pub returns-clause-crossing : goal.returns-clause-crossing
returns-clause-crossing g c =
    let some = c.args.counted.now in
    let found = c.in_ok-crossings in
    let sorted = c.sort_by_height in
    λ all h b. IfOk-weaker c.spokes_of.result _ _ (λ v e. subst (λ (t : ℤ). AreCrossing (edges_of all) t (map (λ s. s.one.edge) v.items)) (to_z-of_z c.ranges.border)
    (spokes_cross some _ found.crossings.items found.ensures.listed found.ensures.measured all h (subst (λ (t : ℤ). HaveCrossing all t some) (sym (to_z-of_z c.ranges.border)) b)
    sorted.new.crossings.items sorted.ensures.permutation sorted.ensures.sorted v.items (e ∙ ap (map spoke_of) c.deref.ensures.value))) c.spokes_of.ensures

pub returns-clause-inside : goal.returns-clause-inside
returns-clause-inside g c =
    let found = c.in_ok-crossings in
    let sorted = c.sort_by_height in
    IfOk-weaker c.spokes_of.result _ _ (λ v e. spokes_inside c.args.counted.now _ found.crossings.items found.ensures.listed found.ensures.measured
    sorted.new.crossings.items sorted.ensures.permutation v.items (e ∙ ap (map spoke_of) c.deref.ensures.value)) c.spokes_of.ensures
