use Rattle.std.proofs.Common.{◌≡◌, ◌∙◌, ◌<◌, ◌^◌, arith, w64, FitsSigned, to_z-of_z, to_z, of_z, ◌+ℤ◌, ap, subst, sym, ℤ}
use Rattle.std.specs.Int.{w128}
use Rattle.geom.specs.Limit.{IsWithin}
use Rattle.rows.proofs.Areas.{narrow_fits, next_area, sum_fits, sum_within, term_fits}
use Rattle.rows.proofs.area.twice_area.Goals as goal

pub overflow_add-area : goal.overflow_add-area
overflow_add-area c =
    let few : c.loop-edge.edge-index < 2 ^ 64 = omega arith in
    let small : IsWithin (2 ^ 59) c.side_area.result = c.side_area.ensures.small in
    let narrow : FitsSigned w64 c.side_area.result = narrow_fits c.side_area.result small in
    let same : c.from-area.result ≡ c.side_area.result = c.from-area.ensures ∙ to_z-of_z narrow in
    let term : IsWithin (2 ^ 59) c.from-area.result = subst (IsWithin (2 ^ 59)) (sym same) small in
    let wide : FitsSigned w128 c.from-area.result = term_fits c.from-area.result term in
    let sum : FitsSigned w128 (to_z w128 c.loop-edge.area-bits +ℤ c.from-area.result) = sum_fits (to_z w128 c.loop-edge.area-bits) c.from-area.result c.loop-edge.edge-index few c.loop-edge.invariant.1 term in
    rw (to_z-of_z wide) sum

pub loop-edge-preserved : goal.loop-edge-preserved
loop-edge-preserved c =
    let few : c.loop-edge.edge-index < 2 ^ 64 = omega arith in
    let small : IsWithin (2 ^ 59) c.side_area.result = c.side_area.ensures.small in
    let narrow : FitsSigned w64 c.side_area.result = narrow_fits c.side_area.result small in
    let same : c.from-area.result ≡ c.side_area.result = c.from-area.ensures ∙ to_z-of_z narrow in
    let term : IsWithin (2 ^ 59) c.from-area.result = subst (IsWithin (2 ^ 59)) (sym same) small in
    let wide : FitsSigned w128 c.from-area.result = term_fits c.from-area.result term in
    let sum : FitsSigned w128 (to_z w128 c.loop-edge.area-bits +ℤ c.from-area.result) = sum_fits (to_z w128 c.loop-edge.area-bits) c.from-area.result c.loop-edge.edge-index few c.loop-edge.invariant.1 term in
    let area = to_z w128 c.loop-edge.area-bits in
    let back : to_z w128 (of_z w128 (area +ℤ to_z w128 (of_z w128 c.from-area.result))) ≡ area +ℤ c.from-area.result = ap (λ (z : ℤ). to_z w128 (of_z w128 (area +ℤ z))) (to_z-of_z wide) ∙ to_z-of_z sum in
    rw back (
      next_area c.args.edges.now c.loop-edge.edge-index _ area c.from-area.result c.loop-edge-test.true (same ∙ c.side_area.ensures.value) c.loop-edge.invariant.0,
      sum_within area c.from-area.result c.loop-edge.edge-index c.loop-edge.invariant.1 term,
    )
