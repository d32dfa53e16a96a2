use Rattle.std.proofs.Common.{◌≡◌, ◌<◌, ◌∙◌, ℕ, ap, arith, get_or, length, rules, subst}
use Rattle.std.proofs.Math.IntN.{pos}
use Rattle.std.proofs.lemmas.Bool.{cases_from_iff, eq-eqb, eqb-true, lt-ltb, ltb-true}
use Rattle.std.proofs.lemmas.List.{get_or_default}
use Rattle.std.proofs.lemmas.List.Sorted.{IsPartitionPoint-from_clause}
use Rattle.overlay_c.specs.declared.strip_items.OverlayCarried.{OverlayCarried}
use Rattle.overlay_c.specs.Strips.{IsCarried, IsCarriedBefore, IsKnown}
use Rattle.overlay_c.proofs.StripLists.{all_pairs}
use Rattle.overlay_c.proofs.StripSearch.{carried_test, carried_told, carried_trans, carried_yes, found_at, parted}
use Rattle.overlay_c.proofs.strip_contradictions.is_known.Goals as goal

pub returns-then-place-carried : goal.returns-then-place-carried
returns-then-place-carried c =
    let carried = c.args.carried.now in
    let none : OverlayCarried = record { number = 0; x = pos 0; y = pos 0 } in
    let t : OverlayCarried = record { number = c.args.item.number; x = pos 0; y = pos 0 } in
    let place = c.partition_point-place.result in
    let up = all_pairs IsCarried IsCarriedBefore carried c.requires carried_trans in
    let point = IsPartitionPoint-from_clause (λ (x : OverlayCarried). carried_test x t) carried place c.partition_point-place.ensures.partitioned
    (parted IsCarriedBefore carried_trans carried_test carried_yes carried_told carried up t) (λ a r f k. search rules) in
    let at = found_at IsCarriedBefore carried_trans carried_test carried_yes carried_told carried up t place point.0 point.1 (λ (x : OverlayCarried). x.number ≡ c.args.item.number) (λ x e l. omega (arith, e, l))
    (λ x y l e. omega (arith, l, e)) in
    cases_from_iff {P = IsKnown carried c.args.item} (
      λ e _. (place, c.if-place-carried.true, λ d. ap (λ (x : OverlayCarried). x.number) (get_or_default carried place d none c.if-place-carried.true) ∙ eqb-true _ _ e),
      λ known.
          let (k, inside, same) = known c.if-item-ne0.false in
          eq-eqb _ _ (subst (λ (n : ℕ). (get_or carried n none).number ≡ c.args.item.number) (at k none inside (same none)) (same none)),
    )

pub returns-else-place-carried : goal.returns-else-place-carried
returns-else-place-carried c =
    let carried = c.args.carried.now in
    let none : OverlayCarried = record { number = 0; x = pos 0; y = pos 0 } in
    let t : OverlayCarried = record { number = c.args.item.number; x = pos 0; y = pos 0 } in
    let place = c.partition_point-place.result in
    let up = all_pairs IsCarried IsCarriedBefore carried c.requires carried_trans in
    let point = IsPartitionPoint-from_clause (λ (x : OverlayCarried). carried_test x t) carried place c.partition_point-place.ensures.partitioned
    (parted IsCarriedBefore carried_trans carried_test carried_yes carried_told carried up t) (λ a r f k. search rules) in
    let at = found_at IsCarriedBefore carried_trans carried_test carried_yes carried_told carried up t place point.0 point.1 (λ (x : OverlayCarried). x.number ≡ c.args.item.number) (λ x e l. omega (arith, e, l))
    (λ x y l e. omega (arith, l, e)) in
    let past = c.if-place-carried.false in
    cases_from_iff {P = IsKnown carried c.args.item} (
      λ e. let l = ltb-true place (length carried) e in absurd (omega (arith, past, l)),
      λ known. let (k, inside, same) = known c.if-item-ne0.false in lt-ltb place (length carried) (subst (λ (n : ℕ). n < length carried) (at k none inside (same none)) inside),
    )
