use Rattle.std.proofs.Common.{◌-◌, ◌<◌, ◌^◌, ℕ, length, subst}
use Rattle.hands.specs.Consecutive.{ArePartsOf}
use Rattle.results.proofs.LineParts.{all_parts, may_write}
use Rattle.results.proofs.line_parts.rings_text_in_parts.Goals as goal

pub map_parts-requires-after_bounds : goal.map_parts-requires-after_bounds
map_parts-requires-after_bounds g c κs within =
    let rings = c.args.rings.now in
    let ps = c.deref.result.now in
    let counted : ArePartsOf 0 (c.count.result - 1) ps = rw c.deref.ensures.value c.in_ok-parts.ensures in
    let parts : ArePartsOf 0 (length rings - 1) ps = subst (λ (n : ℕ). ArePartsOf 0 (n - 1) ps) c.count.ensures counted in
    let few : length rings < 2 ^ 64 = subst (λ (n : ℕ). n < 2 ^ 64) c.count.ensures c.count.type_inv in
    λ k d below. let each = may_write rings ps c.requires parts k d below in (each.0, each.1, few)

pub returns : goal.returns
returns g c =
    let rings = c.args.rings.now in
    let ps = c.deref.result.now in
    let counted : ArePartsOf 0 (c.count.result - 1) ps = rw c.deref.ensures.value c.in_ok-parts.ensures in
    let parts : ArePartsOf 0 (length rings - 1) ps = subst (λ (n : ℕ). ArePartsOf 0 (n - 1) ps) c.count.ensures counted in
    rw c.of.ensures (all_parts rings ps c.in_ok-texts.texts.items c.requires parts c.in_ok-texts.ensures)
