use Rattle.std.proofs.Common.{◌≡◌, ◌≤◌, ◌∙◌, List, ap, ℕ, length, subst, sym}
use Rattle.geom.specs.declared.segment.Seg.{Seg}
use Rattle.hands.specs.declared.part.Part.{Part}
use Rattle.hands.specs.Consecutive.{ArePartsOf}
use Rattle.hands.proofs.Consecutive.{each_part}
use Rattle.distinct.proofs.KeptLaws.{copies_whole}
use Rattle.distinct.proofs.in_parts.distinct_in_parts.Goals as goal

pub copies_in_parts-requires-after_bounds : goal.copies_in_parts-requires-after_bounds
copies_in_parts-requires-after_bounds g c κs within =
    let ps = c.deref.result.now in
    let cut : ArePartsOf 0 c.len.result ps = rw c.deref.ensures.value c.in_ok-cuts.ensures in
    let count : c.len.result ≡ length c.deref-2.result.now = c.len.ensures ∙ c.args.segments.ok.0 ∙ sym (ap (λ (l : List Seg). length l) c.deref-2.ensures.value) in
    subst (λ (n : ℕ). ArePartsOf 0 n ps) count cut

pub map_parts-requires-after_bounds : goal.map_parts-requires-after_bounds
map_parts-requires-after_bounds g c κs within =
    let ps = c.deref-3.result.now in
    let past = length c.args.segments.items in
    let cut : ArePartsOf 0 c.len.result ps = rw c.deref-3.ensures.value c.in_ok-cuts.ensures in
    let parts : ArePartsOf 0 past ps = subst (λ (n : ℕ). ArePartsOf 0 n ps) (c.len.ensures ∙ c.args.segments.ok.0) cut in
    each_part (λ (p : Part). (p.from ≤ p.past) × (p.past ≤ past)) 0 past ps parts (λ p low order high. (order, high))

pub returns : goal.returns
returns g c =
    let ps = c.deref-3.result.now in
    let cut : ArePartsOf 0 c.len.result ps = rw c.deref-3.ensures.value c.in_ok-cuts.ensures in
    let parts : ArePartsOf 0 (length c.args.segments.items) ps = subst (λ (n : ℕ). ArePartsOf 0 n ps) (c.len.ensures ∙ c.args.segments.ok.0) cut in
    copies_whole c.args.segments.items (λ d. d.segments.items) (λ d. d.copies.items) ps c.in_ok-found.found.items _ _ parts c.in_ok-found.ensures
    (c.in_ok-joined-2.ensures ∙ c.in_ok-kept.ensures.segments) (c.in_ok-joined-3.ensures ∙ c.in_ok-kept.ensures.copies)
