-- The outline of two layers' rings together.
use Rattle.std.proofs.Common.{◌≡◌, ◌+◌, List, [], ◌++◌, length, Option, Some, None, sym, ◌∙◌, ap, subst, arith, length-append}
use Rattle.std.specs.Prelude.{MatchOption, filter, not}
use Rattle.std.specs.List.{flat_map}
use Rattle.std.proofs.lemmas.List.{append-nil}
use Rattle.std.proofs.lemmas.List.Concat.{flat_map-append}
use Rattle.std.proofs.lemmas.List.Elements.{filter-append}
use Rattle.geom.specs.declared.point.Pt.{Pt}
use Rattle.geom.specs.declared.rect.Rect.{Rect}
use Rattle.geom.specs.Bounds.{IsBox}
use Rattle.geom.specs.Segments.{layer_steps, ring_steps, same_point}
use Rattle.wkt.specs.declared.outline.Outline.{Outline}
use Rattle.wkt.specs.Outlines.{IsOutline}
use Rattle.wkt.specs.Surveying.{corners, grown}
use Rattle.wkt.proofs.Boxes.{box_joined}

steps_append : (rings more : List (List Pt)) → layer_steps (rings ++ more) ≡ layer_steps rings ++ layer_steps more
steps_append rings more = ap (filter (λ s. not (same_point s.0 s.1))) (flat_map-append ring_steps rings more) ∙ filter-append (λ s. not (same_point s.0 s.1)) (flat_map ring_steps rings) (flat_map ring_steps more)

-- the box of both
abbrev pub IsJoined : Option Rect → Option Rect → Option Rect → Type 0
IsJoined (Some q) (Some r) s = (both : Rect) × (s ≡ Some both) × (corners both ≡ grown (grown (corners q) r.lo) r.hi)
IsJoined (Some q) None s = s ≡ Some q
IsJoined None r s = s ≡ r

box_of : (steps more : List _) (q r s : Option Rect) → MatchOption q (steps ≡ []) (IsBox steps) → MatchOption r (more ≡ []) (IsBox more) → IsJoined q r s → MatchOption s (steps ++ more ≡ []) (IsBox (steps ++ more))
box_of steps more (Some q) (Some r) s h k (both, e, f) = subst (λ o. MatchOption o (steps ++ more ≡ []) (IsBox (steps ++ more))) (sym e) (box_joined steps more q r both h k f)
box_of steps more (Some q) None s h k e = subst (λ o. MatchOption o (steps ++ more ≡ []) (IsBox (steps ++ more))) (sym e) (subst (λ x. IsBox x q) (sym (ap (λ x. steps ++ x) k ∙ append-nil steps)) h)
box_of steps more None r s h k e = subst (λ o. MatchOption o (steps ++ more ≡ []) (IsBox (steps ++ more))) (sym e) (subst (λ x. MatchOption r (x ≡ []) (IsBox x)) (sym (ap (λ x. x ++ more) h)) k)

pub outline_joined : (rings more : List (List Pt)) (a b o : Outline) → o.segments ≡ a.segments + b.segments → IsJoined a.bounds b.bounds o.bounds → IsOutline rings a → IsOutline more b → IsOutline (rings ++ more) o
outline_joined rings more a b o e j h k = record {
  count = let l = length-append (layer_steps rings) (layer_steps more) in let s = ap length (steps_append rings more) in let p = h.count in let q = k.count in omega (arith, e, l, s, p, q);
  box = subst (λ x. MatchOption o.bounds (x ≡ []) (IsBox x)) (sym (steps_append rings more)) (box_of (layer_steps rings) (layer_steps more) a.bounds b.bounds o.bounds h.box k.box j);
}
