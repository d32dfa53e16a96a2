-- The outline of rings, ring by ring.
use Rattle.std.proofs.Common.{◌≡◌, ◌∙◌, ℕ, ◌+◌, ◌<◌, List, [], ◌∷◌, ◌++◌, length, Option, Some, None, refl, sym, ap, subst, arith}
use Rattle.std.specs.Prelude.{filter}
use Rattle.std.proofs.lemmas.List.{nil_from_length}
use Rattle.geom.specs.declared.point.Pt.{Pt}
use Rattle.geom.specs.declared.rect.Rect.{Rect}
use Rattle.geom.specs.Bounds.{IsBox}
use Rattle.geom.specs.Segments.{layer_steps, neighbours}
use Rattle.wkt.specs.declared.outline.Outline.{Outline}
use Rattle.wkt.specs.Outlines.{IsOutline}
use Rattle.wkt.proofs.Outlines.{IsJoined, outline_joined}
use Rattle.columns.specs.Layout.{plain_ring}
use Rattle.columns.specs.Reach.{IsBoxOfBoth, IsPointBox, IsSoundRing}
use Rattle.columns.proofs.RingBoxes.{box_of_steps}
use Rattle.columns.proofs.RingWalks.{differ, layer_of_ring}

joins : (before : Option Rect) (r s : Rect) → IsBoxOfBoth before r s → IsJoined before (Some r) (Some s)
joins None r s e = ap (λ b. let o : Option Rect = Some b in o) e
joins (Some q) r s e = (s, refl, e)

alone : (ring : List Pt) (box : Rect) (count : ℕ) → IsSoundRing ring → count ≡ length (filter differ (neighbours ring)) → 0 < count → IsPointBox ring box → IsOutline (plain_ring ring ∷ []) (record { segments = count; bounds = Some box })
alone ring box count sound e some b = record {
  count = e ∙ ap length (sym (layer_of_ring ring sound));
  box = subst (λ steps. IsBox steps box) (sym (layer_of_ring ring sound)) (box_of_steps ring box b (omega (arith, e, some)));
}

-- a ring with segments
pub with_segments : (rings : List (List Pt)) (ring : List Pt) (old new : Outline) (box both : Rect) (count : ℕ) → IsSoundRing ring → count ≡ length (filter differ (neighbours ring)) → 0 < count → IsPointBox ring box
    → new.segments ≡ old.segments + count → IsBoxOfBoth old.bounds box both → new.bounds ≡ Some both → IsOutline rings old → IsOutline (rings ++ plain_ring ring ∷ []) new
with_segments rings ring old new box both count sound e some b sum boxes bounds h =
    outline_joined rings (plain_ring ring ∷ []) old (record { segments = count; bounds = Some box }) new sum
    (subst (λ o. IsJoined old.bounds (Some box) o) (sym bounds) (joins old.bounds box both boxes)) h (alone ring box count sound e some b)

-- one whose points are all the same
pub without_segments : (rings : List (List Pt)) (ring : List Pt) (o : Outline) → IsSoundRing ring → 0 ≡ length (filter differ (neighbours ring)) → IsOutline rings o → IsOutline (rings ++ plain_ring ring ∷ []) o
without_segments rings ring o sound e h =
    let none : layer_steps (plain_ring ring ∷ []) ≡ [] = layer_of_ring ring sound ∙ nil_from_length (filter differ (neighbours ring)) (sym e) in
    outline_joined rings (plain_ring ring ∷ []) o (record { segments = 0; bounds = None }) o (omega arith) (unchanged o.bounds) h
    (record { count = sym (ap length none); box = none })
  where
    unchanged : (b : Option Rect) → IsJoined b None b
    unchanged None = refl
    unchanged (Some q) = refl
