-- The rounded edges of rings near the origin are layers.
use Rattle.std.proofs.Common.{◌≡◌, Bool, true, List, [], ◌∷◌, arith}
use Rattle.std.proofs.Math.Bool.{◌&&◌}
use Rattle.std.proofs.Math.IntN.{ℤ, pos, negsuc}
use Rattle.std.proofs.Math.Logic.{∥∥₁_map}
use Rattle.std.proofs.lemmas.Bool.{and_parts}
use Rattle.std.proofs.lemmas.Int.{ints}
use Rattle.std.proofs.lemmas.List.Elements.{All-cons, All-nil}
use Rattle.std.specs.Prelude.{All, int_le}
use Rattle.geom.specs.declared.edge.Counted.{Counted}
use Rattle.geom.specs.declared.point.Pt.{Pt}
use Rattle.geom.specs.declared.segment.Seg.{Seg}
use Rattle.geom.specs.declared.segment.Source.TheVariants.{A, B}
use Rattle.geom.specs.Limit.{AreInLimit, IsWithin, coordinate_limit}
use Rattle.geom.specs.Rounded.{AreRounded}
use Rattle.geom.specs.Segments.{AreSegments}
use Rattle.geom.proofs.Tests.{le_told}
use Rattle.noding_law.proofs.Rounding.{rounded_noded}
use Rattle.points_law.specs.Law.{AreLayers}
use Rattle.points_law.proofs.ClosedSegments.{rings_closed}
use Rattle.points_law.proofs.RoundedLayers.{rounded_layers}
use Rattle.results.proofs.Results.{layers_known}

-- the coordinate is at most 100 in size
abbrev pub is_near : ℤ → Bool
is_near x = int_le (negsuc 99) x && int_le x (pos 100)

abbrev pub ends_near : Seg → Bool
ends_near s = (is_near s.a.x && is_near s.a.y) && (is_near s.b.x && is_near s.b.y)

abbrev pub are_near : List Seg → Bool
are_near [] = true
are_near (s ∷ ss) = ends_near s && are_near ss

within : (x : ℤ) → is_near x ≡ true → IsWithin coordinate_limit x
within x h =
    let t = and_parts (int_le (negsuc 99) x) (int_le x (pos 100)) h in
    let low = le_told (negsuc 99) x t.0 in
    let high = le_told x (pos 100) t.1 in
    record { low = omega (arith, ints); high = omega (arith, ints) }

ends_within : (s : Seg) → ends_near s ≡ true → AreInLimit s.a s.b
ends_within s h =
    let t = and_parts (is_near s.a.x && is_near s.a.y) (is_near s.b.x && is_near s.b.y) h in
    let a = and_parts (is_near s.a.x) (is_near s.a.y) t.0 in
    let b = and_parts (is_near s.b.x) (is_near s.b.y) t.1 in
    record { a_in = record { x_in = within s.a.x a.0; y_in = within s.a.y a.1 }; b_in = record { x_in = within s.b.x b.0; y_in = within s.b.y b.1 } }

pub limited : (segments : List Seg) → are_near segments ≡ true → All (λ s. AreInLimit s.a s.b) segments
limited [] h = All-nil (λ (s : Seg). AreInLimit s.a s.b)
limited (s ∷ ss) h = let t = and_parts (ends_near s) (are_near ss) h in All-cons (λ (s : Seg). AreInLimit s.a s.b) s ss (ends_within s t.0) (limited ss t.1)

pub layers : (a b : List (List Pt)) (segments : List Seg) (counted : List Counted) → AreSegments a b segments → are_near segments ≡ true → ∥ AreRounded segments counted ∥₁ → AreLayers counted
layers a b segments counted are near rounded = layers_known counted
    (∥∥₁_map rounded (λ r. rounded_layers segments counted r (limited segments near) (rings_closed a b segments are A) (rings_closed a b segments are B) (rounded_noded segments counted r)))
