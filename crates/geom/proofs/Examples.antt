-- The definitions at some values, by computation.
use Rattle.std.proofs.Common.{◌≡◌, ◌^◌, List, [], ◌∷◌, true, false, refl, arith}
use Rattle.std.proofs.Math.IntN.{ℤ, pos, negsuc, ◌+ℤ◌, ◌*ℤ◌}
use Rattle.std.proofs.lemmas.Int.{ints}
use lib.Signed.{lt_z_yes}
use Rattle.geom.specs.declared.point.Pt.{Pt}
use Rattle.geom.specs.declared.edge.Edge.{Edge}
use Rattle.geom.specs.Parity.{parity}
use Rattle.geom.specs.Pixel.{Point, nearest}
use Rattle.geom.specs.ResultEdges.{left_side, right_side}
use Rattle.geom.specs.RingParity.{ring_parity}

half : nearest (pos 1) (pos 2) ≡ pos 1
half = refl

minus_half : nearest (negsuc 0) (pos 2) ≡ pos 0
minus_half = refl

minus_three_halves : nearest (negsuc 2) (pos 2) ≡ negsuc 0
minus_three_halves = refl

two_thirds : nearest (pos 2) (pos 3) ≡ pos 1
two_thirds = refl

abbrev point : ℤ → ℤ → Pt
point x y = record { x = x; y = y }

-- the triangle with corners (0, 0), (4, 0) and (4, 4)
low : Edge
low = record { p = point (pos 0) (pos 0); q = point (pos 4) (pos 0); ordered = record { column = omega (arith, ints); row = λ h. absurd (omega (arith, ints)) } }

slope : Edge
slope = record { p = point (pos 0) (pos 0); q = point (pos 4) (pos 4); ordered = record { column = omega (arith, ints); row = λ h. absurd (omega (arith, ints)) } }

right : Edge
right = record { p = point (pos 4) (pos 0); q = point (pos 4) (pos 4); ordered = record { column = omega (arith, ints); row = λ h. omega (arith, ints) } }

abbrev triangle : List Edge
triangle = low ∷ slope ∷ right ∷ []

-- the point (x / 2 + dx / 2 ^ 64, y / 2 + dy / 2 ^ 64)
abbrev at : ℤ → ℤ → ℤ → ℤ → Point
at x y dx dy = record { x = (pos (2 ^ 64) *ℤ x) +ℤ (pos 2 *ℤ dx); y = (pos (2 ^ 64) *ℤ y) +ℤ (pos 2 *ℤ dy); n = pos (2 ^ 65); positive = lt_z_yes tt }

below_slope : parity triangle (at (pos 4) (pos 2) (pos 0) (pos 0)) ≡ true
unfolding low slope right
below_slope = refl

right_border : parity triangle (at (pos 8) (pos 2) (pos 0) (pos 0)) ≡ false
unfolding low slope right
right_border = refl

left_of_border : parity triangle (at (pos 8) (pos 2) (negsuc 0) (pos 0)) ≡ true
unfolding low slope right
left_of_border = refl

corner : parity triangle (at (pos 0) (pos 0) (pos 0) (pos 0)) ≡ false
unfolding low slope right
corner = refl

below_all : parity triangle (at (pos 0) (negsuc 1) (pos 0) (pos 0)) ≡ false
unfolding low slope right
below_all = refl

left_of_slope : parity triangle (left_side slope.p slope.q) ≡ false
unfolding low slope right
left_of_slope = refl

right_of_slope : parity triangle (right_side slope.p slope.q) ≡ true
unfolding low slope right
right_of_slope = refl

-- the triangle as a ring, turned round, and as a hole in a square
abbrev corners : List Pt
corners = point (pos 0) (pos 0) ∷ point (pos 4) (pos 0) ∷ point (pos 4) (pos 4) ∷ []

abbrev turned : List Pt
turned = point (pos 4) (pos 4) ∷ point (pos 4) (pos 0) ∷ point (pos 0) (pos 0) ∷ []

abbrev square : List Pt
square = point (negsuc 0) (negsuc 0) ∷ point (pos 5) (negsuc 0) ∷ point (pos 5) (pos 5) ∷ point (negsuc 0) (pos 5) ∷ []

in_ring : ring_parity (corners ∷ []) (at (pos 4) (pos 2) (pos 0) (pos 0)) ≡ true
in_ring = refl

in_turned_ring : ring_parity (turned ∷ []) (at (pos 4) (pos 2) (pos 0) (pos 0)) ≡ true
in_turned_ring = refl

beside_ring : ring_parity (corners ∷ []) (at (pos 2) (pos 6) (pos 0) (pos 0)) ≡ false
beside_ring = refl

in_hole : ring_parity (square ∷ turned ∷ []) (at (pos 4) (pos 2) (pos 0) (pos 0)) ≡ false
in_hole = refl

beside_hole : ring_parity (square ∷ turned ∷ []) (at (pos 2) (pos 6) (pos 0) (pos 0)) ≡ true
beside_hole = refl
