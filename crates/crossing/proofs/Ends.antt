-- The points of a segment from its start on, by fractions, and the pixels of its ends.
use Rattle.std.proofs.Common.{◌≡◌, [], ◌∷◌, refl}
use Rattle.std.proofs.Math.IntN.{ℤ, pos, ◌+ℤ◌, ◌-ℤ◌, ◌*ℤ◌}
use Rattle.std.specs.Prelude.{◌<ℤ◌}
use Rattle.geom.specs.declared.point.Pt.{Pt}
use Rattle.geom.specs.Pixel.{Point, pixel}
use Rattle.geom.proofs.Meaning.{pixel_of_grid_point}
use Rattle.geom.proofs.Identity.{var, num, ◌⊕◌, ◌⊖◌, ◌⊗◌, ring}

-- a + (e / det) (b - a)
abbrev pub point_along : (a b : Pt) (det e : ℤ) → pos 0 <ℤ det → Point
point_along a b det e p = record { x = (det *ℤ a.x) +ℤ (e *ℤ (b.x -ℤ a.x)); y = (det *ℤ a.y) +ℤ (e *ℤ (b.y -ℤ a.y)); n = det; positive = p }

at_start : (det e a b : ℤ) → e ≡ pos 0 → (det *ℤ a) +ℤ (e *ℤ (b -ℤ a)) ≡ det *ℤ a
at_start det e a b q = rw q (ring (det ∷ a ∷ b ∷ []) ((var 0 ⊗ var 1) ⊕ (num (pos 0) ⊗ (var 2 ⊖ var 1))) (var 0 ⊗ var 1) refl)

at_end : (det e a b : ℤ) → e ≡ det → (det *ℤ a) +ℤ (e *ℤ (b -ℤ a)) ≡ det *ℤ b
at_end det e a b q = rw q (ring (det ∷ a ∷ b ∷ []) ((var 0 ⊗ var 1) ⊕ (var 0 ⊗ (var 2 ⊖ var 1))) (var 0 ⊗ var 2) refl)

pub start_pixel : (a b : Pt) (det e : ℤ) (p : pos 0 <ℤ det) → e ≡ pos 0 → pixel (point_along a b det e p) ≡ a
start_pixel a b det e p q = pixel_of_grid_point a (point_along a b det e p) (record { x_is = at_start det e a.x b.x q; y_is = at_start det e a.y b.y q })

pub end_pixel : (a b : Pt) (det e : ℤ) (p : pos 0 <ℤ det) → e ≡ det → pixel (point_along a b det e p) ≡ b
end_pixel a b det e p q = pixel_of_grid_point b (point_along a b det e p) (record { x_is = at_end det e a.x b.x q; y_is = at_end det e a.y b.y q })
