use Rattle.std.proofs.Math.IntN.{◌-ℤ◌}
use Rattle.geom.specs.declared.point.Pt.{Pt}
use Rattle.geom.specs.declared.segment.Seg.{Seg}
use Rattle.geom.specs.Box.{IsInBox, greatest_corner, least_corner}
use Rattle.geom.specs.Route.{Meets}
use Rattle.geom.proofs.Along.{PassesTest, meets_passes, passes_meets}
use Rattle.geom.proofs.Boxes.{between_of_box}
use Rattle.geom.proofs.Meaning.{met_pixels_are_in_bounds}
use Rattle.geom.proofs.Pixels.{piece, piece_proper, meets_in, meets_out}
use Rattle.routing.specs.Corners.{PassesCorners}
use Rattle.routing.proofs.met.meets.Goals as goal

test : (s : Seg) (c : Pt) → Meets s c → PassesTest (piece s) c
test s c m = meets_passes (piece s) c (piece_proper s) (meets_in s c m)

passed : (s : Seg) (c : Pt) → IsInBox (least_corner s.a s.b) (greatest_corner s.a s.b) c → PassesCorners (s.b.x -ℤ s.a.x) (s.b.y -ℤ s.a.y) (c.x -ℤ s.a.x) (c.y -ℤ s.a.y) → Meets s c
passed s c h k = let b = between_of_box s.a s.b c h in meets_out s c (passes_meets (piece s) c (piece_proper s) (record { x_between = b.0; y_between = b.1; corners = k }))

pub returns-then-holds : goal.returns-then-holds
returns-then-holds c =
    let s = c.args.s.now in
    let p = c.args.pixel in
    let k = rw (c.direction.ensures.dx, c.direction.ensures.dy, c.vector_to.ensures.dx, c.vector_to.ensures.dy) at c.passes_corners.ensures in
    let b = rw (c.bounds.ensures.lo, c.bounds.ensures.hi) at (c.holds.ensures.0 c.if-holds.true) in
    (λ t. passed s p b (k.0 t), λ m. k.1 (test s p m).corners)

pub returns-else-holds : goal.returns-else-holds
returns-else-holds c =
    let s = c.args.s.now in
    let p = c.args.pixel in
    (λ t. absurd (let e = c.if-holds.false in cc), λ m. c.holds.ensures.1 (rw (c.bounds.ensures.lo, c.bounds.ensures.hi) (met_pixels_are_in_bounds s p m)))
