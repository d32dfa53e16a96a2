use Rattle.std.proofs.Common.{◌^◌, w64, FitsSigned, to_z-of_z, lit<}
use Rattle.geom.proofs.Bounds.{fits_64}
use Rattle.hot_region.proofs.halving.is_near.Goals as goal

pub returns : goal.returns
returns c =
    let f : FitsSigned w64 c.determinant-off.result = fits_64 (2 ^ 60) c.determinant-off.result (lit< tt) c.determinant-off.ensures.small in
    let g : FitsSigned w64 c.determinant-reach.result = fits_64 (2 ^ 60) c.determinant-reach.result (lit< tt) c.determinant-reach.ensures.small in
    let off = rw (c.vector_to-run.ensures.dx, c.vector_to-run.ensures.dy, c.to_centre.ensures.dx, c.to_centre.ensures.dy) at c.determinant-off.ensures.value in
    let reach = rw (c.unsigned.ensures.dx, c.unsigned.ensures.dy, c.diagonal.ensures.dx, c.diagonal.ensures.dy, c.vector_to-run.ensures.dx, c.vector_to-run.ensures.dy) at c.determinant-reach.ensures.value in
    let t = simp to_z-of_z at c.is_reached.ensures in
    let k = rw (off, reach) at t in
    ((λ t. let p = k.0 t in record { from = p.0; to = p.1 }), (λ h. k.1 (h.from, h.to)))
