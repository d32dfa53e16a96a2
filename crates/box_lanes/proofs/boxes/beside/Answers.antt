use Rattle.std.proofs.Common.{ℕ, ◌∙◌, get_or, FitsSigned, w32, to_z, of_z, pos, rules}
use Rattle.std.specs.Prelude.{int_lt, bit_or}
use Rattle.box_lanes.specs.Sides.{corners_at, is_beside, sixteen}
use Rattle.box_lanes.proofs.LaneLaws.{column, splat, both, mask_is, full, top_of_four, four}
use Rattle.box_lanes.proofs.boxes.beside.Goals as goal

abbrev lt : ℕ → ℕ → ℕ
lt a b = full (int_lt (to_z w32 a) (to_z w32 b))

pub returns : goal.returns
unfolding sixteen
returns c =
    let at = c.args.at in
    let r = c.args.rect.now in
    let fx : FitsSigned w32 r.hi.x = search rules in
    let fy : FitsSigned w32 r.hi.y = search rules in
    let gx : FitsSigned w32 r.lo.x = search rules in
    let gy : FitsSigned w32 r.lo.y = search rules in
    let first = both lt (splat at (of_z w32 r.hi.x)) (column c.args.left.now at c.requires.left) in
    let second = both lt (splat at (of_z w32 r.hi.y)) (column c.args.bottom.now at c.requires.bottom) in
    let third = both lt (column c.args.right.now at c.requires.right) (splat at (of_z w32 r.lo.x)) in
    let fourth = both lt (column c.args.top.now at c.requires.top) (splat at (of_z w32 r.lo.y)) in
    mask_is 31 (λ k. is_beside (corners_at c.args.left.now c.args.bottom.now c.args.right.now c.args.top.now k) r)
    (both bit_or (both bit_or (both bit_or first second) third) fourth)
    (λ k. top_of_four
    (int_lt (to_z w32 (of_z w32 r.hi.x)) (to_z w32 (of_z w32 (get_or c.args.left.now k (pos 0)))))
    (int_lt (to_z w32 (of_z w32 r.hi.y)) (to_z w32 (of_z w32 (get_or c.args.bottom.now k (pos 0)))))
    (int_lt (to_z w32 (of_z w32 (get_or c.args.right.now k (pos 0)))) (to_z w32 (of_z w32 r.lo.x)))
    (int_lt (to_z w32 (of_z w32 (get_or c.args.top.now k (pos 0)))) (to_z w32 (of_z w32 r.lo.y)))
    ∙ four _ _ _ _ _ _ _ _ (c.requires.left_fits.fits k) (c.requires.bottom_fits.fits k) (c.requires.right_fits.fits k) (c.requires.top_fits.fits k) fx fy gx gy)
