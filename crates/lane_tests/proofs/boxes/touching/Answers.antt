use Rattle.std.proofs.Common.{◌≡◌, ℕ, ◌&&◌, get_or, ◌∙◌, w32, FitsSigned, to_z, of_z, ℤ, pos, to_z-of_z, rules}
use Rattle.std.specs.Prelude.{int_le, bit_and}
use Rattle.lane_tests.specs.Columns.{mask_of, touches, pair_at, corners}
use Rattle.lane_tests.proofs.Lanes.{column, splat, both, mask_is, full32, top_of_four}
use Rattle.lane_tests.proofs.boxes.touching.Goals as goal

abbrev le : ℕ → ℕ → ℕ
le a b = full32 (int_le (to_z w32 a) (to_z w32 b))

four : (a b c d p q r s : ℤ) → FitsSigned w32 a → FitsSigned w32 b → FitsSigned w32 c → FitsSigned w32 d → FitsSigned w32 p → FitsSigned w32 q → FitsSigned w32 r → FitsSigned w32 s
    → int_le (to_z w32 (of_z w32 a)) (to_z w32 (of_z w32 p)) && int_le (to_z w32 (of_z w32 b)) (to_z w32 (of_z w32 q)) && int_le (to_z w32 (of_z w32 r)) (to_z w32 (of_z w32 c)) && int_le (to_z w32 (of_z w32 s)) (to_z w32 (of_z w32 d))
    ≡ int_le a p && int_le b q && int_le r c && int_le s d
four a b c d p q r s fa fb fc fd fp fq fr fs = simp to_z-of_z

pub returns : goal.returns
unfolding mask_of
returns c =
    let at = c.args.at in
    let r = c.args.rect in
    let fx : FitsSigned w32 r.hi.x = search rules in
    let fy : FitsSigned w32 r.hi.y = search rules in
    let gx : FitsSigned w32 r.lo.x = search rules in
    let gy : FitsSigned w32 r.lo.y = search rules in
    let first = both le (column c.args.left.now at c.requires.left) (splat at (of_z w32 r.hi.x)) in
    let second = both le (column c.args.bottom.now at c.requires.bottom) (splat at (of_z w32 r.hi.y)) in
    let third = both le (splat at (of_z w32 r.lo.x)) (column c.args.right.now at c.requires.right) in
    let fourth = both le (splat at (of_z w32 r.lo.y)) (column c.args.top.now at c.requires.top) in
    mask_is 31 (λ k. touches (pair_at c.args.left.now c.args.bottom.now c.args.right.now c.args.top.now k) (corners r))
    (both bit_and (both bit_and (both bit_and first second) third) fourth)
    (λ k. top_of_four
    (int_le (to_z w32 (of_z w32 (get_or c.args.left.now k (pos 0)))) (to_z w32 (of_z w32 r.hi.x)))
    (int_le (to_z w32 (of_z w32 (get_or c.args.bottom.now k (pos 0)))) (to_z w32 (of_z w32 r.hi.y)))
    (int_le (to_z w32 (of_z w32 r.lo.x)) (to_z w32 (of_z w32 (get_or c.args.right.now k (pos 0)))))
    (int_le (to_z w32 (of_z w32 r.lo.y)) (to_z w32 (of_z w32 (get_or c.args.top.now k (pos 0)))))
    ∙ four _ _ _ _ _ _ _ _ (c.requires.left_fits.fits k) (c.requires.bottom_fits.fits k) (c.requires.right_fits.fits k) (c.requires.top_fits.fits k) fx fy gx gy)
