use Rattle.std.proofs.Common.{ℕ, ◌∙◌, get_or, FitsSigned, w32, to_z, of_z, pos, rules}
use Rattle.std.specs.Prelude.{bit_and, int_lt}
use Rattle.box_lanes.proofs.LaneLaws.{column, splat, both, mask_is, full}
use Rattle.polygonize.specs.Reaching.{reaches}
use Rattle.polygonize.proofs.EdgesBelow.Reaching.{top_of_two, two}
use Rattle.polygonize.proofs.short.reached.Goals as goal

abbrev lt : ℕ → ℕ → ℕ
lt a b = full (int_lt (to_z w32 a) (to_z w32 b))

pub returns : goal.returns
returns c =
    let at = c.args.at in
    let rows = c.args.rows in
    let heights = c.args.heights.now in
    let floors = c.args.floors.now in
    let fits_low : FitsSigned w32 rows.low = search rules in
    let fits_high : FitsSigned w32 rows.high = search rules in
    let above = both lt (splat at (of_z w32 rows.low)) (column heights at c.requires.heights) in
    let below = both lt (column floors at c.requires.floors) (splat at (of_z w32 rows.high)) in
    mask_is 31 (λ k. reaches rows (get_or heights k (pos 0)) (get_or floors k (pos 0))) (both bit_and above below)
    (λ k. top_of_two
    (int_lt (to_z w32 (of_z w32 rows.low)) (to_z w32 (of_z w32 (get_or heights k (pos 0)))))
    (int_lt (to_z w32 (of_z w32 (get_or floors k (pos 0)))) (to_z w32 (of_z w32 rows.high)))
    ∙ two _ _ _ _ (c.requires.heights_fit.fits k) (c.requires.floors_fit.fits k) fits_low fits_high)
