use Rattle.std.proofs.Common.{rules, w64, FitsSigned, ◌≡◌, ℕ, ◌<◌, ◌≤◌, ◌∙◌, Bool, true, false, nat_lt, sym, to_z-of_z, arith}
use Rattle.std.proofs.Math.IntN.{pos}
use Rattle.std.specs.Prelude.{◌&&◌, ◌||◌, ◌==◌}
use lib.Signed.{lt_z}
use Rattle.polygonize.specs.Clockwise.{half}
use Rattle.geom.specs.Determinant.{side}
use Rattle.polygonize.proofs.angle.clockwise.Goals as goal

later_half : (m n : ℕ) (t : Bool) → n < m → false ≡ nat_lt m n || ((m == n) && t)
later_half m n t h = grind arith

same_half : (m n : ℕ) (t : Bool) → n ≤ m → m ≤ n → t ≡ nat_lt m n || ((m == n) && t)
same_half m n t h k = grind arith

pub returns-then-second-first : goal.returns-then-second-first
returns-then-second-first c = later_half (half c.args.v c.args.a) (half c.args.v c.args.b) _ (rw (c.half_turn-first.ensures, c.half_turn-second.ensures) at c.if-second-first.true)

pub returns-then-side_of-lt0 : goal.returns-then-side_of-lt0
returns-then-side_of-lt0 c =
    let fits : FitsSigned w64 c.side_of.result = search rules in
    let t : lt_z (side c.args.v c.args.a c.args.b) (pos 0) ≡ true = rw (to_z-of_z fits, c.side_of.ensures) at c.if-side_of-lt0.true in
    sym t ∙ same_half (half c.args.v c.args.a) (half c.args.v c.args.b) _ (rw (c.half_turn-first.ensures, c.half_turn-second.ensures) at c.if-first-second.false) (rw (c.half_turn-first.ensures, c.half_turn-second.ensures) at c.if-second-first.false)

pub returns-else-side_of-lt0 : goal.returns-else-side_of-lt0
returns-else-side_of-lt0 c =
    let fits : FitsSigned w64 c.side_of.result = search rules in
    let t : lt_z (side c.args.v c.args.a c.args.b) (pos 0) ≡ false = rw (to_z-of_z fits, c.side_of.ensures) at c.if-side_of-lt0.false in
    sym t ∙ same_half (half c.args.v c.args.a) (half c.args.v c.args.b) _ (rw (c.half_turn-first.ensures, c.half_turn-second.ensures) at c.if-first-second.false) (rw (c.half_turn-first.ensures, c.half_turn-second.ensures) at c.if-second-first.false)
