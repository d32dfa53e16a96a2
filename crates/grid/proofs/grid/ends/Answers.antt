use Rattle.std.proofs.Common.{◌≡◌, ℕ, suc, ◌+◌, ◌-◌, ◌*◌, ◌^◌, ◌<◌, ◌≤◌, ℤ, pos, ◌+ℤ◌, w32, to_z, of_z, FitsSigned, arith}
use Rattle.std.specs.Prelude.{◌≤ℤ◌}
use Rattle.std.proofs.lemmas.Int.{ints}
use Rattle.std.proofs.lemmas.Nat.{mul-le}
use Rattle.geom.specs.Limit.{IsWithin}
use Rattle.grid.proofs.grid.ends.Goals as goal

below_end : (index columns side : ℕ) → index < columns → columns * side ≤ 2 ^ 29 + 2 ^ 26 → index * side + side ≤ 2 ^ 29 + 2 ^ 26
below_end index columns side h k =
    let m : suc index * side ≤ columns * side = mul-le (suc index) side columns side (omega arith) (omega arith) in
    let e : suc index * side ≡ index * side + side = omega arith in
    omega (arith, m, e)

first_fits : (low : ℤ) (n side : ℕ) → IsWithin (2 ^ 28) low → n + side ≤ 2 ^ 29 + 2 ^ 26 → FitsSigned w32 (to_z w32 (of_z w32 low) +ℤ to_z w32 n)
first_fits low n side h k = omega (arith, ints)

first_is : (low : ℤ) (n side : ℕ) → IsWithin (2 ^ 28) low → n + side ≤ 2 ^ 29 + 2 ^ 26 → to_z w32 (of_z w32 (to_z w32 (of_z w32 low) +ℤ to_z w32 n)) ≡ low +ℤ pos n
first_is low n side h k = omega (arith, ints)

last_fits : (low u : ℤ) (n side : ℕ) → IsWithin (2 ^ 28) low → n + side ≤ 2 ^ 29 + 2 ^ 26 → u ≡ low +ℤ pos n → FitsSigned w32 (u +ℤ to_z w32 (side - 1))
last_fits low u n side h k e = omega (arith, ints)

last_is : (low u : ℤ) (n side : ℕ) → IsWithin (2 ^ 28) low → 0 < side → n + side ≤ 2 ^ 29 + 2 ^ 26 → u ≡ low +ℤ pos n → to_z w32 (of_z w32 (u +ℤ to_z w32 (side - 1))) ≡ low +ℤ pos (n + side - 1)
last_is low u n side h s k e = omega (arith, ints)

in_order : (low u v : ℤ) (n side : ℕ) → 0 < side → u ≡ low +ℤ pos n → v ≡ low +ℤ pos (n + side - 1) → u ≤ℤ v
in_order low u v n side s e f = omega (arith, ints)

pub overflow_add-first : goal.overflow_add-first
overflow_add-first c = first_fits c.args.low (c.args.index * c.args.side) c.args.side c.requires.low (below_end _ _ _ c.requires.index c.requires.small)

pub overflow_add-result : goal.overflow_add-result
overflow_add-result c =
    let b = below_end _ _ _ c.requires.index c.requires.small in
    last_fits c.args.low _ (c.args.index * c.args.side) c.args.side c.requires.low b (first_is c.args.low (c.args.index * c.args.side) c.args.side c.requires.low b)

pub returns-clause-first : goal.returns-clause-first
returns-clause-first c = first_is c.args.low (c.args.index * c.args.side) c.args.side c.requires.low (below_end _ _ _ c.requires.index c.requires.small)

pub returns-clause-last : goal.returns-clause-last
returns-clause-last c =
    let b = below_end _ _ _ c.requires.index c.requires.small in
    last_is c.args.low _ (c.args.index * c.args.side) c.args.side c.requires.low c.requires.side.0 b (first_is c.args.low (c.args.index * c.args.side) c.args.side c.requires.low b)

pub returns-clause-order : goal.returns-clause-order
returns-clause-order c =
    let b = below_end _ _ _ c.requires.index c.requires.small in
    let e = first_is c.args.low (c.args.index * c.args.side) c.args.side c.requires.low b in
    in_order c.args.low _ _ (c.args.index * c.args.side) c.args.side c.requires.side.0 e (last_is c.args.low _ (c.args.index * c.args.side) c.args.side c.requires.low c.requires.side.0 b e)
