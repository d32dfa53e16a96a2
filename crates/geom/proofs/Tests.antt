-- Tests on whole numbers say what they test.
use Rattle.std.proofs.Common.{◌≡◌, true, false, sym, arith}
use Rattle.std.proofs.lemmas.Int.{ints}
use Rattle.std.proofs.Math.IntN.{ℤ}
use Rattle.std.specs.Prelude.{◌<ℤ◌, ◌≤ℤ◌, int_le, int_lt}
use lib.Signed.{le_z, lt_z}

pub lt_yes : (a b : ℤ) → a <ℤ b → int_lt a b ≡ true
lt_yes a b h = let t : true ≡ int_lt a b = omega (arith, ints) in sym t

pub lt_no : (a b : ℤ) → b ≤ℤ a → int_lt a b ≡ false
lt_no a b h = let t : false ≡ int_lt a b = omega (arith, ints) in sym t

pub le_yes : (a b : ℤ) → a ≤ℤ b → int_le a b ≡ true
le_yes a b h = let t : true ≡ int_le a b = omega (arith, ints) in sym t

pub le_no : (a b : ℤ) → b <ℤ a → int_le a b ≡ false
le_no a b h = let t : false ≡ int_le a b = omega (arith, ints) in sym t

pub lt_told : (a b : ℤ) → int_lt a b ≡ true → a <ℤ b
lt_told a b h = omega (arith, ints)

pub le_told : (a b : ℤ) → int_le a b ≡ true → a ≤ℤ b
le_told a b h = omega (arith, ints)

pub le_untold : (a b : ℤ) → int_le a b ≡ false → b <ℤ a
le_untold a b h = omega (arith, ints)

-- the same of the kit's other tests
pub le_z_told : (a b : ℤ) → le_z a b ≡ true → a ≤ℤ b
le_z_told a b h = omega (arith, ints)

pub lt_z_told : (a b : ℤ) → lt_z a b ≡ true → a <ℤ b
lt_z_told a b h = omega (arith, ints)
