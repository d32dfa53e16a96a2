-- The order of whole numbers, and the gaps between them.
use Rattle.std.proofs.Common.{◌≡◌, arith}
use Rattle.std.proofs.lemmas.Int.{ints, by_lt_z}
use Rattle.std.proofs.Math.IntN.{ℤ, pos, ◌-ℤ◌, ◌*ℤ◌, neg_ℤ}
use Rattle.std.specs.Int.{int_max}
use Rattle.std.specs.Prelude.{◌<ℤ◌, ◌≤ℤ◌}
use Rattle.geom.proofs.Integers.{expand, linear}
use Rattle.geom.proofs.Tests.{lt_no, lt_yes}

pub itself : (a : ℤ) → a ≤ℤ a
itself a = omega (arith, linear)

pub from_same : (a b : ℤ) → a ≡ b → a ≤ℤ b
from_same a b e = omega (arith, linear)

pub both_ways : (a b : ℤ) → a ≤ℤ b → b ≤ℤ a → a ≡ b
both_ways a b h k = omega (arith, linear)

pub weak : (a b : ℤ) → a <ℤ b → a ≤ℤ b
weak a b h = omega (arith, linear)

-- through a number between
pub le_le : (a b c : ℤ) → a ≤ℤ b → b ≤ℤ c → a ≤ℤ c
le_le a b c h k = omega (arith, linear)

pub le_lt : (a b c : ℤ) → a ≤ℤ b → b <ℤ c → a <ℤ c
le_lt a b c h k = omega (arith, linear)

pub lt_le : (a b c : ℤ) → a <ℤ b → b ≤ℤ c → a <ℤ c
lt_le a b c h k = omega (arith, linear)

pub lt_lt : (a b c : ℤ) → a <ℤ b → b <ℤ c → a <ℤ c
lt_lt a b c h k = omega (arith, linear)

-- the greater one of two
pub max_left : (a b : ℤ) → a ≤ℤ int_max a b
max_left a b = by_lt_z b a (λ h. rw (lt_yes b a h) (itself a)) (λ h. rw (lt_no b a h) h)

pub max_right : (a b : ℤ) → b ≤ℤ int_max a b
max_right a b = by_lt_z b a (λ h. rw (lt_yes b a h) (weak b a h)) (λ h. rw (lt_no b a h) (itself b))

-- signs
pub nonneg : (a : ℤ) → pos 0 <ℤ a → pos 0 ≤ℤ a
nonneg a h = omega (arith, linear)

pub never_negative : (a : ℤ) → pos 0 ≤ℤ a → a <ℤ pos 0 → ⊥
never_negative a h k = omega (arith, linear)

pub positive_is_not_zero : (a : ℤ) → pos 0 <ℤ a → a ≡ pos 0 → ⊥
positive_is_not_zero a h k = omega (arith, linear)

pub zero_is_not_positive : (a : ℤ) → a ≡ pos 0 → pos 0 <ℤ a → ⊥
zero_is_not_positive a h k = omega (arith, linear)

pub zero_is_nonneg : (a : ℤ) → a ≡ pos 0 → pos 0 ≤ℤ a
zero_is_nonneg a h = omega (arith, linear)

pub negated : (a : ℤ) → a <ℤ pos 0 → pos 0 <ℤ neg_ℤ a
negated a h = omega (arith, linear)

pub negated_is_nonneg : (a : ℤ) → a ≤ℤ pos 0 → pos 0 ≤ℤ neg_ℤ a
negated_is_nonneg a h = omega (arith, linear)

-- gaps
pub gap_is : (a b : ℤ) → a ≤ℤ b → pos 0 ≤ℤ (b -ℤ a)
gap_is a b h = omega (arith, linear)

pub strict_gap_is : (a b : ℤ) → a <ℤ b → pos 0 <ℤ (b -ℤ a)
strict_gap_is a b h = omega (arith, linear)

pub no_gap_is : (a b : ℤ) → a ≡ b → b -ℤ a ≡ pos 0
no_gap_is a b h = omega (arith, linear)

pub from_gap : (a b : ℤ) → pos 0 ≤ℤ (b -ℤ a) → a ≤ℤ b
from_gap a b h = omega (arith, linear)

pub from_strict_gap : (a b : ℤ) → pos 0 <ℤ (b -ℤ a) → a <ℤ b
from_strict_gap a b h = omega (arith, linear)

pub from_no_gap : (a b : ℤ) → b -ℤ a ≡ pos 0 → a ≡ b
from_no_gap a b h = omega (arith, linear)

pub times_no_gap : (s a : ℤ) → s *ℤ (a -ℤ a) ≡ pos 0
times_no_gap s a = simp expand (omega (arith, linear))

-- once a number is that number
pub once_from : (a b : ℤ) → a ≤ℤ b → (pos 1 *ℤ a) ≤ℤ b
once_from a b h = omega (arith, ints)

pub once_to : (a b : ℤ) → b ≤ℤ a → b ≤ℤ (pos 1 *ℤ a)
once_to a b h = omega (arith, ints)

-- a number past another's predecessor
pub past_predecessor : (a b : ℤ) → (a -ℤ pos 1) <ℤ b → a ≤ℤ b
past_predecessor a b h = omega (arith, linear)

pub below_successor : (a b : ℤ) → a ≤ℤ (b -ℤ pos 1) → a ≤ℤ b
below_successor a b h = omega (arith, linear)
