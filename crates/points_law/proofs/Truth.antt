-- Laws of truth values.
use Rattle.std.proofs.Common.{◌≡◌, Bool, true, false, cond, arith}
use Rattle.points_law.proofs.Choices.{◌⊕◌, ◌∧∧◌}

pub both_true : (a b : Bool) → a ≡ true → b ≡ true → a ∧∧ b ≡ true
both_true a b h k = grind arith

pub both_of : (a b : Bool) → a ∧∧ b ≡ true → (a ≡ true) × (b ≡ true)
both_of a b h = (grind arith, grind arith)

pub and_none : (a b : Bool) → b ≡ false → a ∧∧ b ≡ false
and_none a b h = grind arith

pub only_first : (a b : Bool) → a ≡ true → b ≡ false → a ⊕ b ≡ true
only_first a b h k = grind arith

pub only_second : (a b : Bool) → a ≡ false → b ≡ true → a ⊕ b ≡ true
only_second a b h k = grind arith

-- of two that are not both true
pub not_first : (a b : Bool) → (a ≡ true → b ≡ false) → b ≡ true → a ≡ false
not_first a b h k = grind arith

pub cond_yes : (t a b : Bool) → t ≡ true → cond t a b ≡ a
cond_yes t a b h = grind arith

pub cond_no : (t a b : Bool) → t ≡ false → cond t a b ≡ b
cond_no t a b h = grind arith
