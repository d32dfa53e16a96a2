-- What the classes of bytes mean.
use Rattle.std.proofs.Common.{◌≡◌, ℕ, ◌+◌, ◌-◌, ◌<◌, ◌≤◌, Bool, true, false, cond, eqb, leb, ◌⊎◌, inl, inr, refl, ap, ◌∙◌, arith, lit<}
use Rattle.std.specs.Prelude.{IsTrue, ◌&&◌, nat_le}
use Rattle.std.proofs.lemmas.Bool.{eqb-true}
use Rattle.std.proofs.lemmas.Bool.Decides.{nat_tests}
use Rattle.wkt.specs.declared.places.Class.{Class}
use Rattle.wkt.specs.declared.places.Class.TheVariants.{Space, Digit, Minus, Comma, Open, Close, Letter, Other}
use Rattle.wkt.specs.LayerText.{is_space, is_digit}
use Rattle.wkt.specs.Machine.{class_of}

-- b is of this class
abbrev pub IsKind : ℕ → Class → Type 0
IsKind b Space = IsTrue (is_space b)
IsKind b (Digit d) = IsTrue (is_digit b) × (d ≡ b - 48)
IsKind b Minus = b ≡ 45
IsKind b Comma = b ≡ 44
IsKind b Open = b ≡ 40
IsKind b Close = b ≡ 41
IsKind b (Letter c) = (b ≡ c) ⊎ (b ≡ c + 32)
IsKind b Other = Unit {0}

by_cond : (P : Class → Type 0) (x : Bool) (a c : Class) → (x ≡ true → P a) → P c → P (cond x a c)
by_cond P true a c f g = f refl
by_cond P false a c f g = g

low_letter : (b : ℕ) → IsTrue (nat_le 97 b && nat_le b 122) → b ≡ (b - 32) + 32
low_letter b h = grind (arith, nat_tests)

pub kinds : (b : ℕ) → IsKind b (class_of b)
kinds b =
    by_cond (IsKind b) (is_space b) Space _ (λ h. h)
    (by_cond (IsKind b) (is_digit b) (Digit (b - 48)) _ (λ h. (h, refl))
    (by_cond (IsKind b) (eqb b 45) Minus _ (eqb-true b 45)
    (by_cond (IsKind b) (eqb b 44) Comma _ (eqb-true b 44)
    (by_cond (IsKind b) (eqb b 40) Open _ (eqb-true b 40)
    (by_cond (IsKind b) (eqb b 41) Close _ (eqb-true b 41)
    (by_cond (IsKind b) (leb 65 b && leb b 90) (Letter b) _ (λ _. inl refl)
    (by_cond (IsKind b) (leb 97 b && leb b 122) (Letter (b - 32)) Other (λ h. inr (low_letter b h)) tt)))))))

-- and the other way

pub class_space : (b : ℕ) → IsTrue (is_space b) → class_of b ≡ Space
class_space b h = rw h refl

not_space : (b : ℕ) → IsTrue (is_digit b) → is_space b ≡ false
not_space b h = grind (arith, nat_tests)

pub class_digit : (b : ℕ) → IsTrue (is_digit b) → class_of b ≡ Digit (b - 48)
class_digit b h = rw (not_space b h, h) refl

abbrev is_capital : ℕ → Bool
is_capital c = nat_le 65 c && nat_le c 90

far_space : (b : ℕ) → 65 ≤ b → is_space b ≡ false
far_space b h = grind (arith, nat_tests)

far_digit : (b : ℕ) → 65 ≤ b → is_digit b ≡ false
far_digit b h = grind (arith, nat_tests)

far : (b k : ℕ) → 65 ≤ b → k < 65 → eqb b k ≡ false
far b k h l = grind (arith, nat_tests)

small_capital : (c : ℕ) → is_capital c ≡ true → is_capital (c + 32) ≡ false
small_capital c h = grind (arith, nat_tests)

small : (c : ℕ) → is_capital c ≡ true → (leb 97 (c + 32) && leb (c + 32) 122) ≡ true
small c h = grind (arith, nat_tests)

from_capital : (c : ℕ) → is_capital c ≡ true → 65 ≤ c
from_capital c h = grind (arith, nat_tests)

class_capital : (c : ℕ) → is_capital c ≡ true → class_of c ≡ Letter c
class_capital c h =
    let l : 65 ≤ c = from_capital c h in
    rw (far_space c l, far_digit c l, far c 45 l (lit< tt), far c 44 l (lit< tt), far c 40 l (lit< tt), far c 41 l (lit< tt), h) refl

class_small : (c : ℕ) → is_capital c ≡ true → class_of (c + 32) ≡ Letter c
class_small c h =
    let l : 65 ≤ c = from_capital c h in
    let m : 65 ≤ c + 32 = omega arith in
    let d : (c + 32) - 32 ≡ c = omega arith in
    rw (far_space (c + 32) m, far_digit (c + 32) m, far (c + 32) 45 m (lit< tt), far (c + 32) 44 m (lit< tt), far (c + 32) 40 m (lit< tt), far (c + 32) 41 m (lit< tt), small_capital c h, small c h, d) refl

pub class_letter : (b c : ℕ) → (nat_le 65 c && nat_le c 90) ≡ true → (b ≡ c) ⊎ (b ≡ c + 32) → class_of b ≡ Letter c
class_letter b c h (inl e) = ap class_of e ∙ class_capital c h
class_letter b c h (inr e) = ap class_of e ∙ class_small c h
