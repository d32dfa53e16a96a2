-- The steps of a search by halves.
use Rattle.std.proofs.Common.{◌≡◌, ℕ, ◌+◌, ◌-◌, ◌*◌, ◌/◌, ◌^◌, ◌<◌, ◌≤◌, List, length, get_or, sym, ap, ◌∙◌, arith, ℤ, pos, mul_assoc, add-one, inl, inr, w32, w64, FitsSigned, to_z, of_z, to_z-of_z}
use Rattle.std.specs.Prelude.{◌≤ℤ◌, ◌<ℤ◌, int_lt, true, false}
use Rattle.std.proofs.lemmas.Int.{ints}
use Rattle.std.proofs.lemmas.Bool.{cases_lt}
use Rattle.std.proofs.Math.Pow.{pow_mono}
use Rattle.std.proofs.lemmas.Nat.{mul-le}
use Rattle.std.proofs.Math.Nat.{pow-suc}
use Rattle.geom.proofs.Numbers.{le_lt, le_le}
use Rattle.lane_tests.proofs.Values.{wide_fits}
use Rattle.tiling.specs.Index.{AreAscending}

-- the place is from low to high, and t ticks were taken
pub record IsSearch (xs : List ℤ) (x : ℤ) (low high old now : ℕ) : Type 0 where
  pub order : low ≤ high
  pub within : high ≤ length xs
  pub before : (k : ℕ) → k < low → get_or xs k (pos 0) <ℤ x
  pub after : (k : ℕ) → high ≤ k → k < length xs → x ≤ℤ get_or xs k (pos 0)
  pub more : old ≤ now
  pub left : 2 ^ (now - old) * (high - low) ≤ length xs
  pub cost : 2 ^ (now - old) ≤ 2 * length xs + 1

pub search_begins : (xs : List ℤ) (x : ℤ) (old : ℕ) → IsSearch xs x 0 (length xs) old old
search_begins xs x old =
    let e : old - old ≡ 0 = omega arith in
    record {
      order = omega arith;
      within = omega arith;
      before = λ k h. absurd (omega arith);
      after = λ k h l. absurd (omega arith);
      more = omega arith;
      left = rw e (omega arith);
      cost = rw e (omega arith);
    }

halved : (p s r n : ℕ) → 2 * r ≤ s → p * s ≤ n → p * 2 * r ≤ n
halved p s r n h k =
    let e : p * 2 * r ≡ p * (2 * r) = mul_assoc p 2 r in
    let f : p * (2 * r) ≤ p * s = mul-le p (2 * r) p s (omega arith) h in
    omega arith

doubled : (p s n : ℕ) → 0 < s → p * s ≤ n → p * 2 ≤ 2 * n + 1
doubled p s n h k =
    let f : p * 1 ≤ p * s = mul-le p 1 p s (omega arith) (omega arith) in
    omega arith

power : (t : ℕ) → 2 ^ (t + 1) ≡ 2 ^ t * 2
power t = ap (λ n. 2 ^ n) (add-one t) ∙ pow-suc 2 t

pub search_step : (xs : List ℤ) (x : ℤ) (low high old now low' high' : ℕ) → IsSearch xs x low high old now → low < high → low' ≤ high' → high' ≤ high → 2 * (high' - low') ≤ high - low
    → ((k : ℕ) → k < low' → get_or xs k (pos 0) <ℤ x) → ((k : ℕ) → high' ≤ k → k < length xs → x ≤ℤ get_or xs k (pos 0)) → IsSearch xs x low' high' old (now + 1)
search_step xs x low high old now low' high' h some order within half before after =
    let e : now + 1 - old ≡ (now - old) + 1 = omega (arith, h.more) in
    record {
      order = order;
      within = omega (arith, h.within);
      before = before;
      after = after;
      more = omega (arith, h.more);
      left = rw (e, power (now - old)) (halved (2 ^ (now - old)) (high - low) (high' - low') (length xs) half h.left);
      cost = rw (e, power (now - old)) (doubled (2 ^ (now - old)) (high - low) (length xs) (omega arith) h.left);
    }

pub goes_right : (xs : List ℤ) (x : ℤ) (low high middle old now : ℕ) → AreAscending xs → IsSearch xs x low high old now → low < high → middle ≡ low + (high - low) / 2 → get_or xs middle (pos 0) <ℤ x → IsSearch xs x (middle + 1) high old (now + 1)
goes_right xs x low high middle old now a h some m t =
    search_step xs x low high old now (middle + 1) high h some (omega arith) (omega arith) (omega arith)
    (λ k l. le_lt (get_or xs k (pos 0)) (get_or xs middle (pos 0)) x (a.ascend k middle (omega arith) (omega (arith, h.within))) t) h.after

pub goes_left : (xs : List ℤ) (x : ℤ) (low high middle old now : ℕ) → AreAscending xs → IsSearch xs x low high old now → low < high → middle ≡ low + (high - low) / 2 → x ≤ℤ get_or xs middle (pos 0) → IsSearch xs x low middle old (now + 1)
goes_left xs x low high middle old now a h some m t =
    search_step xs x low high old now low middle h some (omega arith) (omega arith) (omega arith) h.before
    (λ k l n. le_le x (get_or xs middle (pos 0)) (get_or xs k (pos 0)) t (a.ascend middle k l n))

widened : (a r x : ℤ) → FitsSigned w32 a → FitsSigned w64 x → r ≡ to_z w32 (of_z w32 a) → int_lt (to_z w64 (of_z w64 r)) (to_z w64 (of_z w64 x)) ≡ int_lt a x
widened a r x f g e = let d : r ≡ a = e ∙ to_z-of_z f in (λ i. int_lt (to_z w64 (of_z w64 (d i))) (to_z-of_z g i)) ∙ ap (λ z. int_lt z x) (to_z-of_z (wide_fits a f))

pub less : (a r x : ℤ) → FitsSigned w32 a → FitsSigned w64 x → r ≡ to_z w32 (of_z w32 a) → int_lt (to_z w64 (of_z w64 r)) (to_z w64 (of_z w64 x)) ≡ true → a <ℤ x
less a r x f g e h = let k : int_lt a x ≡ true = sym (widened a r x f g e) ∙ h in omega (arith, ints)

pub not_less : (a r x : ℤ) → FitsSigned w32 a → FitsSigned w64 x → r ≡ to_z w32 (of_z w32 a) → int_lt (to_z w64 (of_z w64 r)) (to_z w64 (of_z w64 x)) ≡ false → x ≤ℤ a
not_less a r x f g e h = let k : int_lt a x ≡ false = sym (widened a r x f g e) ∙ h in omega (arith, ints)

-- the ticks and the binary digits of the length
pub ticks_few : (xs : List ℤ) (x : ℤ) (low high old now : ℕ) → IsSearch xs x low high old now → (d : ℕ) → length xs < 2 ^ d → now ≤ old + d
ticks_few xs x low high old now h d k =
    elim (cases_lt d (now - old)) [
      | inl more ↦
          let m : 2 ^ (d + 1) ≤ 2 ^ (now - old) = pow_mono (omega arith) in
          absurd (omega (arith, m, power d, h.cost))
      | inr few ↦ omega (arith, h.more)
    ]
