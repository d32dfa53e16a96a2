-- The numbers that pass a test, and the bits of the tests.
use Rattle.std.proofs.Common.{◌≡◌, ℕ, zero, suc, ◌+◌, ◌-◌, ◌*◌, ◌/◌, ◌%◌, ◌<◌, ◌≤◌, Bool, true, false, cond, List, [], ◌∷◌, ◌++◌, map, length, take, refl, sym, ap, ◌∙◌, subst, arith, append_assoc, inl, inr}
use Rattle.std.proofs.lemmas.List.Elements.{filter-append}
use Rattle.std.proofs.lemmas.List.{append-nil, take-set, take_more_set}
use Rattle.std.specs.List.{range_with_len}
use Rattle.std.specs.Prelude.{filter}
use lib.Lanes.{mask_l}
use Rattle.std.proofs.Math.ListN.{set}
use Rattle.std.proofs.lemmas.Bool.{cases_Bool}
use Rattle.lane_tests.specs.Columns.{passing, mask_of}

pub range-add : (a m n : ℕ) → range_with_len a (m + n) ≡ range_with_len a m ++ range_with_len (a + m) n
range-add a zero n =
    let e : 0 + n ≡ n = omega arith in
    let f : a + 0 ≡ a = omega arith in
    rw (e, f) refl
range-add a (suc m) n =
    let e : suc m + n ≡ suc (m + n) = omega arith in
    let f : a + suc m ≡ a + 1 + m = omega arith in
    rw (e, f) (ap (λ xs. a ∷ xs) (range-add (a + 1) m n))

passing-add : (p : ℕ → Bool) (from m n : ℕ) → passing p from (m + n) ≡ passing p from m ++ passing p (from + m) n
unfolding passing
passing-add p from m n = ap (filter p) (range-add from m n) ∙ filter-append p (range_with_len from m) (range_with_len (from + m) n)

pub passing_none : (p : ℕ → Bool) (from n : ℕ) → n ≡ 0 → passing p from n ≡ []
unfolding passing
passing_none p from n e = rw e refl

pub passing_yes : (p : ℕ → Bool) (at : ℕ) → p at ≡ true → passing p at 1 ≡ at ∷ []
unfolding passing
passing_yes p at t = rw t refl

pub passing_no : (p : ℕ → Bool) (at : ℕ) → p at ≡ false → passing p at 1 ≡ []
unfolding passing
passing_no p at t = rw t refl

-- the numbers found so far, with those of a further part
pub found_more : (p : ℕ → Bool) (from at n : ℕ) (old now next : List ℕ) → from ≤ at → now ≡ old ++ passing p from (at - from) → next ≡ now ++ passing p at n
    → next ≡ old ++ passing p from (at + n - from)
found_more p from at n old now next h e f =
    let a : at + n - from ≡ (at - from) + n = omega arith in
    let b : from + (at - from) ≡ at = omega arith in
    let g : passing p from (at + n - from) ≡ passing p from (at - from) ++ passing p at n = rw a (passing-add p from (at - from) n ∙ ap (λ k. passing p from (at - from) ++ passing p k n) b) in
    f ∙ rw (e, g) (append_assoc old (passing p from (at - from)) (passing p at n))

-- of the numbers from `from` to below `at` those that pass were added
pub record HasFound (p : ℕ → Bool) (from at end : ℕ) (old now : List ℕ) : Type 0 where
  pub begun : from ≤ at
  pub within : at ≤ end
  pub found : now ≡ old ++ passing p from (at - from)

pub found_none : (p : ℕ → Bool) (from end : ℕ) (old : List ℕ) → from ≤ end → HasFound p from from end old old
found_none p from end old h = record { begun = omega arith; within = h; found = rw (passing_none p from (from - from) (omega arith)) (sym (append-nil old)) }

pub found_part : (p : ℕ → Bool) (from at n end : ℕ) (old now next : List ℕ) → HasFound p from at end old now → at + n ≤ end → next ≡ now ++ passing p at n → HasFound p from (at + n) end old next
found_part p from at n end old now next h k e = record { begun = omega arith; within = k; found = found_more p from at n old now next h.begun h.found e }

pub found_until : (p : ℕ → Bool) (from at until end : ℕ) (old now next : List ℕ) → HasFound p from at end old now → at ≤ until → until ≤ end → next ≡ now ++ passing p at (until - at) → HasFound p from until end old next
found_until p from at until end old now next h k l e =
    let m : at + (until - at) ≡ until = omega arith in
    subst (λ i. HasFound p from i end old next) m (found_part p from at (until - at) end old now next h (omega arith) e)

pub found_nothing : (p : ℕ → Bool) (from at until end : ℕ) (old now : List ℕ) → HasFound p from at end old now → at ≤ until → until ≤ end → passing p at (until - at) ≡ [] → HasFound p from until end old now
found_nothing p from at until end old now h k l e = found_until p from at until end old now now h k l (rw e (sym (append-nil now)))

pub found_one : (p : ℕ → Bool) (from at end : ℕ) (old now next : List ℕ) → HasFound p from at end old now → at < end → p at ≡ true → next ≡ now ++ at ∷ [] → HasFound p from (at + 1) end old next
found_one p from at end old now next h k t e = found_part p from at 1 end old now next h (omega arith) (rw (passing_yes p at t) e)

pub found_other : (p : ℕ → Bool) (from at end : ℕ) (old now : List ℕ) → HasFound p from at end old now → at < end → p at ≡ false → HasFound p from (at + 1) end old now
found_other p from at end old now h k t = found_part p from at 1 end old now now h (omega arith) (rw (passing_no p at t) (sym (append-nil now)))

pub found_all : (p : ℕ → Bool) (from at end : ℕ) (old now : List ℕ) → HasFound p from at end old now → end ≤ at → now ≡ old ++ passing p from (end - from)
found_all p from at end old now h k = let e : end ≡ at = omega arith in rw e h.found

-- of the first `lane` of the eight numbers from `at` on those that pass stand behind the first `count`, and the rest of the bits are those of the others
pub record AreNoted (p : ℕ → Bool) (at lane rest count end : ℕ) (old now : List ℕ) : Type 0 where
  pub within : lane ≤ 8
  pub bits : rest ≡ mask_l (map p (range_with_len (at + lane) (8 - lane)))
  pub few : end ≤ count + lane
  pub noted : take end now ≡ take count old ++ passing p at lane

pub noted_none : (p : ℕ → Bool) (at rest count : ℕ) (old : List ℕ) → rest ≡ mask_of p at → AreNoted p at 0 rest count count old old
unfolding mask_of
noted_none p at rest count old e =
    let f : at + 0 ≡ at = omega arith in
    record { within = omega arith; bits = rw f e; few = omega arith; noted = rw (passing_none p at 0 refl) (sym (append-nil (take count old))) }

-- the first bit of those from a on
first_bit : (p : ℕ → Bool) (a n rest : ℕ) → rest ≡ mask_l (map p (range_with_len a (suc n))) → rest ≡ cond (p a) 1 0 + 2 * mask_l (map p (range_with_len (a + 1) n))
first_bit p a n rest e = e

noted_front : (p : ℕ → Bool) (at lane : ℕ) (front hit : List ℕ) → passing p (at + lane) 1 ≡ hit → front ++ (passing p at lane ++ hit) ≡ front ++ passing p at (lane + 1)
noted_front p at lane front hit e = ap (λ xs. front ++ xs) (ap (λ xs. passing p at lane ++ xs) (sym e) ∙ sym (passing-add p at lane 1))

pub noted_more : (p : ℕ → Bool) (at lane rest count end : ℕ) (old now : List ℕ) → AreNoted p at lane rest count end old now → lane < 8 → end < length now
    → AreNoted p at (lane + 1) (rest / 2) count (end + rest % 2) old (set now end (at + lane))
noted_more p at lane rest count end old now h l room =
    let m = mask_l (map p (range_with_len (at + lane + 1) (7 - lane))) in
    let e : 8 - lane ≡ suc (7 - lane) = omega arith in
    let bit = first_bit p (at + lane) (7 - lane) rest (rw e at h.bits) in
    let i : at + (lane + 1) ≡ at + lane + 1 = omega arith in
    let j : 8 - (lane + 1) ≡ 7 - lane = omega arith in
    elim (cases_Bool (p (at + lane))) [
      | inl t ↦
          let b : rest ≡ 1 + 2 * m = rw t at bit in
          let r : rest % 2 ≡ 1 = omega arith in
          record {
            within = omega arith;
            bits = rw (i, j) (omega arith);
            few = omega (arith, h.few);
            noted = rw r (take_more_set now end (at + lane) room ∙ ap (λ xs. xs ++ (at + lane) ∷ []) h.noted ∙ append_assoc (take count old) (passing p at lane) ((at + lane) ∷ []) ∙ noted_front p at lane (take count old) _ (passing_yes p (at + lane) t));
          }
      | inr t ↦
          let b : rest ≡ 0 + 2 * m = rw t at bit in
          let r : end + rest % 2 ≡ end = omega arith in
          record {
            within = omega arith;
            bits = rw (i, j) (omega arith);
            few = omega (arith, h.few);
            noted = rw r (take-set now end (at + lane) ∙ h.noted ∙ ap (λ xs. take count old ++ xs) (sym (append-nil (passing p at lane))) ∙ noted_front p at lane (take count old) _ (passing_no p (at + lane) t));
          }
    ]

pub noted_all : (p : ℕ → Bool) (at lane rest count end : ℕ) (old now : List ℕ) → AreNoted p at lane rest count end old now → 8 ≤ lane → take end now ≡ take count old ++ passing p at 8
noted_all p at lane rest count end old now h l =
    let e : 8 ≡ lane = omega (arith, h.within) in
    rw e h.noted

-- of some chunks of eight numbers from `from` on those that pass were written
pub record AreGathered (p : ℕ → Bool) (from chunk count : ℕ) (now : List ℕ) : Type 0 where
  pub few : count ≤ 8 * chunk
  pub gathered : take count now ≡ passing p from (8 * chunk)

pub gathered_none : (p : ℕ → Bool) (from : ℕ) (now : List ℕ) → AreGathered p from 0 0 now
gathered_none p from now = record { few = omega arith; gathered = sym (passing_none p from (8 * 0) (omega arith)) }

pub gathered_more : (p : ℕ → Bool) (from chunk at count end : ℕ) (now next : List ℕ) → AreGathered p from chunk count now → at ≡ from + 8 * chunk → end ≤ count + 8 → take end next ≡ take count now ++ passing p at 8 → AreGathered p from (chunk + 1) end next
gathered_more p from chunk at count end now next h e l f =
    let g : 8 * (chunk + 1) ≡ 8 * chunk + 8 = omega arith in
    record {
      few = omega (arith, h.few);
      gathered = rw g (f ∙ (λ j. h.gathered j ++ passing p (e j) 8) ∙ sym (passing-add p from (8 * chunk) 8));
    }

pub gathered_all : (p : ℕ → Bool) (from chunks chunk count : ℕ) (now : List ℕ) → AreGathered p from chunk count now → chunk ≤ chunks → chunks ≤ chunk → take count now ≡ passing p from (8 * chunks)
gathered_all p from chunks chunk count now h k l =
    let e : chunks ≡ chunk = omega arith in
    rw e h.gathered
