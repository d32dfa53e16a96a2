-- A loop that keeps some of the numbers that it reads.
use Rattle.std.proofs.Common.{◌≡◌, ℕ, ◌+◌, ◌<◌, inl, inr, sym, subst, List, [], ◌∷◌, ◌++◌, length, get_or, arith, length-append}
use Rattle.std.specs.Prelude.{All, Contains}
use Rattle.std.proofs.lemmas.Bool.{cases_eq, cases_lt}
use Rattle.std.proofs.lemmas.List.{get_or_append_left, get_or_push}
use Rattle.std.proofs.lemmas.List.Elements.{All-push, Contains-append_left, Contains-push}
use Rattle.polygonize.specs.CutRing.{Ascend}

-- all that were kept are fit, and of the first n those that are wanted were kept
pub record KeptSoFar (at : ℕ → ℕ) (Fit Wanted : ℕ → Type 0) (n : ℕ) (found : List ℕ) : Type 0 where
  pub fit : All Fit found
  pub wanted : (m : ℕ) → m < n → Wanted (at m) → Contains found (at m)

module _ (at : ℕ → ℕ) (Fit Wanted : ℕ → Type 0) where
  pub none_wanted : (n : ℕ) → ((m : ℕ) → m < n → ¬ (Wanted (at m))) → KeptSoFar at Fit Wanted n []
  none_wanted n f = record { fit = λ k d h. absurd (omega arith); wanted = λ m h w. absurd (f m h w) }

  pub one_kept : (n x : ℕ) (found now : List ℕ) → x ≡ at n → Fit x → now ≡ found ++ x ∷ [] → KeptSoFar at Fit Wanted n found → KeptSoFar at Fit Wanted (n + 1) now
  one_kept n x found now e f is s = let P : List ℕ → Type 0 = KeptSoFar at Fit Wanted (n + 1) in subst P (sym is) (record {
    fit = All-push Fit found x s.fit f;
    wanted = λ m h w. elim (cases_lt m n) [
      | inl l ↦ Contains-append_left found (x ∷ []) (at m) (s.wanted m l w)
      | inr l ↦ (let same : m ≡ n = omega arith in let Q : ℕ → Type 0 = λ t. Contains (found ++ x ∷ []) (at t) in subst Q (sym same) (let R : ℕ → Type 0 = Contains (found ++ x ∷ []) in subst R e (Contains-push found x)))
    ];
  })

  pub one_left : (n : ℕ) (found : List ℕ) → ¬ (Wanted (at n)) → KeptSoFar at Fit Wanted n found → KeptSoFar at Fit Wanted (n + 1) found
  one_left n found f s = record {
    fit = s.fit;
    wanted = λ m h w. elim (cases_lt m n) [
      | inl l ↦ s.wanted m l w
      | inr l ↦ (let same : m ≡ n = omega arith in absurd (f (let P : ℕ → Type 0 = λ t. Wanted (at t) in subst P same w)))
    ];
  }

-- the numbers that were kept ascend, all of them below n
pub record AscendBelow (n : ℕ) (ks : List ℕ) : Type 0 where
  pub low : All (λ k. k < n) ks
  pub ascend : Ascend ks

pub none_higher : AscendBelow 0 []
none_higher = record { low = λ k d h. absurd (omega arith); ascend = λ i j o h. absurd (omega arith) }

pub one_passed : (n : ℕ) (ks : List ℕ) → AscendBelow n ks → AscendBelow (n + 1) ks
one_passed n ks s = record { low = λ k d h. let l = s.low k d h in omega (arith, l); ascend = s.ascend }

pub one_higher : (n : ℕ) (ks : List ℕ) → AscendBelow n ks → AscendBelow (n + 1) (ks ++ n ∷ [])
one_higher n ks s = record { low = All-push (λ k. k < n + 1) ks n (one_passed n ks s).low (omega arith); ascend = ascend }
  where
    at_front : (i : ℕ) → i < length ks → get_or (ks ++ n ∷ []) i 0 ≡ get_or ks i 0
    at_front i h = get_or_append_left ks (n ∷ []) 0 i h

    ascend : Ascend (ks ++ n ∷ [])
    ascend i j order inside = elim (cases_eq j (length ks)) [
      | inl e ↦ (let there : i < length ks = omega (arith, order, e) in let a = at_front i there in let b = get_or_push ks n 0 j (sym e) in let l = s.low i 0 there in omega (arith, a, b, l))
      | inr o ↦ (let many = length-append ks (n ∷ []) in let there : j < length ks = omega (arith, many, inside, o) in let a = at_front i (omega (arith, order, there)) in let b = at_front j there in let l = s.ascend i j order there in omega (arith, a, b, l))
    ]
