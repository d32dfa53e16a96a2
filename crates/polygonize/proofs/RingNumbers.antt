-- The numbers of the rings that edges belong to, and what is kept for rings by them.
use Rattle.std.proofs.Common.{◌≡◌, ◌≢◌, ℕ, ◌+◌, ◌<◌, ◌≤◌, List, [], ◌∷◌, ◌++◌, length, get_or, replicate, set, refl, sym, ◌∙◌, ap, subst, inl, inr, arith, Option, Some, None}
use Rattle.std.specs.Prelude.{All, Contains}
use Rattle.std.proofs.lemmas.Bool.{cases_lt}
use Rattle.std.proofs.lemmas.List.{get_or-map, get_or-replicate, get_or-set_other, get_or-set_same, get_or_append_left, get_or_past, get_or_push, length-append, length-map, length-replicate}
use Rattle.std.proofs.lemmas.List.Elements.{All-contains}
use Rattle.polygonize.specs.declared.written.Opening.{Opening}
use Rattle.polygonize.specs.Owning.{KeepsShell}
use Rattle.polygonize.specs.RingNumbers.{AreRingNumbers, IsNumbered, IsRingOf, kept_by}
use Rattle.polygonize.proofs.WrittenRings.Keeping.{member}

-- ---- the numbers
-- the rings so far; what is in none of them has the number none
pub record RingsNumbered (cycles : List (List ℕ)) (none : ℕ) (numbers : List ℕ) : Type 0 where
  pub has : (r k : ℕ) → r < length cycles → Contains (get_or cycles r []) k → get_or numbers k 0 ≡ r
  pub only : (k : ℕ) → k < length numbers → get_or numbers k 0 ≢ none → (get_or numbers k 0 < length cycles) × Contains (get_or cycles (get_or numbers k 0) []) k

pub none_numbered : (none n : ℕ) → RingsNumbered [] none (replicate n none)
none_numbered none n = record {
  has = λ r k h c. absurd (omega (arith, h));
  only = λ k h away. absurd (away (get_or-replicate n k none 0 (let e = length-replicate n none in omega (arith, h, e))));
}

pub one_more_numbered : (cycles : List (List ℕ)) (cycle : List ℕ) (none : ℕ) (old new : List ℕ) → length new ≡ length old → length cycles < none → ((k : ℕ) → Contains cycle k → get_or old k 0 ≡ none) → IsNumbered cycle (length cycles) old new → RingsNumbered cycles none old
    → RingsNumbered (cycles ++ cycle ∷ []) none new
one_more_numbered cycles cycle none old new len low fresh w f = record { has = has; only = only }
  where
    longer : length (cycles ++ cycle ∷ []) ≡ length cycles + 1
    longer = length-append cycles (cycle ∷ [])

    before : (r : ℕ) → r < length cycles → get_or (cycles ++ cycle ∷ []) r [] ≡ get_or cycles r []
    before r h = get_or_append_left cycles (cycle ∷ []) [] r h

    last : get_or (cycles ++ cycle ∷ []) (length cycles) [] ≡ cycle
    last = get_or_push cycles cycle [] (length cycles) refl

    kept : (r k : ℕ) → r < length cycles → get_or old k 0 ≡ r → get_or new k 0 ≡ r
    kept r k l was = w.rest k (λ c. (let e = sym was ∙ fresh k c in omega (arith, e, l, low))) ∙ was

    has : (r k : ℕ) → r < length (cycles ++ cycle ∷ []) → Contains (get_or (cycles ++ cycle ∷ []) r []) k → get_or new k 0 ≡ r
    has r k h c = elim (cases_lt r (length cycles)) [
      | inl l ↦ kept r k l (f.has r k l (subst (λ (t : List ℕ). Contains t k) (before r l) c))
      | inr l ↦ (let e : r ≡ length cycles = omega (arith, h, l, longer) in
          w.numbered k (subst (λ (t : List ℕ). Contains t k) (ap (λ n. get_or (cycles ++ cycle ∷ []) n []) e ∙ last) c) ∙ sym e)
    ]

    numbered : (k r : ℕ) → get_or new k 0 ≡ r → r < length cycles + 1 → Contains (get_or (cycles ++ cycle ∷ []) r []) k → (get_or new k 0 < length (cycles ++ cycle ∷ [])) × Contains (get_or (cycles ++ cycle ∷ []) (get_or new k 0) []) k
    numbered k r e h c = (omega (arith, e, h, longer), subst (λ (n : ℕ). Contains (get_or (cycles ++ cycle ∷ []) n []) k) (sym e) c)

    only : (k : ℕ) → k < length new → get_or new k 0 ≢ none → (get_or new k 0 < length (cycles ++ cycle ∷ [])) × Contains (get_or (cycles ++ cycle ∷ []) (get_or new k 0) []) k
    only k h away = elim (member cycle k) [
      | inl c ↦ numbered k (length cycles) (w.numbered k c) (omega arith) (subst (λ (t : List ℕ). Contains t k) (sym last) c)
      | inr not_in ↦ (let e = w.rest k not_in in let q = f.only k (omega (arith, h, len)) (λ s. away (e ∙ s)) in
          numbered k (get_or old k 0) e (omega (arith, q.0)) (subst (λ (t : List ℕ). Contains t k) (sym (before (get_or old k 0) q.0)) q.1))
    ]

pub all_numbered : (cycles : List (List ℕ)) (none : ℕ) (numbers : List ℕ) → length cycles ≤ none → length numbers ≡ none → RingsNumbered cycles none numbers → AreRingNumbers none cycles numbers
all_numbered cycles none numbers high len f = record {
  one_each = len;
  each = λ r h k l. (
    (λ c. f.has r k h c),
    (λ e. subst (λ (n : ℕ). Contains (get_or cycles n []) k) e (f.only k l (λ s. (let q = sym e ∙ s in omega (arith, q, h, high)))).1),
  );
}

-- ---- what is kept for a ring is kept for its edges
pub kept_at : (numbers : List ℕ) (shells : List (Option Opening)) (k : ℕ) → k < length numbers → get_or (kept_by numbers shells) k None ≡ get_or shells (get_or numbers k 0) None
kept_at numbers shells k h = get_or-map (λ r. get_or shells r None) numbers k 0 None h

pub keeps_shell : (cycle numbers : List ℕ) (number : ℕ) (shells : List (Option Opening)) (shell : Opening) → number < length shells → IsRingOf numbers cycle number → All (λ k. k < length numbers) cycle
    → KeepsShell cycle shell (kept_by numbers shells) (kept_by numbers (set shells number (Some shell)))
keeps_shell cycle numbers number shells shell low own inside = record { kept = kept; rest = rest }
  where
    now : List (Option Opening)
    now = set shells number (Some shell)

    kept : (k : ℕ) → Contains cycle k → get_or (kept_by numbers now) k None ≡ Some shell
    kept k c = let h = All-contains (λ k. k < length numbers) cycle k inside c in
        kept_at numbers now k h ∙ ap (λ r. get_or now r None) ((own k h).0 c) ∙ get_or-set_same shells number (Some shell) None low

    rest : (k : ℕ) → ¬ (Contains cycle k) → get_or (kept_by numbers now) k None ≡ get_or (kept_by numbers shells) k None
    rest k not_in = elim (cases_lt k (length numbers)) [
      | inl h ↦ kept_at numbers now k h ∙ get_or-set_other shells number (get_or numbers k 0) (Some shell) None (λ e. not_in ((own k h).1 e)) ∙ sym (kept_at numbers shells k h)
      | inr h ↦ past now k h ∙ sym (past shells k h)
    ]
      where
        past : (shells : List (Option Opening)) (k : ℕ) → length numbers ≤ k → get_or (kept_by numbers shells) k None ≡ None
        past shells k h = get_or_past (kept_by numbers shells) k None (let e = length-map numbers (λ r. get_or shells r None) in omega (arith, e, h))
