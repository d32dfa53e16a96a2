-- Whether the end at a place goes on, as it is tested.
use Rattle.std.proofs.Common.{◌≡◌, ◌⊎◌, ℕ, ◌+◌, ◌<◌, ◌≤◌, Bool, true, false, List, [], ◌∷◌, length, get_or, sym, ◌∙◌, ap, subst, inl, inr, arith}
use Rattle.std.specs.Prelude.{min}
use Rattle.std.proofs.lemmas.Bool.{cases_eq, cases_lt, false≢true}
use Rattle.std.proofs.lemmas.List.{get_or_default}
use Rattle.polygonize.specs.declared.closing.EdgeEnd.{EdgeEnd}
use Rattle.polygonize.specs.Closing.{GoesOn, IsLeastPlace, is_sooner_end, next_round}

pub some_end : (ends : List EdgeEnd) (k : ℕ) → k < length ends → EdgeEnd
some_end [] k h = absurd (omega arith)
some_end (e ∷ ends) k h = e

module _ (ends : List EdgeEnd) (from past place : ℕ) (inside : place < length ends) where
  -- where the next one lies in one direction with it, it doesn't
  pub not_apart : (b : Bool) → ((s t : EdgeEnd) → b ≡ is_sooner_end (get_or ends place s) (get_or ends (place + 1) t)) → b ≡ false → place + 1 < past → ¬ (GoesOn ends from past place)
  not_apart b is f l g = let d = some_end ends place inside in false≢true (sym f ∙ is d d ∙ g.apart d d l)

  abbrev next : ℕ
  next = next_round from past place

  module _ (next_in : next < length ends) (x y : EdgeEnd) (x_is : x ≡ get_or ends place x) (y_is : y ≡ get_or ends next y) where
    x_at : (d : EdgeEnd) → get_or ends place d ≡ x
    x_at d = get_or_default ends place d x inside ∙ sym x_is

    y_at : (d : EdgeEnd) → get_or ends next d ≡ y
    y_at d = get_or_default ends next d y next_in ∙ sym y_is

    pub goes : ((s t : EdgeEnd) → place + 1 < past → is_sooner_end (get_or ends place s) (get_or ends (place + 1) t) ≡ true) → (x.leaves ≡ true) ⊎ (y.leaves ≡ true) → GoesOn ends from past place
    goes apart h = record {
      apart = apart;
      turns = λ s t f. elim h [
        | inl a ↦ absurd (false≢true (sym f ∙ ap (λ e. e.leaves) (x_at s) ∙ a))
        | inr a ↦ ap (λ e. e.leaves) (y_at t) ∙ a
      ];
    }

    pub stays : x.leaves ≡ false → y.leaves ≡ false → ¬ (GoesOn ends from past place)
    stays f g h = false≢true (sym g ∙ sym (ap (λ e. e.leaves) (y_at x)) ∙ h.turns x x (ap (λ e. e.leaves) (x_at x) ∙ f))

-- ---- one place more
pub all_more : (ends : List EdgeEnd) (from past place : ℕ) → ((k : ℕ) → from ≤ k → k < place → GoesOn ends from past k) → GoesOn ends from past place → (k : ℕ) → from ≤ k → k < place + 1 → GoesOn ends from past k
all_more ends from past place h here k l m = elim (cases_eq k place) [
  | inl e ↦ (let P : ℕ → Type 0 = GoesOn ends from past in let q : place ≡ k = sym e in subst P q here)
  | inr n ↦ h k l (omega arith)
]

-- the least place of one end more
pub least_more : (ends : List EdgeEnd) (from k least place m : ℕ) → from < k → ((d : EdgeEnd) → (get_or ends k d).way.place ≡ place) → m ≡ min least place → IsLeastPlace ends from k least → IsLeastPlace ends from (k + 1) m
least_more ends from k least place m some at is h = record {
  at = elim (cases_lt place least) [
    | inl l ↦ (k, omega (arith, some), omega arith, λ d. at d ∙ lesser l)
    | inr l ↦ (h.at.0, h.at.1, (let b = h.at.2 in omega (arith, b)), λ d. h.at.3 d ∙ same l)
  ];
  least = λ j d l n. elim (cases_eq j k) [
    | inl e ↦ (let P : ℕ → Type 0 = λ i. m ≤ (get_or ends i d).way.place in subst P (sym e) (let q = at d in omega (arith, is, q)))
    | inr o ↦ (let q = h.least j d l (omega (arith, n, o)) in omega (arith, q, is))
  ];
}
  where
    lesser : place < least → place ≡ m
    lesser l = omega (arith, l, is)

    same : least ≤ place → least ≡ m
    same l = omega (arith, l, is)
