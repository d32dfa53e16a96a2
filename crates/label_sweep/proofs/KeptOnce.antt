-- A status is kept in one way at most, so that it can be told from a type that knows it.
use Rattle.std.proofs.Common.{◌≡◌, inl, inr, ⊎_elim, ℕ, ◌<◌, List, ◌++◌, length, get_or, sym, ◌∙◌, arith}
use Rattle.std.specs.List.{All, AllPairs, Contains}
use Rattle.std.proofs.Props.{props}
use Rattle.std.proofs.lemmas.Bool.{cases_eq, cases_lt}
use mathlib.Core.HLevel.{is_prop→PathP, Π_prop}
use Rattle.label_sweep.specs.declared.status.Status.{Status}
use Rattle.label_sweep.specs.Chunks.{AreChunks}
use Rattle.label_sweep.specs.Slots.{IsKept, numbers}

-- a number has one place among different ones
module _ (xs : List ℕ) (a : AllPairs (λ i j. ¬ (i ≡ j)) xs) (x : ℕ) where
  one_place : (s t : Contains xs x) → s.0 ≡ t.0
  one_place s t = elim (cases_eq s.0 t.0) [
    | inl q ↦ q
    | inr q ↦ ⊎_elim (λ l. absurd (a s.0 t.0 x l t.1 (s.2 ∙ sym t.2))) (λ l. absurd (a t.0 s.0 x (omega (arith, l, q)) s.1 (t.2 ∙ sym s.2))) (cases_lt s.0 t.0)
  ]

  contains_prop : IsProp (Contains xs x)
  contains_prop s t = let p = one_place s t in λ i. (
    p i,
    is_prop→PathP (λ j. p j < length xs) (λ j. hlevel props) s.1 t.1 i,
    is_prop→PathP (λ j. get_or xs (p j) x ≡ x) (λ j. hlevel props) s.2 t.2 i,
  )

pub kept_prop : {A : Type 0} (status : Status A) → IsProp (IsKept status)
kept_prop status s t = λ i. record {
  chunked = chunked_prop s.chunked t.chunked i;
  inside = inside_prop s.inside t.inside i;
  apart = apart_prop s.apart t.apart i;
  all = all_prop s.all t.all i;
}
  where
    chunked_prop : IsProp (AreChunks status.chunks.items)
    chunked_prop = hlevel props

    inside_prop : IsProp (All (λ n. n < length status.slots.items) (numbers status ++ status.free.items))
    inside_prop = hlevel props

    apart_prop : IsProp (AllPairs (λ m n. ¬ (m ≡ n)) (numbers status ++ status.free.items))
    apart_prop = hlevel props

    all_prop : IsProp ((n : ℕ) → n < length status.slots.items → Contains (numbers status ++ status.free.items) n)
    all_prop = Π_prop (λ n. Π_prop (λ l. contains_prop (numbers status ++ status.free.items) s.apart n))
