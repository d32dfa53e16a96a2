-- That directed edges close has one proof at most, so that it can be told from a type that knows it.
use Rattle.std.proofs.Common.{◌≡◌, ◌≢◌, ◌⊎◌, ℕ, ◌<◌, List, length, sym, ◌∙◌, ap, inl, inr}
use Rattle.std.specs.Prelude.{◌<ℤ◌, pos, Contains, slice_index_or}
use Rattle.std.proofs.Math.Logic.{∥∥₁_elim}
use Rattle.std.proofs.Props.{props}
use Rattle.std.proofs.lemmas.Bool.{false≢true}
use Rattle.std.proofs.lemmas.List.{get_or_default}
use mathlib.Core.HLevel.{is_prop→PathP, Π_prop, ×_prop}
use Rattle.geom.specs.declared.point.Pt.{Pt}
use Rattle.geom.specs.declared.directed.DirectedEdge.{DirectedEdge}
use Rattle.geom.specs.Determinant.{side}
use Rattle.geom.specs.Directed.{from_to, AreDirected, IsDirectedBefore}
use Rattle.geom.specs.Order.{IsBefore}
use Rattle.geom.specs.Rings.{Closes, IsMetBefore, IsNeighbour, IsNext, IsSooner}
use Rattle.geom.proofs.Edges.{before_strict}
use Rattle.polygonize.specs.Next.{nothing}
use Rattle.polygonize.proofs.CycleRings.{less_apart}
use Rattle.polygonize.proofs.NextEdge.Turns.{chain, one_way}
use Rattle.polygonize.proofs.NextEdge.Sooner.{is_met, is_not_met, is_sooner, place_same, same_or_not, sooner_not}

-- ---- cases that exclude each other, and what is there with its facts
either_prop : {A B : Type 0} → IsProp A → IsProp B → (A → ¬ B) → IsProp (A ⊎ B)
either_prop a b not (inl x) (inl y) = ap (λ t. inl t) (a x y)
either_prop a b not (inl x) (inr y) = absurd (not x y)
either_prop a b not (inr x) (inl y) = absurd (not y x)
either_prop a b not (inr x) (inr y) = ap (λ t. inr t) (b x y)

there_prop : {A : Type 0} {B C : A → Type 0} → ((x : A) → IsProp (B x)) → ((x : A) → IsProp (C x)) → (s t : (x : A) × B x × C x) → s.0 ≡ t.0 → s ≡ t
there_prop {A} {B} {C} b c s t p = λ i. (
  p i,
  is_prop→PathP (λ j. B (p j)) (λ j. b (p j)) s.1 t.1 i,
  is_prop→PathP (λ j. C (p j)) (λ j. c (p j)) s.2 t.2 i,
)

-- ---- directed edges
IsDirectedBefore-prop : (d e : DirectedEdge) → IsProp (IsDirectedBefore d e)
IsDirectedBefore-prop d e = either_prop (hlevel props) (hlevel props) (λ h k. less_apart d.from e.from h k.0)

AreDirected-prop : (ds : List DirectedEdge) → IsProp (AreDirected ds)
AreDirected-prop ds a b = λ i. record {
  ascending = ascending-prop a.ascending b.ascending i;
  one_way = one_way-prop a.one_way b.one_way i;
}
  where
    ascending-prop : IsProp ((i j : ℕ) (d : DirectedEdge) → i < j → j < length ds → IsDirectedBefore (slice_index_or ds i d) (slice_index_or ds j d))
    ascending-prop = Π_prop (λ i. Π_prop (λ j. Π_prop (λ d. Π_prop (λ h. Π_prop (λ k. IsDirectedBefore-prop _ _)))))

    one_way-prop : IsProp ((u v : Pt) → Contains ds (from_to u v) → ¬ (Contains ds (from_to v u)))
    one_way-prop = Π_prop (λ u. Π_prop (λ v. Π_prop (λ c. hlevel props)))

module _ (ds : List DirectedEdge) (a : AreDirected ds) where
  Contains-prop : (d : DirectedEdge) → IsProp (Contains ds d)
  Contains-prop d s t = there_prop (λ k. hlevel props) (λ k. hlevel props) s t
      (place_same ds a s.0 t.0 s.1 t.1 ((get_or_default ds s.0 nothing d s.1 ∙ s.2) ∙ sym (get_or_default ds t.0 nothing d t.1 ∙ t.2)))

  IsNeighbour-prop : (v w : Pt) → IsProp (IsNeighbour ds v w)
  IsNeighbour-prop v w = either_prop (Contains-prop (from_to v w)) (Contains-prop (from_to w v)) (a.one_way v w)

-- ---- turning clockwise
IsSooner-prop : (v a b : Pt) → IsProp (IsSooner v a b)
IsSooner-prop v a b = either_prop (hlevel props) (×_prop (either_prop (hlevel props) (hlevel props) (λ h k. before_strict v a h.0 k.0)) (hlevel props)) apart
  where
    apart : IsBefore v a × IsBefore b v → ¬ (((IsBefore v a × IsBefore v b) ⊎ (IsBefore a v × IsBefore b v)) × (side v a b <ℤ pos 0))
    apart h (inl k, turn) = before_strict v b k.1 h.1
    apart h (inr k, turn) = before_strict v a h.0 k.0

-- three directions are met in one order round a vertex
not_round : (v p q r : Pt) → IsSooner v p q → IsSooner v q r → ¬ (IsSooner v r p)
not_round v p q r h k l = false≢true (sym (chain v r q p (one_way v q r (is_sooner v q r k)) (one_way v p q (is_sooner v p q h))) ∙ is_sooner v r p l)

IsMetBefore-prop : (v u a b : Pt) → IsProp (IsMetBefore v u a b)
IsMetBefore-prop v u a b = either_prop (both u a a b) (either_prop (both a b b u) (both b u u a) (λ h k. not_round v u a b k.1 h.0 h.1)) (λ h k. elim k [ inl l ↦ not_round v u a b h.0 h.1 l.1 | inr l ↦ not_round v u a b h.0 h.1 l.0 ])
  where
    both : (p q r s : Pt) → IsProp (IsSooner v p q × IsSooner v r s)
    both p q r s = ×_prop (IsSooner-prop v p q) (IsSooner-prop v r s)

-- ---- the next edge
one_next : (ds : List DirectedEdge) (u v w x : Pt) → IsNext ds u v w → IsNext ds u v x → w ≡ x
one_next ds u v w x n m = elim (same_or_not w x) [
  | inl e ↦ e
  | inr o ↦ absurd (false≢true (sym (is_not_met v u w x (m.first w n.near n.other o)) ∙ is_met v u w x (n.first x m.near m.other (λ e. o (sym e)))))
]

IsNext-prop : (ds : List DirectedEdge) → AreDirected ds → (u v w : Pt) → IsProp (IsNext ds u v w)
IsNext-prop ds a u v w n m = λ i. record {
  near = IsNeighbour-prop ds a v w n.near m.near i;
  other = other-prop n.other m.other i;
  first = first-prop n.first m.first i;
}
  where
    other-prop : IsProp (w ≢ u)
    other-prop = hlevel props

    first-prop : IsProp ((b : Pt) → IsNeighbour ds v b → b ≢ u → b ≢ w → IsMetBefore v u w b)
    first-prop = Π_prop (λ b. Π_prop (λ h. Π_prop (λ k. Π_prop (λ l. IsMetBefore-prop v u w b))))

Closes-prop : (ds : List DirectedEdge) → IsProp (Closes ds)
Closes-prop ds c d = λ i. record {
  are_directed = AreDirected-prop ds c.are_directed d.are_directed i;
  spread = spread-prop c.spread d.spread i;
  turns = turns-prop c.turns d.turns i;
}
  where
    spread-prop : IsProp ((v a b : Pt) → IsNeighbour ds v a → IsNeighbour ds v b → a ≢ b → IsSooner v a b ⊎ IsSooner v b a)
    spread-prop = Π_prop (λ v. Π_prop (λ a. Π_prop (λ b. Π_prop (λ h. Π_prop (λ k. Π_prop (λ n. either_prop (IsSooner-prop v a b) (IsSooner-prop v b a) (sooner_not v a b)))))))

    turns-prop : IsProp ((u v : Pt) → Contains ds (from_to u v) → (w : Pt) × Contains ds (from_to v w) × IsNext ds u v w)
    turns-prop = Π_prop (λ u. Π_prop (λ v. Π_prop (λ h. λ s t. there_prop (λ w. Contains-prop ds c.are_directed (from_to v w)) (IsNext-prop ds c.are_directed u v) s t (one_next ds u v s.0 t.0 s.2 t.2))))

-- what a type that knows it tells
pub closes_of : {ds : List DirectedEdge} → ∥ Closes ds ∥₁ → Closes ds
closes_of {ds} known = ∥∥₁_elim known (Closes-prop ds) (λ c. c)
