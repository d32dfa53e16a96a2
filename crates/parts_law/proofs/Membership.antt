-- Whether a list has a directed edge can be decided.
use Rattle.std.proofs.Common.{◌≡◌, ◌⊎◌, inl, inr, List, [], ◌∷◌, refl, sym, ap, subst, ⊎_elim}
use Rattle.std.specs.Prelude.{Contains}
use Rattle.geom.specs.declared.point.Pt.{Pt}
use Rattle.geom.specs.declared.directed.DirectedEdge.{DirectedEdge}
use Rattle.geom.specs.Order.{IsBefore}
use Rattle.geom.proofs.Edges.{PtOrder, pt_order}
use Rattle.geom.proofs.Edges.PtOrder.{before, equal, after}
use Rattle.geom.proofs.Lists.{In, contains_in, in_contains}
use Rattle.geom.proofs.Orders.{before_itself}

-- ---- one of which P holds, or none
pub some_or_none : {X : Type 0} (P : X → Type 0) → ((x : X) → P x ⊎ (¬ (P x))) → (xs : List X)
    → ((x : X) × In x xs × P x) ⊎ ((x : X) → In x xs → ¬ (P x))
some_or_none {X = X} P tell [] = inr (λ x i h. i)
some_or_none {X = X} P tell (x ∷ xs) = by_head (tell x) (some_or_none P tell xs)
  where
    by_head : P x ⊎ (¬ (P x)) → ((y : X) × In y xs × P y) ⊎ ((y : X) → In y xs → ¬ (P y))
        → ((y : X) × In y (x ∷ xs) × P y) ⊎ ((y : X) → In y (x ∷ xs) → ¬ (P y))
    by_head (inl h) o = inl (x, inl refl, h)
    by_head (inr n) (inl s) = inl (s.0, inr s.1, s.2)
    by_head (inr n) (inr m) = inr (λ y i h. ⊎_elim (λ (e : x ≡ y). n (subst P (sym e) h)) (λ (j : In y xs). m y j h) i)

-- ---- directed edges
one_point_or_two : (p q : Pt) → (p ≡ q) ⊎ (¬ (p ≡ q))
one_point_or_two p q = by_order (pt_order p q)
  where
    by_order : PtOrder p q → (p ≡ q) ⊎ (¬ (p ≡ q))
    by_order (before h) = inr (λ e. before_itself q (subst (λ (t : Pt). IsBefore t q) e h))
    by_order (equal e) = inl e
    by_order (after h) = inr (λ e. before_itself q (subst (λ (t : Pt). IsBefore q t) e h))

one_edge_or_two : (d e : DirectedEdge) → (d ≡ e) ⊎ (¬ (d ≡ e))
one_edge_or_two d e = by_ends (one_point_or_two d.from e.from) (one_point_or_two d.to e.to)
  where
    by_ends : (d.from ≡ e.from) ⊎ (¬ (d.from ≡ e.from)) → (d.to ≡ e.to) ⊎ (¬ (d.to ≡ e.to)) → (d ≡ e) ⊎ (¬ (d ≡ e))
    by_ends (inl h) (inl k) = inl (λ i. record { from = h i; to = k i })
    by_ends (inl h) (inr n) = inr (λ q. n (ap (λ (t : DirectedEdge). t.to) q))
    by_ends (inr n) o = inr (λ q. n (ap (λ (t : DirectedEdge). t.from) q))

-- a directed edge is in a list or not
pub edge_in_or_not : (ds : List DirectedEdge) (d : DirectedEdge) → Contains ds d ⊎ (¬ (Contains ds d))
edge_in_or_not ds d = ⊎_elim
    (λ (s : (e : DirectedEdge) × In e ds × (e ≡ d)). inl (subst (Contains ds) s.2 (in_contains ds s.0 s.1)))
    (λ (n : (e : DirectedEdge) → In e ds → ¬ (e ≡ d)). inr (λ c. n d (contains_in ds d c) refl))
    (some_or_none (λ (e : DirectedEdge). e ≡ d) (λ e. one_edge_or_two e d) ds)
