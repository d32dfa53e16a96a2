-- In a sweep the edge beside each comes before it.
use Rattle.std.proofs.Common.{◌≡◌, ◌⊎◌, inl, inr, ℕ, zero, suc, ◌<◌, List, [], ◌∷◌, map, refl, sym, ap, ◌∙◌, arith, subst, ⊎_elim, length, get_or, Some, None}
use Rattle.std.specs.Prelude.{Option}
use Rattle.std.specs.List.{Contains}
use Rattle.std.proofs.lemmas.List.{get_or-map, length-map}
use Rattle.geom.specs.declared.edge.Edge.{Edge}
use Rattle.geom.specs.declared.point.Pt.{Pt}
use Rattle.geom.specs.Order.{IsBefore, IsUpTo}
use Rattle.geom.proofs.Edges.{before_strict}
use Rattle.geom.proofs.Lists.{some_same}
use Rattle.geom.proofs.Orders.{before_itself}
use Rattle.label_sweep.specs.declared.swept.SweptEdge.{SweptEdge}
use Rattle.label_sweep.specs.Swept.{AreBehind, AreSwept}

-- the edge f stands at a place before i
abbrev pub StandsBefore : List SweptEdge → ℕ → SweptEdge → Edge → Type 0
StandsBefore swept i d f = (j : ℕ) × (j < i) × ((get_or swept j d).edge ≡ f)

-- f begins before the edge at i, or is the one before the list, or stands at a place before
abbrev IsNear : Option SweptEdge → List SweptEdge → ℕ → SweptEdge → Edge → Type 0
IsNear before swept i d f = IsBefore f.p (get_or swept i d).edge.p ⊎ (((t : SweptEdge) × (before ≡ Some t) × (t.edge ≡ f)) ⊎ StandsBefore swept i d f)

step : (before : Option SweptEdge) (s : SweptEdge) (ss : List SweptEdge) (i : ℕ) (d : SweptEdge) (f : Edge) → IsNear (Some s) ss i d f → IsNear before (s ∷ ss) (suc i) d f
step before s ss i d f (inl h) = inl h
step before s ss i d f (inr (inl (t, e, q))) = inr (inr (0, omega arith, ap (λ (x : SweptEdge). x.edge) (some_same refl e) ∙ q))
step before s ss i d f (inr (inr (j, l, q))) = inr (inr (suc j, omega arith, q))

walk : (es : List Edge) (before : Option SweptEdge) (swept : List SweptEdge) → AreBehind es before swept → (i : ℕ) (d : SweptEdge) → i < length swept → (f : Edge) → (get_or swept i d).beside ≡ Some f → Contains es f × IsNear before swept i d f
walk es before [] h i d l f e = absurd (omega arith)
walk es before (s ∷ ss) h zero d l f e = let r = h.0 f e in (r.0, ⊎_elim (λ b. inl b) (λ t. inr (inl t)) r.1)
walk es before (s ∷ ss) h (suc i) d l f e = let r = walk es (Some s) ss h.1 i d (omega arith) f e in (r.0, step before s ss i d f r.1)

module _ (es : List Edge) (swept : List SweptEdge) (h : AreSwept es swept) where
  place_of : (d : SweptEdge) (f : Edge) → Contains (map (λ s. s.edge) swept) f → (j : ℕ) × (j < length swept) × ((get_or swept j d).edge ≡ f)
  place_of d f (j, l, e) = let k : j < length swept = (let m = length-map swept (λ (s : SweptEdge). s.edge) in omega arith) in (j, k, sym (get_or-map (λ (s : SweptEdge). s.edge) swept j d f k) ∙ e)

  -- an edge that is there has a place
  pub has_place : (d : SweptEdge) (f : Edge) → Contains es f → (j : ℕ) × (j < length swept) × ((get_or swept j d).edge ≡ f)
  has_place d f c = place_of d f (h.all f c)

  not_behind : (u v : Pt) → IsUpTo u v → IsBefore v u → ⊥
  not_behind u v (inl e) b = before_itself u (subst (λ (w : Pt). IsBefore w u) (sym e) b)
  not_behind u v (inr a) b = before_strict u v a b

  apart : (i j : ℕ) → (j < i) ⊎ ((i ≡ j) ⊎ (i < j))
  apart zero zero = inr (inl refl)
  apart zero (suc j) = inr (inr (omega arith))
  apart (suc i) zero = inl (omega arith)
  apart (suc i) (suc j) = ⊎_elim (λ l. inl (omega arith)) (λ o. inr (⊎_elim (λ e. inl (ap suc e)) (λ l. inr (omega arith)) o)) (apart i j)

  earlier : (i : ℕ) (d : SweptEdge) (f : Edge) → Contains es f → IsBefore f.p (get_or swept i d).edge.p → StandsBefore swept i d f
  earlier i d f c b =
      let p = has_place d f c in
      let at : IsBefore (get_or swept p.0 d).edge.p (get_or swept i d).edge.p = subst (λ (x : Edge). IsBefore x.p (get_or swept i d).edge.p) (sym p.2) b in
      ⊎_elim (λ l. (p.0, l, p.2))
      (λ o. ⊎_elim
      (λ e. absurd (before_itself (get_or swept p.0 d).edge.p (subst (λ (k : ℕ). IsBefore (get_or swept p.0 d).edge.p (get_or swept k d).edge.p) e at)))
      (λ l. absurd (not_behind (get_or swept i d).edge.p (get_or swept p.0 d).edge.p (h.upward i p.0 d l p.1) at)) o) (apart i p.0)

  first_none : (i : ℕ) (d : SweptEdge) (f : Edge) → Contains es f → IsNear None swept i d f → StandsBefore swept i d f
  first_none i d f c (inl b) = earlier i d f c b
  first_none i d f c (inr (inl (t, e, q))) = absurd (cc)
  first_none i d f c (inr (inr s)) = s

  pub beside_before : (i : ℕ) (d : SweptEdge) → i < length swept → (f : Edge) → (get_or swept i d).beside ≡ Some f → Contains es f × StandsBefore swept i d f
  beside_before i d l f e = let r = walk es None swept h.behind i d l f e in (r.0, first_none i d f r.0 r.1)
