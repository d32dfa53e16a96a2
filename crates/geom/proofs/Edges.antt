-- Edges are equal where their ends are, and the order of points is strict.
use Rattle.std.proofs.Common.{◌≡◌, ◌⊎◌, inl, inr, sym, ap, ◌∙◌, arith, refl}
use Rattle.std.proofs.Math.Path.{path_j}
use Rattle.std.proofs.Props.{props}
use Rattle.std.specs.Prelude.{◌<ℤ◌}
use Rattle.std.proofs.lemmas.Int.{by_lt_z}
use Rattle.geom.specs.declared.point.Pt.{Pt}
use Rattle.geom.specs.declared.edge.Edge.{Edge}
use Rattle.geom.specs.declared.directed.DirectedEdge.{DirectedEdge}
use Rattle.geom.specs.Directed.{RunsAlong}
use Rattle.geom.specs.Order.{IsBefore}
use Rattle.geom.proofs.Integers.{linear}

pub IsBefore-prop : (p q : Pt) → IsProp (IsBefore p q)
IsBefore-prop p q = hlevel props

abbrev edge : (p q : Pt) → IsBefore p q → Edge
edge p q h = record { p = p; q = q; ordered = h }

pub edge_path : (e f : Edge) → e.p ≡ f.p → e.q ≡ f.q → e ≡ f
edge_path e f h k = path_j (λ (p : Pt) _. (q : Pt) → e.q ≡ q → (o : IsBefore p q) → e ≡ edge p q o)
    (λ q k. path_j (λ (q : Pt) _. (o : IsBefore e.p q) → e ≡ edge e.p q o) (λ o i. edge e.p e.q (IsBefore-prop e.p e.q e.ordered o i)) k) h f.q k f.ordered

-- p is to the left of q, or below it
pub before_cases : (p q : Pt) → IsBefore p q → (p.x <ℤ q.x) ⊎ ((p.x ≡ q.x) × (p.y <ℤ q.y))
before_cases p q h = by_lt_z p.x q.x (λ l. inl l) (λ l. let e : p.x ≡ q.x = (let c = h.column in omega (arith, linear)) in inr (e, h.row e))

pub before_by_cases : (p q : Pt) → (p.x <ℤ q.x) ⊎ ((p.x ≡ q.x) × (p.y <ℤ q.y)) → IsBefore p q
before_by_cases p q (inl l) = record { column = omega (arith, linear); row = λ e. absurd (omega (arith, linear)) }
before_by_cases p q (inr l) = record { column = (let e = l.0 in omega (arith, linear)); row = λ e. l.1 }

after_none : (p q : Pt) → (p.x <ℤ q.x) ⊎ ((p.x ≡ q.x) × (p.y <ℤ q.y)) → IsBefore q p → ⊥
after_none p q (inl l) h = let c = h.column in omega (arith, linear)
after_none p q (inr l) h = let r = h.row (sym l.0) in let s = l.1 in omega (arith, linear)

pub before_strict : (p q : Pt) → IsBefore p q → IsBefore q p → ⊥
before_strict p q h k = after_none p q (before_cases p q h) k

-- an edge is not another one turned round
pub not_turned : (e f : Edge) → e.p ≡ f.q → e.q ≡ f.p → ⊥
not_turned e f h k = turned_by h k e.ordered
  where
    turned_by : {p q : Pt} → p ≡ f.q → q ≡ f.p → IsBefore p q → ⊥
    turned_by {p} {q} h k o = path_j (λ (q : Pt) _. IsBefore p q → ⊥) (λ o. path_j (λ (p : Pt) _. IsBefore p f.p → ⊥) (λ o. before_strict f.p f.q f.ordered o) (sym h) o) (sym k) o

-- a directed edge runs along one edge
pub one_run : (d : DirectedEdge) (e f : Edge) → RunsAlong d e → RunsAlong d f → e ≡ f
one_run d e f (inl h) (inl k) = edge_path e f (ap (λ t. t.from) (sym h ∙ k)) (ap (λ t. t.to) (sym h ∙ k))
one_run d e f (inr h) (inr k) = edge_path e f (ap (λ t. t.to) (sym h ∙ k)) (ap (λ t. t.from) (sym h ∙ k))
one_run d e f (inl h) (inr k) = absurd (not_turned e f (ap (λ t. t.from) (sym h ∙ k)) (ap (λ t. t.to) (sym h ∙ k)))
one_run d e f (inr h) (inl k) = absurd (not_turned e f (ap (λ t. t.to) (sym h ∙ k)) (ap (λ t. t.from) (sym h ∙ k)))

pub record Joining (c e : Pt) : Type 0 where
  pub edge : Edge
  pub ends : ((edge.p ≡ c) × (edge.q ≡ e)) ⊎ ((edge.p ≡ e) × (edge.q ≡ c))

-- two different points are the ends of an edge
pub joining : (c e : Pt) → ¬ (c ≡ e) → Joining c e
joining c e n = by_lt_z c.x e.x
    (λ l. record { edge = edge c e (record { column = omega (arith, linear); row = λ h. absurd (omega (arith, linear)) }); ends = inl (refl, refl) })
    (λ l. by_lt_z e.x c.x
    (λ m. record { edge = edge e c (record { column = omega (arith, linear); row = λ h. absurd (omega (arith, linear)) }); ends = inr (refl, refl) })
    (λ m. by_lt_z c.y e.y
    (λ d. record { edge = edge c e (record { column = m; row = λ h. d }); ends = inl (refl, refl) })
    (λ d. by_lt_z e.y c.y
    (λ u. record { edge = edge e c (record { column = l; row = λ h. u }); ends = inr (refl, refl) })
    (λ u. absurd (n (level c e (omega (arith, linear)) (omega (arith, linear))))))))
  where
    level : (c e : Pt) → c.x ≡ e.x → c.y ≡ e.y → c ≡ e
    level c e h k = λ i. record { x = h i; y = k i }

-- any two points stand in the order, one way or the other, or are equal
pub data PtOrder (p q : Pt) : Type 0 where
  before : IsBefore p q → PtOrder p q
  equal : p ≡ q → PtOrder p q
  after : IsBefore q p → PtOrder p q

pub pt_order : (p q : Pt) → PtOrder p q
pt_order p q = by_lt_z p.x q.x
    (λ l. before (record { column = omega (arith, linear); row = λ h. absurd (omega (arith, linear)) }))
    (λ l. by_lt_z q.x p.x
    (λ m. after (record { column = omega (arith, linear); row = λ h. absurd (omega (arith, linear)) }))
    (λ m. by_lt_z p.y q.y
    (λ d. before (record { column = m; row = λ h. d }))
    (λ d. by_lt_z q.y p.y
    (λ u. after (record { column = l; row = λ h. u }))
    (λ u. equal (one_point p q (omega (arith, linear)) (omega (arith, linear)))))))
  where
    one_point : (p q : Pt) → p.x ≡ q.x → p.y ≡ q.y → p ≡ q
    one_point p q h k = λ i. record { x = h i; y = k i }
