-- The nearest edge below the point just left of a vertex is one, and so a ring has one owner.
use Rattle.std.proofs.Common.{◌≡◌, ◌⊎◌, inl, inr, true, List, refl, sym, ◌∙◌, ap, subst, ⊎_elim, arith}
use Rattle.std.proofs.Math.Logic.{∥∥₁_elim}
use Rattle.std.proofs.Props.{props}
use Rattle.std.specs.Prelude.{◌≢◌, ◌^◌, Contains, int_le, int_lt}
use Rattle.std.proofs.lemmas.Int.{ints}
use lib.IntN.{ℤ, pos, ◌+ℤ◌, ◌-ℤ◌, ◌*ℤ◌}
use lib.Signed.{◌<ℤ◌, ◌≤ℤ◌}
use Rattle.geom.specs.declared.point.Pt.{Pt}
use Rattle.geom.specs.declared.edge.Edge.{Edge}
use Rattle.geom.specs.declared.directed.DirectedEdge.{DirectedEdge}
use Rattle.geom.specs.Order.{IsBefore}
use Rattle.geom.specs.Pixel.{Point, Coincides}
use Rattle.geom.specs.OnSegment.{IsOn}
use Rattle.geom.specs.Noded.{IsEnd}
use Rattle.geom.specs.Parity.{covers}
use Rattle.geom.specs.Directed.{RunsAlong, AreDirected}
use Rattle.geom.specs.NodedEdges.{AreNodedEdges}
use Rattle.geom.specs.Rings.{ring_edges, AreRings}
use Rattle.geom.specs.Holes.{left_of, height, run_of, IsLeastVertex, IsNearestBelow, IsShell, IsOwner}
use Rattle.geom.specs.Holes.IsOwner.{itself, below}
use Rattle.geom.proofs.Edges.{PtOrder, pt_order, edge_path}
use Rattle.geom.proofs.Edges.PtOrder.{before, equal, after}
use Rattle.geom.proofs.Integers.{expand, linear, mul_pos, unscale_lt, unscale_eq}
use Rattle.geom.proofs.Orders.{before_itself}
use Rattle.geom.proofs.Points.{and_both}
use Rattle.geom.proofs.Tests.{le_told, lt_told}
use Rattle.geom.proofs.OneRing.{one_least_vertex, one_ring}
use Rattle.geom.proofs.Numbers.{nonneg, gap_is, both_ways}

-- ---- an edge whose columns have z
record Spans (e : Edge) (z : Point) : Type 0 where
  from : (z.n *ℤ e.p.x) ≤ℤ z.x
  to : z.x <ℤ (z.n *ℤ e.q.x)
  right : pos 0 <ℤ run_of e

goes_right : (n p x q : ℤ) → pos 0 <ℤ n → (n *ℤ p) ≤ℤ x → x <ℤ (n *ℤ q) → pos 0 <ℤ (q -ℤ p)
goes_right n p x q h k l = above (unscale_lt p q n (between (n *ℤ p) (n *ℤ q) k l) (nonneg n h))
  where
    between : (a b : ℤ) → a ≤ℤ x → x <ℤ b → a <ℤ b
    between a b h k = omega (arith, linear)

    above : p <ℤ q → pos 0 <ℤ (q -ℤ p)
    above h = omega (arith, linear)

spans : (e : Edge) (z : Point) → covers e z ≡ true → Spans e z
spans e z c =
    let b = and_both (int_le (z.n *ℤ e.p.x) z.x) (int_lt z.x (z.n *ℤ e.q.x)) c in
    let f = le_told (z.n *ℤ e.p.x) z.x b.0 in
    let t = lt_told z.x (z.n *ℤ e.q.x) b.1 in
    record { from = f; to = t; right = goes_right z.n e.p.x z.x e.q.x z.positive f t }

-- ---- the point of an edge straight below z
-- z moved down by t / (r z.n)
down : (z : Point) (r t : ℤ) → pos 0 <ℤ r → Point
down z r t h = record { x = z.x *ℤ r; y = (z.y *ℤ r) -ℤ t; n = z.n *ℤ r; positive = mul_pos z.n r z.positive h }

on_x : (n r x p g : ℤ) → (n *ℤ r) *ℤ (x *ℤ g) ≡ (n *ℤ g) *ℤ (((n *ℤ r) *ℤ p) +ℤ ((x -ℤ (n *ℤ p)) *ℤ r))
on_x n r x p g = simp expand (omega (arith, linear))

on_y : (n r s x y px py g t : ℤ) → t *ℤ r ≡ ((r *ℤ (y -ℤ (n *ℤ py))) -ℤ (s *ℤ (x -ℤ (n *ℤ px)))) *ℤ g
    → (n *ℤ r) *ℤ ((y *ℤ g) -ℤ t) ≡ (n *ℤ g) *ℤ (((n *ℤ r) *ℤ py) +ℤ ((x -ℤ (n *ℤ px)) *ℤ s))
on_y n r s x y px py g t h = let k = simp expand at (ap (λ (w : ℤ). n *ℤ w) h) in simp expand (omega (arith, linear))

ratio_to : (n p q x : ℤ) → x <ℤ (n *ℤ q) → (x -ℤ (n *ℤ p)) ≤ℤ (n *ℤ (q -ℤ p))
ratio_to n p q x h = simp expand (omega (arith, linear))

on_edge : (e : Edge) (z : Point) (g t : ℤ) (h : pos 0 <ℤ g) → Spans e z → t *ℤ run_of e ≡ height e z *ℤ g → IsOn e.p e.q (down z g t h)
unfolding down
on_edge e z g t h s k = (
  z.x -ℤ (z.n *ℤ e.p.x),
  z.n *ℤ run_of e,
  record {
    ratio = record {
      positive = mul_pos z.n (run_of e) z.positive s.right;
      from = gap_is (z.n *ℤ e.p.x) z.x s.from;
      to = ratio_to z.n e.p.x e.q.x z.x s.to;
    };
    x_is = on_x z.n (run_of e) z.x e.p.x g;
    y_is = on_y z.n (run_of e) (e.q.y -ℤ e.p.y) z.x z.y e.p.x e.p.y g t k;
  },
)

-- it is no end of the edge where z is just left of a vertex
whole_column : (k a b g : ℤ) → pos 0 <ℤ g → a *ℤ g ≡ (k *ℤ g) *ℤ b → a ≡ k *ℤ b
whole_column k a b g h e = unscale_eq a (k *ℤ b) g (simp expand (simp expand at e)) h

not_whole : (x p : ℤ) → (left_of (record { x = x; y = pos 0 })).x ≡ pos (2 ^ 64) *ℤ p → ⊥
not_whole x p e = omega (arith, ints)

no_end : (e : Edge) (v : Pt) (g t : ℤ) (h : pos 0 <ℤ g) → Spans e (left_of v) → IsEnd e (down (left_of v) g t h) → ⊥
unfolding down
no_end e v g t h s d = ∥∥₁_elim d (hlevel props) (⊎_elim
    (λ (c : Coincides e.p (down (left_of v) g t h)). not_whole v.x e.p.x (whole_column (left_of v).n (left_of v).x e.p.x g h c.x_is))
    (λ (c : Coincides e.q (down (left_of v) g t h)). not_whole v.x e.q.x (whole_column (left_of v).n (left_of v).x e.q.x g h c.x_is)))

-- ---- the nearest edge
edge_or_other : (e f : Edge) → (e ≡ f) ⊎ (e ≢ f)
edge_or_other e f = ends (pt_order e.p f.p) (pt_order e.q f.q)
  where
    apart : (p q : Pt) → IsBefore p q → p ≢ q
    apart p q h k = before_itself p (subst (IsBefore p) (sym k) h)

    ends : PtOrder e.p f.p → PtOrder e.q f.q → (e ≡ f) ⊎ (e ≢ f)
    ends (before h) o = inr (λ k. apart e.p f.p h (ap (λ (x : Edge). x.p) k))
    ends (after h) o = inr (λ k. apart f.p e.p h (ap (λ (x : Edge). x.p) (sym k)))
    ends (equal h) (before k) = inr (λ l. apart e.q f.q k (ap (λ (x : Edge). x.q) l))
    ends (equal h) (after k) = inr (λ l. apart f.q e.q k (ap (λ (x : Edge). x.q) (sym l)))
    ends (equal h) (equal k) = inl (edge_path e f h k)

one_way_along : (directed : List DirectedEdge) → AreDirected directed → (d c : DirectedEdge) (e : Edge) → Contains directed d → Contains directed c → RunsAlong d e → RunsAlong c e → d ≡ c
one_way_along directed a d c e i j (inl h) (inl k) = h ∙ sym k
one_way_along directed a d c e i j (inr h) (inr k) = h ∙ sym k
one_way_along directed a d c e i j (inl h) (inr k) = absurd (a.one_way e.p e.q (subst (Contains directed) h i) (subst (Contains directed) k j))
one_way_along directed a d c e i j (inr h) (inl k) = absurd (a.one_way e.p e.q (subst (Contains directed) k j) (subst (Contains directed) h i))

pub one_nearest : (directed : List DirectedEdge) → AreDirected directed → AreNodedEdges directed → (v : Pt) (d e : DirectedEdge) → IsNearestBelow directed (left_of v) d → IsNearestBelow directed (left_of v) e → d ≡ e
one_nearest directed a noded v d e m n = one_way_along directed a d e m.edge m.inside n.inside m.runs (subst (RunsAlong e) (sym one_edge) n.runs)
  where
    first : Spans m.edge (left_of v)
    first = spans m.edge (left_of v) m.below.over

    second : Spans n.edge (left_of v)
    second = spans n.edge (left_of v) n.below.over

    same_height : height m.edge (left_of v) *ℤ run_of n.edge ≡ height n.edge (left_of v) *ℤ run_of m.edge
    same_height = both_ways (height m.edge (left_of v) *ℤ run_of n.edge) (height n.edge (left_of v) *ℤ run_of m.edge) (m.nearest n.edge n.below) (n.nearest m.edge m.below)

    meet : m.edge ≢ n.edge → IsEnd m.edge (down (left_of v) (run_of m.edge) (height m.edge (left_of v)) first.right)
    meet other = (noded d e m.edge n.edge m.inside n.inside m.runs n.runs other (down (left_of v) (run_of m.edge) (height m.edge (left_of v)) first.right)
        (on_edge m.edge (left_of v) (run_of m.edge) (height m.edge (left_of v)) first.right first refl)
        (on_edge n.edge (left_of v) (run_of m.edge) (height m.edge (left_of v)) first.right second same_height)).0

    one_edge : m.edge ≡ n.edge
    one_edge = ⊎_elim (λ q. q) (λ other. absurd (no_end m.edge v (run_of m.edge) (height m.edge (left_of v)) first.right first (meet other))) (edge_or_other m.edge n.edge)

-- ---- the owner
module _ (directed : List DirectedEdge) (rings : List (List Pt)) (a : AreDirected directed) (noded : AreNodedEdges directed) (are : AreRings directed rings) where
  -- the ring of the nearest edge below
  one_below : (h k : List Pt) (v w : Pt) (d c : DirectedEdge) (r s : List Pt) → h ≡ k → IsLeastVertex h v → IsLeastVertex k w → IsNearestBelow directed (left_of v) d → IsNearestBelow directed (left_of w) c
      → Contains rings r → Contains rings s → Contains (ring_edges r) d → Contains (ring_edges s) c → r ≡ s
  one_below h k v w d c r s e l m n o i j x y = one_ring directed rings a are r s d i j x (subst (Contains (ring_edges s)) (sym one_edge) y)
    where
      one_vertex : v ≡ w
      one_vertex = one_least_vertex h v w l (subst (λ (t : List Pt). IsLeastVertex t w) (sym e) m)

      one_edge : d ≡ c
      one_edge = one_nearest directed a noded v d c n (subst (λ (u : Pt). IsNearestBelow directed (left_of u) c) (sym one_vertex) o)

  owners : {r s u t : List Pt} → IsOwner directed rings r s → IsOwner directed rings u t → r ≡ u → s ≡ t
  owners (itself i k) (itself j l) e = e
  owners (itself i k) (below v d ring j l m n x y p) e = absurd (subst IsShell e k l)
  owners (below v d ring i k m n x y o) (itself j l) e = absurd (subst IsShell (sym e) l k)
  owners (below {hole = h} v d ring i k m n x y o) (below {hole = g} w c other j l q z f b p) e = owners o p (one_below h g v w d c ring other e m q n z x f y b)

  pub one_owner : (r s t : List Pt) → IsOwner directed rings r s → IsOwner directed rings r t → s ≡ t
  one_owner r s t o p = owners o p refl
