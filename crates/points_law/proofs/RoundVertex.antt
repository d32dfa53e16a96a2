-- The laws round a vertex, for the directed edges of a result and their rings.
use Rattle.std.proofs.Common.{◌≡◌, ◌⊎◌, inl, inr, Bool, true, false, not, List, refl, sym, ap, ◌∙◌, arith, subst, ⊎_elim}
use Rattle.std.specs.List.{Contains, All, flat_map}
use Rattle.std.specs.Prelude.{◌&&◌, ◌↔◌}
use Rattle.std.proofs.lemmas.List.Elements.{All-contains}
use Rattle.std.proofs.lemmas.List.Sorted.{Contains-permutation, IsPermutation-sym}
use lib.IntN.{ℤ, pos, ◌-ℤ◌, ◌*ℤ◌, neg_ℤ}
use lib.Signed.{◌<ℤ◌, ◌≤ℤ◌, lt_z, le_z}
use borrow.Author.Differences.{ints}
use Rattle.geom.specs.declared.op.Op.{Op}
use Rattle.geom.specs.declared.point.Pt.{Pt}
use Rattle.geom.specs.declared.edge.Edge.{Edge}
use Rattle.geom.specs.declared.edge.Counted.{Counted}
use Rattle.geom.specs.declared.directed.DirectedEdge.{DirectedEdge}
use Rattle.geom.specs.Determinant.{side}
use Rattle.geom.specs.Directed.{from_to, RunsAlong, IsResultEdge, AreResultEdges}
use Rattle.geom.specs.Holes.{IsHole, IsLeastVertex, LiesBelow, IsNearestBelow, AreGrounded, left_of}
use Rattle.geom.specs.Order.{IsBefore}
use Rattle.geom.specs.Parity as geom
use Rattle.geom.specs.Pixel.{Point}
use Rattle.geom.specs.ResultEdges.{holds_at, left_side, right_side}
use Rattle.geom.specs.Rings.{IsMetBefore, IsNext, Closes, Corner, corner, ring_corners, ring_edges, Follows, AreRings}
use Rattle.geom.specs.Rounded.{edges_of}
use Rattle.geom.proofs.Edges.{before_strict}
use Rattle.geom.proofs.Lists.{In, contains_in, in_contains}
use Rattle.geom.proofs.RingEdges.{in_flat}
use Rattle.geom.proofs.OneRing.{opposite}
use Rattle.geom.proofs.SameRings.{not_met, met_turned}
use Rattle.geom.proofs.Numbers.{below_successor}
use Rattle.points_law.specs.Law.{AreLayers}
use Rattle.points_law.proofs.Choices.{Even, is, covers, parity}
use Rattle.points_law.proofs.ResultOfChoices.{Edges}
use Rattle.points_law.proofs.Even.{by_test, is_same, is_refl, clash}
use Rattle.points_law.proofs.Meet.{slope}
use Rattle.points_law.proofs.Vertex.{Vertex}
use Rattle.points_law.proofs.Next.{NoneBetween}
use Rattle.points_law.proofs.HoleVertex.{NoneFromLeft, hole_left, hole_inside}
use Rattle.points_law.proofs.Layers.{and_is, in_result_of, edges_of_layers, result_is_even, holds_where_odd}
use Rattle.points_law.proofs.Spokes.{Joins, spoke, joins_ends, one_edge, not_loop, comes_in, slope_out, between_of}
use Rattle.points_law.proofs.FirstMet.{none_between}
use Rattle.points_law.proofs.Directions.{Bounds, Arrival, Link, arrives, link, neighbour, one_way, spread, turns}
use Rattle.points_law.proofs.EdgeBelow.{NearestOf, nearest_below, begins_left}
use Rattle.points_law.proofs.RingLists.{Pair, in_around, before_other, neither_before}

-- ---- one to one
-- if w is met before u from t, then w is not met before t from u
never_both : (v t u w : Pt) → IsMetBefore v t w u → IsMetBefore v u w t → ⊥
never_both v t u w h k = not_met v t w u h (met_turned v u w t k)

pub next_one_to_one : (directed : List DirectedEdge) (t u v w : Pt) → Contains directed (from_to t v) → Contains directed (from_to u v) → IsNext directed t v w → IsNext directed u v w → t ≡ u
next_one_to_one directed t u v w c d m n = by_test (is t u) (t ≡ u) (λ s. is_same t u s) (λ s. absurd (other s))
  where
    apart : is t u ≡ false → ¬ (t ≡ u)
    apart s e = clash (is u u) (subst (λ x. is x u ≡ false) e s) (is_refl u)

    other : is t u ≡ false → ⊥
    other s = never_both v t u w (m.first u (inr d) (λ e. apart s (sym e)) (λ e. n.other (sym e))) (n.first t (inr c) (apart s) (λ e. m.other (sym e)))

-- ---- the edges of a result as a choice of edges
on_left : (l r : Bool) → l && not r ≡ true → l ≡ true
on_left l r h = grind arith

on_right : (l r : Bool) → l && not r ≡ true → r ≡ false
on_right l r h = grind arith

both_sides : (l r : Bool) → l ≡ true → r ≡ false → l && not r ≡ true
both_sides l r h k = grind arith

lies_over : (e : Edge) (v : Pt) → geom.covers e (left_of v) ≡ covers e (left_of v)
lies_over e v = and_is (le_z ((left_of v).n *ℤ e.p.x) (left_of v).x) (lt_z (left_of v).x ((left_of v).n *ℤ e.q.x))

is_steep : (s d e : ℤ) → s ≡ neg_ℤ d → d ≡ neg_ℤ e → pos 0 <ℤ e → lt_z (pos 0) s ≡ true
is_steep s d e h i k = grind (arith, ints)

-- the corner of a hole at its least vertex
record Turn (directed : List DirectedEdge) (v : Pt) : Type 0 where
  from : Pt
  to : Pt
  comes : Contains directed (from_to from v)
  next : IsNext directed from v to
  before_from : IsBefore v from
  before_to : IsBefore v to
  turns : pos 0 <ℤ side v from to

module _ (op : Op) (cs : List Counted) (h : AreLayers cs) (directed : List DirectedEdge) (R : AreResultEdges op cs directed) where
  abbrev es : List Edge
  es = edges_of cs

  abbrev r : Edge → Bool
  r = in_result_of op cs h

  all_edges : Edges (edges_of cs)
  all_edges = edges_of_layers op cs h

  even : Even (in_result_of op cs h) (edges_of cs)
  even = result_is_even op cs h

  to_bounds : (d : DirectedEdge) → IsResultEdge op cs d → Bounds es r d
  to_bounds d b = record {
    edge = b.edge;
    rounded = contains_in (edges_of cs) b.edge b.rounded;
    runs = b.runs;
    inside = sym (holds_where_odd op cs h (left_side d.from d.to)) ∙ on_left (holds_at op cs (left_side d.from d.to)) (holds_at op cs (right_side d.from d.to)) b.bounds;
    outside = sym (holds_where_odd op cs h (right_side d.from d.to)) ∙ on_right (holds_at op cs (left_side d.from d.to)) (holds_at op cs (right_side d.from d.to)) b.bounds;
  }

  from_bounds : (d : DirectedEdge) → Bounds es r d → IsResultEdge op cs d
  from_bounds d b = record {
    edge = b.edge;
    rounded = in_contains (edges_of cs) b.edge b.rounded;
    runs = b.runs;
    bounds = both_sides (holds_at op cs (left_side d.from d.to)) (holds_at op cs (right_side d.from d.to)) (holds_where_odd op cs h (left_side d.from d.to) ∙ b.inside) (holds_where_odd op cs h (right_side d.from d.to) ∙ b.outside);
  }

  pub exact : (d : DirectedEdge) → Contains directed d ↔ Bounds es r d
  exact d = (λ c. to_bounds d ((R.exact d).0 c), λ b. (R.exact d).1 (from_bounds d b))

  pub closes : Closes directed
  closes = record {
    are_directed = record { ascending = R.ascending; one_way = one_way es all_edges r even directed exact };
    spread = spread es all_edges r even directed exact;
    turns = turns es all_edges r even directed exact;
  }

  -- ---- a corner of a hole at its least vertex
  module _ (u v w : Pt) (c : Contains directed (from_to u v)) (n : IsNext directed u v w) (vu : IsBefore v u) (vw : IsBefore v w) (t : pos 0 <ℤ side v u w) where
    arrived : Arrival es r u v
    arrived = arrives es all_edges r even directed exact u v c

    linked : Link es r v w
    linked = link es all_edges r even directed exact v w n.near

    starts_there : (a : Pt) (e : Edge) → Joins v a e → IsBefore v a → (e.p ≡ v) × (e.q ≡ a)
    starts_there a e (inl k) o = k
    starts_there a e (inr (k, l)) o = absurd (before_strict v a o (comes_in v a e k l))

    first_edge : (arrived.edge.p ≡ v) × (arrived.edge.q ≡ u)
    first_edge = starts_there u arrived.edge arrived.joins vu

    next_edge : (linked.edge.p ≡ v) × (linked.edge.q ≡ w)
    next_edge = starts_there w linked.edge linked.joins vw

    steep : lt_z (pos 0) (slope linked.edge arrived.edge) ≡ true
    steep = is_steep (slope linked.edge arrived.edge) (side v w u) (side v u w) (slope_out v w u linked.edge arrived.edge next_edge.0 next_edge.1 first_edge.0 first_edge.1) (opposite v w u) t

    not_one : ¬ (arrived.edge ≡ linked.edge)
    not_one q = n.other (one_far' (sym q))
      where
        one_far' : linked.edge ≡ arrived.edge → w ≡ u
        one_far' q = sym next_edge.1 ∙ ap (λ (e : Edge). e.q) q ∙ first_edge.1

    none : NoneBetween r es v arrived.edge linked.edge
    none = none_between es all_edges r v arrived.edge arrived.rounded (joins_ends v u arrived.edge arrived.joins) linked.edge linked.rounded (joins_ends v w linked.edge linked.joins) not_one
        (λ f i rf m d d'. let s = spoke v f m in
        between_of v u w s.end arrived.edge linked.edge f arrived.joins linked.joins s.joins
        (n.first s.end (neighbour es all_edges r even directed exact v s.end f i s.joins rf)
        (λ q. d (one_edge v u arrived.edge f arrived.joins (subst (λ x. Joins v x f) q s.joins)))
        (λ q. d' (one_edge v w linked.edge f linked.joins (subst (λ x. Joins v x f) q s.joins)))))

    pub odd_there : parity r es (left_of v) ≡ true
    odd_there = hole_inside es all_edges r even v arrived.edge linked.edge arrived.rounded linked.rounded (sym first_edge.0) (sym next_edge.0) steep none arrived.after

    holds_there : holds_at op cs (left_of v) ≡ true
    holds_there = holds_where_odd op cs h (left_of v) ∙ odd_there

    pub at_vertex : Vertex es v
    at_vertex = record { edge = arrived.edge; inside = arrived.rounded; ends = inl (sym first_edge.0) }

    pub from_left : NoneFromLeft r es v
    from_left = hole_left es all_edges r v arrived.edge linked.edge arrived.rounded linked.rounded (sym first_edge.0) (sym next_edge.0) steep none

    pub nearest : NearestOf es r v es
    nearest = nearest_below es all_edges r v even at_vertex from_left odd_there

  -- what lies below a point is one of the chosen edges
  joins_run : (d : DirectedEdge) (e : Edge) → RunsAlong d e → Joins d.to d.from e
  joins_run d e (inl k) = inr (sym (ap (λ (x : DirectedEdge). x.to) k), sym (ap (λ (x : DirectedEdge). x.from) k))
  joins_run d e (inr k) = inl (sym (ap (λ (x : DirectedEdge). x.to) k), sym (ap (λ (x : DirectedEdge). x.from) k))

  below_chosen : (z : Point) (e : Edge) → LiesBelow directed z e → In e es × (r e ≡ true)
  below_chosen z e b =
      let a = arrives es all_edges r even directed exact b.edge.from b.edge.to b.inside in
      let q : a.edge ≡ e = one_edge b.edge.to b.edge.from a.edge e a.joins (joins_run b.edge e b.runs) in
      (subst (λ (x : Edge). In x es) q a.rounded, subst (λ (x : Edge). r x ≡ true) q a.chosen)

  pub below : (v : Pt) (m : NearestOf es r v es) (d : DirectedEdge) → Contains directed d → RunsAlong d m.edge → IsNearestBelow directed (left_of v) d
  below v m d c k = record {
    inside = c;
    edge = m.edge;
    runs = k;
    below = record { edge = d; inside = c; runs = k; over = lies_over m.edge v ∙ m.over; below = m.below };
    nearest = λ f b. let l = below_chosen (left_of v) f b in m.nearest f l.0 l.1 (sym (lies_over f v) ∙ b.over) b.below;
  }

  further : (v p : Pt) → p.x ≤ℤ (v.x -ℤ pos 1) → IsBefore p v
  further v p h = record { column = below_successor p.x v.x h; row = λ e. absurd (never p.x v.x h e) }
    where
      never : (a b : ℤ) → a ≤ℤ (b -ℤ pos 1) → a ≡ b → ⊥
      never a b h e = omega (arith, ints)

  grounded_by : (v : Pt) → NearestOf es r v es → (d : DirectedEdge) × IsNearestBelow directed (left_of v) d × (IsBefore d.from v ⊎ IsBefore d.to v)
  grounded_by v m = ⊎_elim
      (λ c. (from_to m.edge.p m.edge.q, below v m (from_to m.edge.p m.edge.q) c (inl refl), inl start))
      (λ c. (from_to m.edge.q m.edge.p, below v m (from_to m.edge.q m.edge.p) c (inr refl), inr start))
      (neighbour es all_edges r even directed exact m.edge.p m.edge.q m.edge m.inside (inl (refl, refl)) m.chosen)
    where
      start : IsBefore m.edge.p v
      start = further v m.edge.p (begins_left es all_edges r v m.edge m.over)

  -- ---- holes of rings
  module _ (rings : List (List Pt)) (are : AreRings directed rings) where
    ring_edge : (ring : List Pt) → Contains rings ring → (d : DirectedEdge) → In d (ring_edges ring) → Contains directed d
    ring_edge ring c d i = Contains-permutation (flat_map ring_edges rings) directed d (IsPermutation-sym directed (flat_map ring_edges rings) are.together)
        (in_contains (flat_map ring_edges rings) d (in_flat ring_edges rings ring d (contains_in rings ring c) i))

    turn_of : (ring : List Pt) → Contains rings ring → IsHole ring → (v : Pt) → IsLeastVertex ring v → Turn directed v
    turn_of ring c hole v l = subst (λ x. Turn directed x) same_vertex (record {
      from = hole.at.comes.from;
      to = hole.at.goes.to;
      comes = there;
      next = follows;
      before_from = before_other at hole.at.comes.from (least hole.at.comes.from from_in) not_from;
      before_to = before_other at hole.at.goes.to (least hole.at.goes.to to_in) not_to;
      turns = hole.turns;
    })
      where
        at : Pt
        at = hole.at.comes.to

        p : Pair corner (ring_edges ring) hole.at
        p = in_around corner (ring_edges ring) hole.at (contains_in (ring_corners ring) hole.at hole.on)

        comes_is : p.first ≡ hole.at.comes
        comes_is = ap (λ (x : Corner). x.comes) p.is

        goes_is : p.second ≡ hole.at.goes
        goes_is = ap (λ (x : Corner). x.goes) p.is

        d : Pair from_to ring p.first
        d = in_around from_to ring p.first p.first_in

        e : Pair from_to ring p.second
        e = in_around from_to ring p.second p.second_in

        from_in : In hole.at.comes.from ring
        from_in = subst (λ x. In x ring) (ap (λ (x : DirectedEdge). x.from) (d.is ∙ comes_is)) d.first_in

        to_in : In hole.at.goes.to ring
        to_in = subst (λ x. In x ring) (ap (λ (x : DirectedEdge). x.to) (e.is ∙ goes_is)) e.second_in

        least : (x : Pt) → In x ring → ¬ (IsBefore x hole.at.comes.to)
        least x i = All-contains (λ (y : Pt). ¬ (IsBefore y hole.at.comes.to)) ring x hole.least.least (in_contains ring x i)

        same_vertex : hole.at.comes.to ≡ v
        same_vertex = neither_before hole.at.comes.to v
            (All-contains (λ (y : Pt). ¬ (IsBefore y v)) ring hole.at.comes.to l.least hole.least.on)
            (All-contains (λ (y : Pt). ¬ (IsBefore y hole.at.comes.to)) ring v hole.least.least l.on)

        there : Contains directed (from_to hole.at.comes.from hole.at.comes.to)
        there = ring_edge ring c hole.at.comes (subst (λ x. In x (ring_edges ring)) comes_is p.first_in)

        follows : IsNext directed hole.at.comes.from hole.at.comes.to hole.at.goes.to
        follows = All-contains (Follows directed) (ring_corners ring) hole.at (All-contains (λ (x : List Pt). All (Follows directed) (ring_corners x)) rings ring are.follow c) hole.on

        not_from : ¬ (hole.at.comes.from ≡ hole.at.comes.to)
        not_from = let a = arrives es all_edges r even directed exact hole.at.comes.from hole.at.comes.to there in not_loop hole.at.comes.to hole.at.comes.from a.edge a.joins

        not_to : ¬ (hole.at.goes.to ≡ hole.at.comes.to)
        not_to = let a = link es all_edges r even directed exact hole.at.comes.to hole.at.goes.to follows.near in not_loop hole.at.comes.to hole.at.goes.to a.edge a.joins

    -- the result lies just left of a hole's least vertex
    pub left_of_hole : (hole : List Pt) → Contains rings hole → IsHole hole → (v : Pt) → IsLeastVertex hole v → holds_at op cs (left_of v) ≡ true
    left_of_hole hole c k v l = let t = turn_of hole c k v l in holds_there t.from v t.to t.comes t.next t.before_from t.before_to t.turns

    -- and a nearest edge lies below that point, which begins further left
    pub grounded : AreGrounded directed rings
    grounded hole c k v l = let t = turn_of hole c k v l in grounded_by v (nearest t.from v t.to t.comes t.next t.before_from t.before_to t.turns)
