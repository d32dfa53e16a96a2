-- Edges directed with the result on their left: each arrives at a vertex, turns to the first edge met clockwise and leaves along it.
use Rattle.std.proofs.Common.{◌≡◌, ◌⊎◌, inl, inr, Bool, true, false, List, sym, ap, ◌∙◌, arith, subst}
use Rattle.std.specs.List.{Contains}
use Rattle.std.specs.Prelude.{◌≢◌, ◌↔◌}
use Rattle.geom.specs.declared.point.Pt.{Pt}
use Rattle.geom.specs.declared.edge.Edge.{Edge}
use Rattle.geom.specs.declared.directed.DirectedEdge.{DirectedEdge}
use Rattle.geom.specs.Directed.{from_to, RunsAlong}
use Rattle.geom.specs.ResultEdges.{left_side, right_side}
use Rattle.geom.specs.Rings.{IsSooner, IsMetBefore, IsNeighbour, IsNext}
use Rattle.geom.proofs.Lists.{In}
use Rattle.points_law.proofs.Choices.{◌⊕◌, Even, is, parity, left, right}
use Rattle.points_law.proofs.ResultOfChoices.{Edges}
use Rattle.points_law.proofs.Even.{by_test, clash}
use Rattle.points_law.proofs.Counts.{left_turned, right_turned}
use Rattle.points_law.proofs.Turn.{before, ends_at, crossing}
use Rattle.points_law.proofs.Next.{side_before, side_after, NoneBetween, across, leaves, pair}
use Rattle.points_law.proofs.Spokes.{Joins, is_start, no_start, Spoke, spoke, joins_ends, one_edge, one_far, sooner_of, met_before}
use Rattle.points_law.proofs.FirstMet.{FirstMet, first_met, none_between}
use Rattle.points_law.proofs.Truth.{cond_no, cond_yes}

-- d runs along one of the edges, and the parity over the chosen ones is odd on its left and even on its right
pub record Bounds (es : List Edge) (r : Edge → Bool) (d : DirectedEdge) : Type 0 where
  pub edge : Edge
  pub rounded : In edge es
  pub runs : RunsAlong d edge
  pub inside : parity r es (left_side d.from d.to) ≡ true
  pub outside : parity r es (right_side d.from d.to) ≡ false

-- a chosen edge from u to v, with the inside after it, turning clockwise round v
pub record Arrival (es : List Edge) (r : Edge → Bool) (u v : Pt) : Type 0 where
  pub edge : Edge
  pub rounded : In edge es
  pub joins : Joins v u edge
  pub chosen : r edge ≡ true
  pub after : side_after r es v edge ≡ true

-- a chosen edge of v and w
pub record Link (es : List Edge) (r : Edge → Bool) (v w : Pt) : Type 0 where
  pub edge : Edge
  pub rounded : In edge es
  pub joins : Joins v w edge
  pub chosen : r edge ≡ true

flip : (v w : Pt) (e : Edge) → Joins v w e → Joins w v e
flip v w e (inl (h, k)) = inr (k, h)
flip v w e (inr (h, k)) = inl (k, h)

same_way : (u v p q : Pt) → u ≡ p → v ≡ q → from_to u v ≡ from_to p q
same_way u v p q h k = λ i. record { from = h i; to = k i }

differs : (l r a : Bool) → r ≡ l ⊕ a → l ≡ true → r ≡ false → a ≡ true
differs l r a h i j = grind arith

differs' : (l r a : Bool) → r ≡ l ⊕ a → l ≡ false → r ≡ true → a ≡ true
differs' l r a h i j = grind arith

flipped : (x y a : Bool) → y ≡ x ⊕ a → a ≡ true → x ≡ false → y ≡ true
flipped x y a h i j = grind arith

flopped : (x y a : Bool) → y ≡ x ⊕ a → a ≡ true → x ≡ true → y ≡ false
flopped x y a h i j = grind arith

module _ (es : List Edge) (h : Edges es) (r : Edge → Bool) (ev : Even r es) where
  -- ---- the sides of an edge, as they are met at its two ends
  before_out : (v w : Pt) (e : Edge) → e.p ≡ v → side_before r es v e ≡ parity r es (left e)
  before_out v w e k = cond_yes (is v e.p) (parity r es (left e)) (parity r es (right e)) (is_start v e k)

  before_in : (v w : Pt) (e : Edge) → e.q ≡ v → side_before r es v e ≡ parity r es (right e)
  before_in v w e k = cond_no (is v e.p) (parity r es (left e)) (parity r es (right e)) (no_start v e k)

  after_out : (v w : Pt) (e : Edge) → e.p ≡ v → side_after r es v e ≡ parity r es (right e)
  after_out v w e k = cond_yes (is v e.p) (parity r es (right e)) (parity r es (left e)) (is_start v e k)

  after_in : (v w : Pt) (e : Edge) → e.q ≡ v → side_after r es v e ≡ parity r es (left e)
  after_in v w e k = cond_no (is v e.p) (parity r es (right e)) (parity r es (left e)) (no_start v e k)

  -- what is met after an edge at one end is met before it at the other
  other_side : (v w : Pt) (e : Edge) → Joins v w e → side_before r es w e ≡ side_after r es v e
  other_side v w e (inl (k, l)) = before_in w v e l ∙ sym (after_out v w e k)
  other_side v w e (inr (k, l)) = before_out w v e l ∙ sym (after_in v w e k)

  arrival : (u v : Pt) → Bounds es r (from_to u v) → Arrival es r u v
  arrival u v b = by_way b.runs
    where
      by_way : (from_to u v ≡ from_to b.edge.p b.edge.q) ⊎ (from_to u v ≡ from_to b.edge.q b.edge.p) → Arrival es r u v
      by_way (inl d) = record { edge = b.edge; rounded = b.rounded; joins = inr (to, from); chosen = differs (parity r es (left b.edge)) (parity r es (right b.edge)) (r b.edge) (crossing es h r ev b.edge b.rounded) inside outside; after = after_in v u b.edge to ∙ inside }
        where
          to : b.edge.q ≡ v
          to = sym (ap (λ (d : DirectedEdge). d.to) d)

          from : b.edge.p ≡ u
          from = sym (ap (λ (d : DirectedEdge). d.from) d)

          inside : parity r es (left b.edge) ≡ true
          inside = subst (λ (d : DirectedEdge). parity r es (left_side d.from d.to) ≡ true) d b.inside

          outside : parity r es (right b.edge) ≡ false
          outside = subst (λ (d : DirectedEdge). parity r es (right_side d.from d.to) ≡ false) d b.outside
      by_way (inr d) = record { edge = b.edge; rounded = b.rounded; joins = inl (to, from); chosen = differs' (parity r es (left b.edge)) (parity r es (right b.edge)) (r b.edge) (crossing es h r ev b.edge b.rounded) outside inside; after = after_out v u b.edge to ∙ inside }
        where
          to : b.edge.p ≡ v
          to = sym (ap (λ (d : DirectedEdge). d.to) d)

          from : b.edge.q ≡ u
          from = sym (ap (λ (d : DirectedEdge). d.from) d)

          inside : parity r es (right b.edge) ≡ true
          inside = sym (left_turned r es b.edge.p b.edge.q) ∙ subst (λ (d : DirectedEdge). parity r es (left_side d.from d.to) ≡ true) d b.inside

          outside : parity r es (left b.edge) ≡ false
          outside = sym (right_turned r es b.edge.p b.edge.q) ∙ subst (λ (d : DirectedEdge). parity r es (right_side d.from d.to) ≡ false) d b.outside

  departure : (v w : Pt) (e : Edge) → In e es → Joins v w e → side_before r es v e ≡ true → side_after r es v e ≡ false → Bounds es r (from_to v w)
  departure v w e i (inl (k, l)) b a = record { edge = e; rounded = i; runs = inl d; inside = subst (λ (d : DirectedEdge). parity r es (left_side d.from d.to) ≡ true) (sym d) (sym (before_out v w e k) ∙ b); outside = subst (λ (d : DirectedEdge). parity r es (right_side d.from d.to) ≡ false) (sym d) (sym (after_out v w e k) ∙ a) }
    where
      d : from_to v w ≡ from_to e.p e.q
      d = same_way v w e.p e.q (sym k) (sym l)
  departure v w e i (inr (k, l)) b a = record { edge = e; rounded = i; runs = inr d; inside = subst (λ (d : DirectedEdge). parity r es (left_side d.from d.to) ≡ true) (sym d) (left_turned r es e.p e.q ∙ sym (before_in v w e k) ∙ b); outside = subst (λ (d : DirectedEdge). parity r es (right_side d.from d.to) ≡ false) (sym d) (right_turned r es e.p e.q ∙ sym (after_in v w e k) ∙ a) }
    where
      d : from_to v w ≡ from_to e.q e.p
      d = same_way v w e.q e.p (sym k) (sym l)

  module _ (directed : List DirectedEdge) (exact : (d : DirectedEdge) → Contains directed d ↔ Bounds es r d) where
    pub arrives : (u v : Pt) → Contains directed (from_to u v) → Arrival es r u v
    arrives u v c = arrival u v ((exact (from_to u v)).0 c)

    departs : (v w : Pt) (e : Edge) → In e es → Joins v w e → side_before r es v e ≡ true → side_after r es v e ≡ false → Contains directed (from_to v w)
    departs v w e i j b a = (exact (from_to v w)).1 (departure v w e i j b a)

    -- the neighbours of v are the far ends of its chosen edges
    pub link : (v w : Pt) → IsNeighbour directed v w → Link es r v w
    link v w (inl c) = let a = arrives v w c in record { edge = a.edge; rounded = a.rounded; joins = flip w v a.edge a.joins; chosen = a.chosen }
    link v w (inr c) = let a = arrives w v c in record { edge = a.edge; rounded = a.rounded; joins = a.joins; chosen = a.chosen }

    pub neighbour : (v w : Pt) (e : Edge) → In e es → Joins v w e → r e ≡ true → IsNeighbour directed v w
    neighbour v w e i j re = by_test (side_before r es v e) (IsNeighbour directed v w)
        (λ b. inl (departs v w e i j b (flopped (side_before r es v e) (side_after r es v e) (r e) (across es h r ev v e i) re b)))
        (λ b. inr (away (flipped (side_before r es v e) (side_after r es v e) (r e) (across es h r ev v e i) re b)))
      where
        away : side_after r es v e ≡ true → Contains directed (from_to w v)
        away a = departs w v e i (flip v w e j) (other_side v w e j ∙ a) (flopped (side_before r es w e) (side_after r es w e) (r e) (across es h r ev w e i) re (other_side v w e j ∙ a))

    -- no edge is there in both directions
    pub one_way : (u v : Pt) → Contains directed (from_to u v) → ¬ (Contains directed (from_to v u))
    one_way u v c d = clash (side_after r es v a.edge) (flopped (side_before r es v a.edge) (side_after r es v a.edge) (r a.edge) (across es h r ev v a.edge a.rounded) a.chosen early) a.after
      where
        a : Arrival es r u v
        a = arrives u v c

        b : Arrival es r v u
        b = arrives v u d

        same_edge : b.edge ≡ a.edge
        same_edge = one_edge v u b.edge a.edge (flip u v b.edge b.joins) a.joins

        early : side_before r es v a.edge ≡ true
        early = subst (λ (w : Edge). side_before r es v w ≡ true) same_edge (other_side u v b.edge b.joins ∙ b.after)

    -- no two neighbours of a vertex lie in one direction from it
    pub spread : (v a b : Pt) → IsNeighbour directed v a → IsNeighbour directed v b → a ≢ b → IsSooner v a b ⊎ IsSooner v b a
    spread v a b m n d = let f = link v a m in let g = link v b n in
        either v a b f.edge g.edge f.joins g.joins (pair es h v f.edge g.edge f.rounded g.rounded (joins_ends v a f.edge f.joins) (joins_ends v b g.edge g.joins)
        (λ q. d (one_far v a b g.edge (subst (λ (w : Edge). Joins v a w) q f.joins) g.joins)))
      where
        either : (v a b : Pt) (f g : Edge) → Joins v a f → Joins v b g → before v f g ⊕ before v g f ≡ true → IsSooner v a b ⊎ IsSooner v b a
        either v a b f g i j t = by_test (before v f g) (IsSooner v a b ⊎ IsSooner v b a)
            (λ s. inl (sooner_of v a b f g i j s))
            (λ s. inr (sooner_of v b a g f j i (second (before v f g) (before v g f) t s)))
          where
            second : (x y : Bool) → x ⊕ y ≡ true → x ≡ false → y ≡ true
            second x y h k = grind arith

    -- at the end of an edge the first neighbour met is reached by an edge that leaves
    pub turns : (u v : Pt) → Contains directed (from_to u v) → (w : Pt) × Contains directed (from_to v w) × IsNext directed u v w
    turns u v c = (w, departs v w m.edge m.inside s.joins sides.0 sides.1, record { near = inl (departs v w m.edge m.inside s.joins sides.0 sides.1); other = other; first = first })
      where
        a : Arrival es r u v
        a = arrives u v c

        ends : ends_at v a.edge ≡ true
        ends = joins_ends v u a.edge a.joins

        m : FirstMet es r v a.edge es
        m = first_met es h r v a.edge a.rounded ends ev a.chosen

        s : Spoke v m.edge
        s = spoke v m.edge m.ends

        w : Pt
        w = s.end

        none : NoneBetween r es v a.edge m.edge
        none = none_between es h r v a.edge a.rounded ends m.edge m.inside m.ends m.other m.first

        sides : (side_before r es v m.edge ≡ true) × (side_after r es v m.edge ≡ false)
        sides = leaves es h r ev v a.edge m.edge a.rounded m.inside ends m.ends m.other m.chosen a.after none

        other : w ≢ u
        other q = m.other (one_edge v u a.edge m.edge a.joins (subst (λ (x : Pt). Joins v x m.edge) q s.joins))

        first : (b : Pt) → IsNeighbour directed v b → b ≢ u → b ≢ w → IsMetBefore v u w b
        first b n d d' = let l = link v b n in
            met_before v u w b a.edge m.edge l.edge a.joins s.joins l.joins
            (m.first l.edge l.rounded l.chosen (joins_ends v b l.edge l.joins)
            (λ q. d (one_far v b u l.edge l.joins (subst (λ (x : Edge). Joins v u x) q a.joins)))
            (λ q. d' (one_far v b w l.edge l.joins (subst (λ (x : Edge). Joins v w x) q s.joins))))
