-- Strips of columns: which vertices lie in one, and which edges begin there.
use Rattle.std.proofs.Common.{◌≡◌, ◌⊎◌, inl, inr, ⊎_elim, ℕ, ◌-◌, ◌<◌, ◌≤◌, List, length, get_or, take, refl, ap, ◌∙◌, subst, arith}
use Rattle.std.specs.List.{AllPairs, Contains}
use Rattle.std.specs.Prelude.{slice_range, ◌<ℤ◌, ◌≤ℤ◌}
use Rattle.std.proofs.Math.IntN.{ℤ}
use Rattle.std.proofs.lemmas.Bool.{cases_lt}
use Rattle.std.proofs.lemmas.Int.{ints, by_lt_z}
use Rattle.std.proofs.lemmas.List.{get_or_default}
use Rattle.geom.specs.declared.op.Op.{Op}
use Rattle.geom.specs.declared.point.Pt.{Pt}
use Rattle.geom.specs.declared.edge.Counted.{Counted}
use Rattle.geom.specs.declared.directed.DirectedEdge.{DirectedEdge}
use Rattle.geom.specs.Directed.{IsResultEdge}
use Rattle.geom.specs.EdgeOrder.{IsEdgeBefore}
use Rattle.geom.specs.Order.{IsBefore}
use Rattle.geom.specs.Rounded.{edges_of}
use Rattle.geom.proofs.Lists.{In, in_contains, contains_in, map_in}
use Rattle.geom.proofs.Orders.{before_itself, before_trans}
use Rattle.hands.specs.declared.part.Part.{Part}
use Rattle.points_law.specs.Law.{AreLayers}
use Rattle.label_sweep.specs.declared.swept.SweptEdge.{SweptEdge}
use Rattle.label_sweep.specs.Column.{AreVerticesBetween, BeginsStrip, HaveCrossing, IsStrip, IsStripOf, LiesBetween, OpensColumn}
use Rattle.label_sweep.specs.Leaving.{AreLeaving, AreLeavingBetween}
use Rattle.label_sweep.specs.Status.{IsVertexOf}
use Rattle.label_sweep.specs.Swept.{AreSweptBetween, AreSweptFrom}
use Rattle.label_sweep.proofs.Beside.{pairs_sliced}
use Rattle.label_sweep.proofs.Borders.{clash, edge_not_right}
use Rattle.label_sweep.proofs.Members.{all_of_in, in_take, part_in, some_item, take_in, within_part}

through : {x y z : ℤ} → x ≤ℤ y → y <ℤ z → x <ℤ z
through l m = omega (arith, ints, l, m)

short_of : {x y z : ℤ} → x <ℤ y → y ≤ℤ z → x <ℤ z
short_of l m = omega (arith, ints, l, m)

up_to : {x y z : ℤ} → x ≤ℤ y → y ≤ℤ z → x ≤ℤ z
up_to l m = omega (arith, ints, l, m)

no_less : {m n : ℕ} → (m < n → ⊥) → n ≤ m
no_less h = omega arith

no_more : {m n : ℕ} → (n ≤ m → ⊥) → m < n
no_more h = omega arith

-- an item of a range has a number in it
ranged : {X : Type 0} (xs : List X) (a b : ℕ) → a ≤ b → b ≤ length xs → (x : X) → In x (slice_range xs a b) → (i : ℕ) × (a ≤ i) × (i < b) × (get_or xs i x ≡ x)
ranged {X} xs a b o w x i = within_part (λ (y : X). (i : ℕ) × (a ≤ i) × (i < b) × (get_or xs i y ≡ y)) xs a (b - a) 0 (omega arith)
    (λ k d f l. (k, f, omega (arith, l, o), get_or_default xs k (get_or xs k d) d (omega (arith, l, o, w)))) x i

-- ---- the edges of a list by their numbers
module _ (cs : List Counted) (ascends : AllPairs (λ c d. IsEdgeBefore c.edge d.edge) cs) where
  -- the first end of an edge is a vertex
  begins_at : (c : Counted) → Contains cs c → IsVertexOf (edges_of cs) c.edge.p
  begins_at c n = record { edge = c.edge; inside = in_contains (edges_of cs) c.edge (map_in (λ (c : Counted). c.edge) cs c (contains_in cs c n)); ends = inl refl }

  -- one of greater number begins in the same column or on its right
  from_column : (k : ℕ) (c d : Counted) (n : Contains cs c) → k ≤ n.0 → (get_or cs k d).edge.p.x ≤ℤ c.edge.p.x
  from_column k c d n l = subst (λ (t : Counted). (get_or cs k d).edge.p.x ≤ℤ t.edge.p.x) (get_or_default cs n.0 d c n.1 ∙ n.2)
      (⊎_elim (λ m. edge_not_right (get_or cs k d).edge (get_or cs n.0 d).edge (ascends k n.0 d m n.1)) (λ m. same (again m)) (cases_lt k n.0))
    where
      again : n.0 ≤ k → k ≡ n.0
      again m = omega (arith, l, m)

      same : k ≡ n.0 → (get_or cs k d).edge.p.x ≤ℤ (get_or cs n.0 d).edge.p.x
      same q = subst (λ i. (get_or cs k d).edge.p.x ≤ℤ (get_or cs i d).edge.p.x) q (omega (arith, ints))

  -- one of lesser number than an edge that opens a column begins on the left of that
  left_of_column : (k : ℕ) (c d : Counted) (n : Contains cs c) → OpensColumn cs k → n.0 < k → k < length cs → c.edge.p.x <ℤ (get_or cs k d).edge.p.x
  left_of_column k c d n o l m = subst (λ (t : Counted). t.edge.p.x <ℤ (get_or cs k d).edge.p.x) n.2 (o d m n.0 c (omega arith) l)

-- ---- the edges of a strip
module _ (cs : List Counted) (h : AreLayers cs) (strip : Part) (s : IsStrip cs strip) (vs : List Pt) (a : AreVerticesBetween cs strip.from strip.past vs) where
  abbrev own : List Counted
  own = slice_range cs strip.from strip.past

  -- they begin at its vertices
  own_begins : (c : Counted) → Contains own c → Contains cs c × Contains vs c.edge.p
  own_begins c i =
      let n = ranged cs strip.from strip.past s.order s.within c (contains_in own c i) in
      let l : n.0 < length cs = omega (arith, n.2, s.within) in
      let inside : Contains cs c = (n.0, l, n.3) in (
        inside,
        (a.exact c.edge.p).1 (
          begins_at cs h.ascending c inside,
          record {
            from_edge = (omega (arith, n.1, l), λ d. from_column cs h.ascending strip.from c d inside n.1);
            to_edge = λ d m. left_of_column cs h.ascending strip.past c d inside s.next_column n.2 m;
          },
        ),
      )

  -- and no others do
  begins_own : (c : Counted) → Contains cs c → Contains vs c.edge.p → Contains own c
  begins_own c n i =
      let k = ((a.exact c.edge.p).0 i).1 in
      let low : strip.from ≤ n.0 = no_less (λ l. clash (left_of_column cs h.ascending strip.from c c n s.column l k.from_edge.0) (k.from_edge.1 c)) in
      let high : n.0 < strip.past = no_more (λ l. clash (k.to_edge c (omega (arith, l, n.1))) (from_column cs h.ascending strip.past c c n l)) in
      in_contains own c (subst (λ (d : Counted). In d own) n.2 (part_in cs strip.from (strip.past - strip.from) n.0 c low (omega (arith, low, high)) n.1))

  -- ---- its first vertex
  module _ (u : Pt) (some : 0 < length vs) where
    abbrev v : Pt
    v = get_or vs 0 u

    v_in : IsVertexOf (edges_of cs) v × LiesBetween cs strip.from strip.past v
    v_in = (a.exact v).0 (0, some, get_or_default vs 0 v u some)

    inside : strip.from < length cs
    inside = v_in.1.from_edge.0

    never_before : (w : Pt) → Contains vs w → IsBefore w v → ⊥
    never_before w i b = ⊎_elim
        (λ k. before_itself w (before_trans w v w b (subst (λ (t : Pt). IsBefore v t) (get_or_default vs i.0 u w i.1 ∙ i.2) (a.ascending 0 i.0 u k i.1))))
        (λ k. before_itself w (subst (λ (t : Pt). IsBefore w t) (at_front (none k)) b))
        (cases_lt 0 i.0)
      where
        none : i.0 ≤ 0 → 0 ≡ i.0
        none k = omega (arith, k)

        at_front : 0 ≡ i.0 → v ≡ w
        at_front q = get_or_default vs 0 u w some ∙ ap (λ n. get_or vs n w) q ∙ i.2

    -- a vertex before it lies on the left of the strip
    left_of_strip : (w : Pt) → IsVertexOf (edges_of cs) w → IsBefore w v → (d : Counted) → w.x <ℤ (get_or cs strip.from d).edge.p.x
    left_of_strip w x b d = by_lt_z w.x (get_or cs strip.from d).edge.p.x (λ k. k) (λ k. absurd (never_before w ((a.exact w).1 (x, between k)) b))
      where
        between : (get_or cs strip.from d).edge.p.x ≤ℤ w.x → LiesBetween cs strip.from strip.past w
        between k = record {
          from_edge = (inside, λ e. subst (λ (t : Counted). t.edge.p.x ≤ℤ w.x) (get_or_default cs strip.from d e inside) k);
          to_edge = λ e l. through b.column (v_in.1.to_edge e l);
        }

    column : (w : Pt) → IsVertexOf (edges_of cs) w → IsBefore w v → w.x <ℤ v.x
    column w x b = let d = some_item cs strip.from inside in short_of (left_of_strip w x b d) (v_in.1.from_edge.1 d)

    crossing : HaveCrossing cs v.x (take strip.from cs)
    crossing = record {
      ascending = subst (λ n. AllPairs (λ c d. IsEdgeBefore c.edge d.edge) (take n cs)) (all_of_it strip.from) (pairs_sliced (λ c d. IsEdgeBefore c.edge d.edge) cs 0 strip.from h.ascending);
      inside = all_of_in (Contains cs) (take strip.from cs) (λ c i. in_contains cs c (in_take strip.from cs c i));
      all = λ c n l m. in_contains (take strip.from cs) c (subst (λ (d : Counted). In d (take strip.from cs)) n.2 (take_in cs strip.from n.0 c (early c n l) n.1));
    }
      where
        all_of_it : (n : ℕ) → n - 0 ≡ n
        all_of_it n = omega arith

        before_v : (p : Pt) → p.x <ℤ v.x → IsBefore p v
        before_v p l = record { column = weaker l; row = λ q. absurd (apart l q) }
          where
            weaker : {x y : ℤ} → x <ℤ y → x ≤ℤ y
            weaker l = omega (arith, ints, l)

            apart : {x y : ℤ} → x <ℤ y → x ≡ y → ⊥
            apart l q = omega (arith, ints, l, q)

        early : (c : Counted) (n : Contains cs c) → c.edge.p.x <ℤ v.x → n.0 < strip.from
        early c n l = no_more (λ m. clash (left_of_strip c.edge.p (begins_at cs h.ascending c n) (before_v c.edge.p l) c) (from_column cs h.ascending strip.from c c n m))

    begins : BeginsStrip cs (take strip.from cs) v
    begins = record { layers = h; vertex = v_in.0; column = column; crossing = crossing }

  -- a vertex between two in the strip is in it
  gapless : (u v w : Pt) → Contains vs u → IsVertexOf (edges_of cs) v → Contains vs w → IsBefore u v → IsBefore v w → Contains vs v
  gapless u v w i x j l m =
      let k = ((a.exact u).0 i).1 in
      let n = ((a.exact w).0 j).1 in
      (a.exact v).1 (x, record { from_edge = (k.from_edge.0, λ c. up_to (k.from_edge.1 c) l.column); to_edge = λ c o. through m.column (n.to_edge c o) })

-- the vertices in the columns where some edges begin are a strip, with those edges and the ones before them
pub strip_is_of : (cs : List Counted) → AreLayers cs → (strip : Part) → IsStrip cs strip → (vs : List Pt) → AreVerticesBetween cs strip.from strip.past vs
    → IsStripOf cs (take strip.from cs) (slice_range cs strip.from strip.past) vs
strip_is_of cs h strip s vs a = record {
  layers = h;
  ascending = a.ascending;
  only = all_of_in (IsVertexOf (edges_of cs)) vs (λ v i. ((a.exact v).0 (in_contains vs v i)).0);
  gapless = gapless cs h strip s vs a;
  first = begins cs h strip s vs a;
  own_ascends = pairs_sliced (λ c d. IsEdgeBefore c.edge d.edge) cs strip.from strip.past h.ascending;
  own_is = λ c. (own_begins cs h strip s vs a c, (λ i. begins_own cs h strip s vs a c i.0 i.1));
}

-- ---- what a sweep of the vertices gives
module _ (cs : List Counted) (from past : ℕ) (vs : List Pt) (a : AreVerticesBetween cs from past vs) where
  -- the directed edges that leave them leave the strip
  pub leaving_between : (op : Op) (ds : List DirectedEdge) → AreLeaving op cs vs ds → AreLeavingBetween op cs from past ds
  leaving_between op ds h = record {
    ascending = h.ascending;
    exact = λ d. (
      (λ i. let k = (h.exact d).0 i in (k.0, ((a.exact d.from).0 k.1).1)),
      (λ r. (h.exact d).1 (r.0, (a.exact d.from).1 (record { edge = r.0.edge; inside = r.0.rounded; ends = starts d r.0 }, r.1))),
    );
  }
    where
      starts : (d : DirectedEdge) (r : IsResultEdge op cs d) → (d.from ≡ r.edge.p) ⊎ (d.from ≡ r.edge.q)
      starts d r = ⊎_elim (λ e. inl (ap (λ (t : DirectedEdge). t.from) e)) (λ e. inr (ap (λ (t : DirectedEdge). t.from) e)) r.runs

  -- the edges that begin at them begin in the strip
  pub swept_between : (swept : List SweptEdge) → AreSweptFrom (edges_of cs) vs swept → AreSweptBetween cs from past swept
  swept_between swept h = record {
    each = h.each;
    all = λ e i l. h.all e i ((a.exact e.p).1 (record { edge = e; inside = i; ends = inl refl }, l));
    only = λ k d l. ((a.exact (get_or swept k d).edge.p).0 (h.only k d l)).1;
    upward = h.upward;
    behind = h.behind;
  }
