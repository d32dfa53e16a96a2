-- The vertices in the columns in which a strip's edges begin.
use Rattle.std.proofs.Common.{◌≡◌, inl, inr, ⊎_elim, ℕ, ◌-◌, ◌<◌, ◌≤◌, Bool, true, int_le, List, [], ◌++◌, length, get_or, refl, sym, ap, ◌∙◌, subst, arith}
use Rattle.std.specs.List.{AllPairs, Contains, filter}
use Rattle.std.specs.Prelude.{◌&&◌, ◌<ℤ◌, ◌≤ℤ◌}
use Rattle.std.proofs.Math.IntN.{ℤ}
use Rattle.std.proofs.lemmas.Bool.{cases_eq, cases_lt}
use Rattle.std.proofs.lemmas.Int.{ints, by_lt_z}
use Rattle.std.proofs.lemmas.List.{get_or_default}
use Rattle.std.proofs.lemmas.List.Elements.{All-filter, All-contains_itself, Contains-append_cases, Contains-append_left, Contains-append_right, filter_passes}
use Rattle.std.proofs.lemmas.List.Kept.{AllPairs-filter}
use Rattle.geom.specs.declared.point.Pt.{Pt}
use Rattle.geom.specs.declared.edge.Edge.{Edge}
use Rattle.geom.specs.declared.edge.Counted.{Counted}
use Rattle.geom.specs.Order.{IsBefore}
use Rattle.geom.specs.Rounded.{edges_of}
use Rattle.geom.proofs.Lists.{In, in_contains, contains_in, in_map, map_in}
use Rattle.geom.proofs.Orders.{before_itself, before_trans}
use Rattle.geom.proofs.Tests.{le_told, le_yes}
use Rattle.label_sweep.specs.Column.{BeginsStrip, HaveCrossing, IsStripOf}
use Rattle.label_sweep.specs.Status.{AreVertices, IsVertexOf}
use Rattle.label_sweep.specs.StripLabels.{AreStripEdges, lies_in}
use Rattle.label_sweep.proofs.Borders.{clash, edge_not_right}
use Rattle.label_sweep.proofs.Crossing.{in_filter}
use Rattle.label_sweep.proofs.Members.{all_of_in, in_of_all}

both_true : (a b : Bool) → a ≡ true → b ≡ true → a && b ≡ true
both_true a b h i = grind arith

first_true : (a b : Bool) → a && b ≡ true → a ≡ true
first_true a b h = grind arith

second_true : (a b : Bool) → a && b ≡ true → b ≡ true
second_true a b h = grind arith

-- ---- no edges
pub no_edges : (all crossing own : List Counted) → AreStripEdges all crossing own → length own ≡ 0 → IsStripOf all crossing own []
no_edges all crossing own h z = record {
  layers = h.layers;
  ascending = λ i j d l m. absurd (omega (arith, m));
  only = λ i d l. absurd (omega (arith, l));
  gapless = λ u v w i. absurd (omega (arith, i.1));
  first = λ u l. absurd (omega (arith, l));
  own_ascends = h.own_ascends;
  own_is = λ c. ((λ i. absurd (omega (arith, i.1, z))), (λ i. absurd (omega (arith, i.1.1))));
}

-- ---- some edges
module _ (all crossing own : List Counted) (h : AreStripEdges all crossing own) (vs : List Pt) (a : AreVertices (edges_of (crossing ++ own)) vs) (d : Counted) (some : 0 < length own) where
  abbrev x : ℤ
  x = (get_or own 0 d).edge.p.x

  abbrev y : ℤ
  y = (get_or own (length own - 1) d).edge.p.x

  abbrev kept : List Pt
  kept = filter (lies_in x y) vs

  has_first : Contains own (get_or own 0 d)
  has_first = (0, some, get_or_default own 0 (get_or own 0 d) d some)

  has_last : Contains own (get_or own (length own - 1) d)
  has_last = (length own - 1, omega (arith, some), get_or_default own (length own - 1) (get_or own (length own - 1) d) d (omega (arith, some)))

  -- own edges begin in these columns
  rise : (i j : ℕ) → i ≤ j → j < length own → (get_or own i d).edge.p.x ≤ℤ (get_or own j d).edge.p.x
  rise i j l m = ⊎_elim (λ k. edge_not_right (get_or own i d).edge (get_or own j d).edge (h.own_ascends i j d k m)) (λ k. same (again k)) (cases_lt i j)
    where
      again : j ≤ i → i ≡ j
      again k = omega (arith, l, k)

      same : i ≡ j → (get_or own i d).edge.p.x ≤ℤ (get_or own j d).edge.p.x
      same q = subst (λ n. (get_or own i d).edge.p.x ≤ℤ (get_or own n d).edge.p.x) q (omega (arith, ints))

  from_first : (c : Counted) → Contains own c → x ≤ℤ c.edge.p.x
  from_first c i = subst (λ (t : Counted). x ≤ℤ t.edge.p.x) (get_or_default own i.0 d c i.1 ∙ i.2) (rise 0 i.0 (omega arith) i.1)

  to_last : (c : Counted) → Contains own c → c.edge.p.x ≤ℤ y
  to_last c i = subst (λ (t : Counted). t.edge.p.x ≤ℤ y) (get_or_default own i.0 d c i.1 ∙ i.2) (rise i.0 (length own - 1) (omega (arith, i.1)) (omega (arith, some)))

  -- the columns lie in the strip
  in_strip : (z : ℤ) → x ≤ℤ z → z ≤ℤ y → h.strip_of z ≡ h.strip
  in_strip z l m = let p = ((h.own_is (get_or own 0 d)).0 has_first).1 in
      let q = ((h.own_is (get_or own (length own - 1) d)).0 has_last).1 in
      let r = h.rises x z l in
      let s = h.rises z y m in
      omega (arith, p, q, r, s)

  kept_is : (v : Pt) → Contains kept v → Contains vs v × (x ≤ℤ v.x) × (v.x ≤ℤ y)
  kept_is v i = let j = contains_in kept v i in
      let t = in_of_all (λ (v : Pt). lies_in x y v ≡ true) kept (filter_passes (lies_in x y) vs) v j in (
        in_of_all (Contains vs) kept (All-filter (lies_in x y) (Contains vs) vs (All-contains_itself vs)) v j,
        le_told _ _ (first_true (int_le x v.x) (int_le v.x y) t),
        le_told _ _ (second_true (int_le x v.x) (int_le v.x y) t),
      )

  is_kept : (v : Pt) → Contains vs v → x ≤ℤ v.x → v.x ≤ℤ y → Contains kept v
  is_kept v i l m = in_contains kept v (in_filter (lies_in x y) vs v (contains_in vs v i) (both_true (int_le x v.x) (int_le v.x y) (le_yes _ _ l) (le_yes _ _ m)))

  among : (c : Counted) → Contains (crossing ++ own) c → Contains (edges_of (crossing ++ own)) c.edge
  among c i = in_contains (edges_of (crossing ++ own)) c.edge (map_in (λ (c : Counted). c.edge) (crossing ++ own) c (contains_in (crossing ++ own) c i))

  -- all vertices in them are there
  vertex_kept : (v : Pt) → IsVertexOf (edges_of all) v → x ≤ℤ v.x → v.x ≤ℤ y → Contains kept v
  vertex_kept v e l m = is_kept v ((a.exact v).1 (⊎_elim first_end second_end e.ends)) l m
    where
      c : (c : Counted) × In c all × (c.edge ≡ e.edge)
      c = in_map (λ (c : Counted). c.edge) all e.edge (contains_in (edges_of all) e.edge e.inside)

      inside : Contains all c.0
      inside = in_contains all c.0 c.1

      first_end : v ≡ e.edge.p → IsVertexOf (edges_of (crossing ++ own)) v
      first_end q = let is : v ≡ c.0.edge.p = q ∙ ap (λ (g : Edge). g.p) (sym c.2) in
          let P : Pt → Type 0 = λ w. h.strip_of w.x ≡ h.strip in
          let i = (h.own_is c.0).1 (inside, subst P is (in_strip v.x l m)) in
          record { edge = c.0.edge; inside = among c.0 (Contains-append_right crossing own c.0 i); ends = inl is }

      second_end : v ≡ e.edge.q → IsVertexOf (edges_of (crossing ++ own)) v
      second_end q = let is : v ≡ c.0.edge.q = q ∙ ap (λ (g : Edge). g.q) (sym c.2) in
          let P : Pt → Type 0 = λ w. h.strip_of w.x ≡ h.strip in
          let there : h.strip_of c.0.edge.q.x ≡ h.strip = subst P is (in_strip v.x l m) in
          let low = h.rises c.0.edge.p.x c.0.edge.q.x c.0.edge.ordered.column in
          record {
            edge = c.0.edge;
            inside = among c.0 (elim (cases_eq (h.strip_of c.0.edge.p.x) h.strip) [
              | inl k ↦ Contains-append_right crossing own c.0 ((h.own_is c.0).1 (inside, k))
              | inr k ↦ Contains-append_left crossing own c.0 ((h.crossing_is c.0).1 (inside, omega (arith, k, low, there), omega (arith, there)))
            ]);
            ends = inr is;
          }

  of_all : (c : Counted) → Contains (crossing ++ own) c → Contains all c
  of_all c i = ⊎_elim (λ j. ((h.crossing_is c).0 j).0) (λ j. ((h.own_is c).0 j).0) (Contains-append_cases crossing own c i)

  kept_vertex : (v : Pt) → Contains kept v → IsVertexOf (edges_of all) v
  kept_vertex v i = let e = (a.exact v).0 (kept_is v i).0 in
      let c = in_map (λ (c : Counted). c.edge) (crossing ++ own) e.edge (contains_in (edges_of (crossing ++ own)) e.edge e.inside) in
      let n = of_all c.0 (in_contains (crossing ++ own) c.0 c.1) in
      record {
        edge = e.edge;
        inside = subst (λ (g : Edge). Contains (edges_of all) g) c.2 (in_contains (edges_of all) c.0.edge (map_in (λ (c : Counted). c.edge) all c.0 (contains_in all c.0 n)));
        ends = e.ends;
      }

  ascending : AllPairs IsBefore kept
  ascending = AllPairs-filter IsBefore (lies_in x y) vs a.ascending

  begins_at : (c : Counted) → Contains own c → IsVertexOf (edges_of all) c.edge.p
  begins_at c i = record { edge = c.edge; inside = in_contains (edges_of all) c.edge (map_in (λ (c : Counted). c.edge) all c (contains_in all c ((h.own_is c).0 i).0)); ends = inl refl }

  -- ---- the first of them
  module _ (u : Pt) (l : 0 < length kept) where
    abbrev w : Pt
    w = get_or kept 0 u

    w_in : Contains kept w
    w_in = (0, l, get_or_default kept 0 w u l)

    never_before : (v : Pt) → Contains kept v → IsBefore v w → ⊥
    never_before v i b = ⊎_elim
        (λ k. before_itself v (before_trans v w v b (subst (λ (t : Pt). IsBefore w t) (get_or_default kept i.0 u v i.1 ∙ i.2) (ascending 0 i.0 u k i.1))))
        (λ k. before_itself v (subst (λ (t : Pt). IsBefore v t) (at_front (none k)) b))
        (cases_lt 0 i.0)
      where
        none : i.0 ≤ 0 → 0 ≡ i.0
        none k = omega (arith, k)

        at_front : 0 ≡ i.0 → w ≡ v
        at_front q = get_or_default kept 0 u v l ∙ ap (λ n. get_or kept n v) q ∙ i.2

    first_in : Contains kept (get_or own 0 d).edge.p
    first_in = vertex_kept (get_or own 0 d).edge.p (begins_at (get_or own 0 d) has_first) (omega (arith, ints)) (to_last (get_or own 0 d) has_first)

    left_of_w : (v : Pt) → IsVertexOf (edges_of all) v → IsBefore v w → v.x <ℤ w.x
    left_of_w v e b = by_lt_z v.x w.x (λ k. k) (λ k. absurd (never_before v (vertex_kept v e (upto (kept_is w w_in).1 k) (upto b.column (kept_is w w_in).2)) b))
      where
        upto : {r s t : ℤ} → r ≤ℤ s → s ≤ℤ t → r ≤ℤ t
        upto m n = omega (arith, ints, m, n)

    -- it lies in the first of the columns
    level : w.x ≡ x
    level = both (by_lt_z x w.x (λ k. absurd (never_before (get_or own 0 d).edge.p first_in (record { column = weaker k; row = λ q. absurd (apart k q) }))) (λ k. k)) (kept_is w w_in).1
      where
        both : {r s : ℤ} → r ≤ℤ s → s ≤ℤ r → r ≡ s
        both m n = omega (arith, ints, m, n)

        weaker : {r s : ℤ} → r <ℤ s → r ≤ℤ s
        weaker m = omega (arith, ints, m)

        apart : {r s : ℤ} → r <ℤ s → r ≡ s → ⊥
        apart m q = omega (arith, ints, m, q)

    have_crossing : HaveCrossing all x crossing
    have_crossing = record {
      ascending = h.crossing_ascends;
      inside = all_of_in (Contains all) crossing (λ c i. ((h.crossing_is c).0 (in_contains crossing c i)).0);
      all = λ c i m n. (h.crossing_is c).1 (i, before_strip c i m, into_strip c n);
    }
      where
        at_x : h.strip_of x ≡ h.strip
        at_x = ((h.own_is (get_or own 0 d)).0 has_first).1

        into_strip : (c : Counted) → x ≤ℤ c.edge.q.x → h.strip ≤ h.strip_of c.edge.q.x
        into_strip c n = let r = h.rises x c.edge.q.x n in omega (arith, r, at_x)

        weaker : {r s : ℤ} → r <ℤ s → r ≤ℤ s
        weaker m = omega (arith, ints, m)

        before_strip : (c : Counted) → Contains all c → c.edge.p.x <ℤ x → h.strip_of c.edge.p.x < h.strip
        before_strip c i m = let r = h.rises c.edge.p.x x (weaker m) in
            elim (cases_eq (h.strip_of c.edge.p.x) h.strip) [
              | inl k ↦ absurd (clash m (from_first c ((h.own_is c).1 (i, k))))
              | inr k ↦ omega (arith, k, r, at_x)
            ]

    begins : BeginsStrip all crossing w
    begins = record {
      layers = h.layers;
      vertex = kept_vertex w w_in;
      column = left_of_w;
      crossing = subst (λ (t : ℤ). HaveCrossing all t crossing) (sym level) have_crossing;
    }

  upto_next : {r s t : ℤ} → r ≤ℤ s → s ≤ℤ t → r ≤ℤ t
  upto_next m n = omega (arith, ints, m, n)

  pub is_strip : IsStripOf all crossing own kept
  is_strip = record {
    layers = h.layers;
    ascending = ascending;
    only = all_of_in (IsVertexOf (edges_of all)) kept (λ v i. kept_vertex v (in_contains kept v i));
    gapless = λ u v w i e j l m. vertex_kept v e (upto_next (kept_is u i).1 l.column) (upto_next m.column (kept_is w j).2);
    first = begins;
    own_ascends = h.own_ascends;
    own_is = λ c. (
      (λ i. (((h.own_is c).0 i).0, vertex_kept c.edge.p (begins_at c i) (from_first c i) (to_last c i))),
      (λ i. let k = kept_is c.edge.p i.1 in (h.own_is c).1 (i.0, in_strip c.edge.p.x k.1 k.2)),
    );
  }

-- by the first and the last edge
pub strip_is : (all crossing own : List Counted) → AreStripEdges all crossing own → (vs : List Pt) → AreVertices (edges_of (crossing ++ own)) vs → 0 < length own → (first last : Counted)
    → first ≡ get_or own 0 first → last ≡ get_or own (length own - 1) last → (vertices : List Pt) → vertices ≡ filter (lies_in first.edge.p.x last.edge.p.x) vs → IsStripOf all crossing own vertices
strip_is all crossing own h vs a some first last f l vertices e =
    let end : last ≡ get_or own (length own - 1) first = l ∙ get_or_default own (length own - 1) last first (omega (arith, some)) in
    subst (IsStripOf all crossing own) (sym (e ∙ (λ i. filter (lies_in (f i).edge.p.x (end i).edge.p.x) vs))) (is_strip all crossing own h vs a first some)
