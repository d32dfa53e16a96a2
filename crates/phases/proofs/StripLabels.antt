-- The edges that tell the labels of a strip, and the directed edges of one strip after another.
use Rattle.std.proofs.Common.{◌≡◌, inl, inr, ⊎_elim, ℕ, zero, suc, ◌+◌, ◌<◌, Bool, true, List, [], ◌∷◌, ◌++◌, Some, append_assoc, cond, length, get_or, take, refl, sym, ap, ◌∙◌, subst, arith}
use Rattle.std.specs.List.{All, AllPairs, Contains, filter}
use Rattle.std.specs.Prelude.{◌↔◌, flat_map, slice_get}
use Rattle.std.proofs.Math.IntN.{ℤ}
use Rattle.std.proofs.lemmas.Bool.{cases_eq, eq-eqb, eqb-true, lt-ltb, ltb-true}
use Rattle.std.proofs.lemmas.Int.{by_lt_z}
use Rattle.std.proofs.lemmas.List.Elements.{All-contains, All-contains_itself, All-filter, Contains-append_cases, Contains-append_left, Contains-append_right, filter_more, filter_passes}
use Rattle.std.proofs.lemmas.List.Kept.{AllPairs-cons, AllPairs-filter}
use Rattle.geom.specs.declared.op.Op.{Op}
use Rattle.geom.specs.declared.point.Pt.{Pt}
use Rattle.geom.specs.declared.edge.Edge.{Edge}
use Rattle.geom.specs.declared.edge.Counted.{Counted}
use Rattle.geom.specs.declared.directed.DirectedEdge.{DirectedEdge}
use Rattle.geom.specs.Directed.{AreResultEdges, IsDirectedBefore}
use Rattle.geom.specs.EdgeOrder.{IsEdgeBefore}
use Rattle.geom.specs.Limit.{AreInLimit}
use Rattle.geom.specs.Rounded.{edges_of}
use Rattle.geom.proofs.Edges.{before_by_cases}
use Rattle.geom.proofs.Lists.{In, contains_in, in_append, in_back, in_contains, in_front, in_map, map_in, some_same}
use Rattle.geom.proofs.ListOrder.{pairs_head, pairs_tail}
use Rattle.points_law.specs.Law.{AreLayers}
use Rattle.label_sweep.specs.Changing.{changes}
use Rattle.label_sweep.specs.StripLabels.{AreResultEdgesAlong, AreStripEdges, IsResultEdgeAlong}
use Rattle.label_sweep.proofs.Crossing.{in_filter}
use Rattle.label_sweep.proofs.Limits.{some_in_limit}
use Rattle.label_sweep.proofs.Members.{all_of_in}
use Rattle.strips_law.specs.Strips.{strip_at, strip_of}
use Rattle.strips_law.proofs.Columns.{strips_grow, within_cuts}
use Rattle.phases.specs.Labels.{AreOfStrip, AreResultEdgesBefore, ComeInto, EdgesAreOfStrips, IsResultEdgeBefore, TellLabels, begins_in, goes_on}

-- ---- those that pass a test
module _ (test : Counted → Bool) (cs : List Counted) (c : Counted) where
  kept_is : Contains (filter test cs) c → Contains cs c × (test c ≡ true)
  kept_is i = (All-contains (Contains cs) (filter test cs) c (All-filter test (Contains cs) cs (All-contains_itself cs)) i, All-contains (λ c. test c ≡ true) (filter test cs) c (filter_passes test cs) i)

  is_kept : Contains cs c → test c ≡ true → Contains (filter test cs) c
  is_kept i t = in_contains (filter test cs) c (in_filter test cs c (contains_in cs c i) t)

-- and one more of them
pub more_kept : (test : Counted → Bool) (cs : List Counted) (n : ℕ) (c : Counted) (front old new : List Counted) → n < length cs → c ≡ get_or cs n c → new ≡ old ++ cond (test c) (c ∷ []) []
    → old ≡ front ++ filter test (take n cs) → new ≡ front ++ filter test (take (n + 1) cs)
more_kept test cs n c front old new l is e before = e ∙ ap (λ t. t ++ cond (test c) (c ∷ []) []) before ∙ append_assoc front (filter test (take n cs)) (cond (test c) (c ∷ []) [])
    ∙ ap (λ t. front ++ t) (ap (λ (t : Counted). filter test (take n cs) ++ cond (test t) (t ∷ []) []) is ∙ sym (filter_more test cs n c l))

-- ---- a strip's own edges
pub own_are : (cuts : List ℤ) (strip : ℕ) (counted : List Counted) → AreLayers counted → (own : List Counted) → own ≡ filter (begins_in cuts strip) counted → AreOfStrip cuts strip counted own
own_are cuts strip counted h own e = subst (AreOfStrip cuts strip counted) (sym e) (record {
  ascending = AllPairs-filter (λ (c d : Counted). IsEdgeBefore c.edge d.edge) (begins_in cuts strip) counted h.ascending;
  exact = λ c. (
    (λ i. let k = kept_is (begins_in cuts strip) counted c i in (k.0, eqb-true _ _ k.1)),
    (λ i. is_kept (begins_in cuts strip) counted c i.0 (eq-eqb _ _ i.1)),
  );
})

pub changing_are : (cuts : List ℤ) (strip : ℕ) (counted own : List Counted) → AreOfStrip cuts strip counted own → (odd : List Counted) → odd ≡ filter changes own → AreOfStrip cuts strip (filter changes counted) odd
changing_are cuts strip counted own o odd e = subst (AreOfStrip cuts strip (filter changes counted)) (sym e) (record {
  ascending = AllPairs-filter (λ (c d : Counted). IsEdgeBefore c.edge d.edge) changes own o.ascending;
  exact = λ c. (
    (λ i. let k = kept_is changes own c i in let n = (o.exact c).0 k.0 in (is_kept changes counted c n.0 k.1, n.1)),
    (λ i. let k = kept_is changes counted c i.0 in is_kept changes own c ((o.exact c).1 (k.0, i.1)) k.1),
  );
})

-- ---- in lists of one strip after another
at_some : (strips : List (List Counted)) (c : Counted) → In c (flat_map (λ edges. edges) strips) → (k : ℕ) × (t : List Counted) × (slice_get strips k ≡ Some t) × In c t
at_some [] c i = absurd i
at_some (t ∷ strips) c i = ⊎_elim (λ j. (0, t, refl, j)) (λ j. let r = at_some strips c j in (suc r.0, r.1, r.2, r.3)) (in_append t (flat_map (λ edges. edges) strips) c i)

from_some : (strips : List (List Counted)) (k : ℕ) (t : List Counted) → slice_get strips k ≡ Some t → (c : Counted) → In c t → In c (flat_map (λ edges. edges) strips)
from_some [] k t e c i = absurd (let q = e in cc)
from_some (u ∷ strips) zero t e c i = in_front u (flat_map (λ edges. edges) strips) c (let P : List Counted → Type 0 = λ s. In c s in subst P (some_same e refl) i)
from_some (u ∷ strips) (suc k) t e c i = in_back u (flat_map (λ edges. edges) strips) c (from_some strips k t e c i)

pub edges_are_of_strips : EdgesAreOfStrips
edges_are_of_strips cuts lines strips each strip own is = let o = each strip own is in record {
  ascending = o.ascending;
  exact = λ c. (
    (λ i. (in_contains (flat_map (λ edges. edges) strips) c (from_some strips strip own is c (contains_in own c i)), ((o.exact c).0 i).0)),
    (λ i. let r = at_some strips c (contains_in (flat_map (λ edges. edges) strips) c i.0) in
        let k = ((each r.0 r.1 r.2).exact c).0 (in_contains r.1 c r.3) in
        let P : ℕ → Type 0 = λ n. slice_get strips n ≡ Some r.1 in
        let Q : List Counted → Type 0 = λ t. Contains t c in
        subst Q (some_same (subst P (sym k.0 ∙ i.1) r.2) is) (in_contains r.1 c r.3)),
  );
}

-- ---- those that come into the next strip
pairs_joined : {X : Type 0} (R : X → X → Type 0) (xs ys : List X) → AllPairs R xs → AllPairs R ys → ((x y : X) → In x xs → In y ys → R x y) → AllPairs R (xs ++ ys)
pairs_joined R [] ys h k across = k
pairs_joined R (x ∷ xs) ys h k across = AllPairs-cons R x (xs ++ ys)
    (all_of_in (R x) (xs ++ ys) (λ y i. ⊎_elim (λ j. pairs_head R x xs h y j) (λ j. across x y (inl refl) j) (in_append xs ys y i)))
    (pairs_joined R xs ys (pairs_tail R x xs h) k (λ y z i j. across y z (inr i) j))

module _ (cuts : List ℤ) (strip : ℕ) (counted crossing own : List Counted) (t : TellLabels counted cuts strip crossing own) where
  abbrev some : List Counted
  some = filter (goes_on cuts strip) crossing

  abbrev more : List Counted
  more = filter (goes_on cuts strip) own

  of_crossing : (c : Counted) → Contains some c → Contains counted c × (strip_at cuts c.edge.p < strip) × (strip < strip_at cuts c.edge.q)
  of_crossing c i = let k = kept_is (goes_on cuts strip) crossing c i in let n = (t.crossing_are.exact c).0 k.0 in (n.0, n.1, ltb-true _ _ k.1)

  of_own : (c : Counted) → Contains more c → Contains counted c × (strip_at cuts c.edge.p ≡ strip) × (strip < strip_at cuts c.edge.q)
  of_own c i = let k = kept_is (goes_on cuts strip) own c i in let n = (t.own_are.exact c).0 k.0 in (n.0, n.1, ltb-true _ _ k.1)

  -- an edge that begins in an earlier strip is less
  earlier : (c d : Counted) → In c some → In d more → IsEdgeBefore c.edge d.edge
  earlier c d i j = let k = of_crossing c (in_contains some c i) in let n = of_own d (in_contains more d j) in
      by_lt_z c.edge.p.x d.edge.p.x (λ l. inl (before_by_cases c.edge.p d.edge.p (inl l)))
      (λ l. let m = strips_grow cuts d.edge.p.x c.edge.p.x l in let u = k.1 in let v = n.1 in absurd (omega (arith, m, u, v)))

  pub come_into : ComeInto cuts (strip + 1) counted (some ++ more)
  come_into = record {
    ascending = pairs_joined (λ (c d : Counted). IsEdgeBefore c.edge d.edge) some more
        (AllPairs-filter (λ (c d : Counted). IsEdgeBefore c.edge d.edge) (goes_on cuts strip) crossing t.crossing_are.ascending)
        (AllPairs-filter (λ (c d : Counted). IsEdgeBefore c.edge d.edge) (goes_on cuts strip) own t.own_are.ascending) earlier;
    exact = λ c. (
      (λ i. ⊎_elim
          (λ j. let k = of_crossing c j in let l = k.1 in let m = k.2 in (k.0, omega (arith, l), omega (arith, m)))
          (λ j. let k = of_own c j in let l = k.1 in let m = k.2 in (k.0, omega (arith, l), omega (arith, m)))
          (Contains-append_cases some more c i)),
      (λ i. let l = i.1 in let m = i.2 in elim (cases_eq (strip_at cuts c.edge.p) strip) [
        | inl e ↦ Contains-append_right some more c (is_kept (goes_on cuts strip) own c ((t.own_are.exact c).1 (i.0, e)) (lt-ltb _ _ (omega (arith, m))))
        | inr e ↦ Contains-append_left some more c (is_kept (goes_on cuts strip) crossing c ((t.crossing_are.exact c).1 (i.0, omega (arith, l, e), omega (arith, m))) (lt-ltb _ _ (omega (arith, m))))
      ]),
    );
  }

  -- all of them are within the limit
  pub crossing_in_limit : All (λ (e : Edge). AreInLimit e.p e.q) (edges_of crossing)
  crossing_in_limit = some_in_limit counted crossing t.layers.in_limit (λ c i. contains_in counted c ((t.crossing_are.exact c).0 (in_contains crossing c i)).0)

  pub own_in_limit : All (λ (e : Edge). AreInLimit e.p e.q) (edges_of own)
  own_in_limit = some_in_limit counted own t.layers.in_limit (λ c i. contains_in counted c ((t.own_are.exact c).0 (in_contains own c i)).0)

  -- with the edges that come into the strip they are a strip's
  pub strip_edges : AreStripEdges counted crossing own
  strip_edges = record {
    layers = t.layers;
    strip_of = strip_of cuts;
    rises = strips_grow cuts;
    strip = strip;
    own_ascends = t.own_are.ascending;
    own_is = t.own_are.exact;
    crossing_ascends = t.crossing_are.ascending;
    crossing_is = t.crossing_are.exact;
  }

pub tell : (counted : List Counted) (cuts : List ℤ) (strip : ℕ) → AreLayers counted → (crossing own some mine : List Counted) → ComeInto cuts strip counted crossing → AreOfStrip cuts strip counted own
    → some ≡ crossing → mine ≡ own → TellLabels counted cuts strip some mine
tell counted cuts strip h crossing own some mine k o e f = record { layers = h; own_are = subst (AreOfStrip cuts strip counted) (sym f) o; crossing_are = subst (ComeInto cuts strip counted) (sym e) k }

-- ---- before the first strip
pub none_come : (cuts : List ℤ) (counted : List Counted) → ComeInto cuts 0 counted []
none_come cuts counted = record {
  ascending = λ i j d l m. absurd (omega (arith, m));
  exact = λ c. ((λ i. absurd (omega (arith, i.1))), (λ i. let l = i.1 in absurd (omega (arith, l))));
}

pub none_before : (op : Op) (cuts : List ℤ) (counted : List Counted) → AreResultEdgesBefore op cuts 0 counted []
none_before op cuts counted d = ((λ i. absurd (omega (arith, i.1))), (λ r. let l = r.before in absurd (omega (arith, l))))

-- ---- one strip more
module _ (op : Op) (cuts : List ℤ) (strip : ℕ) (counted own : List Counted) (o : AreOfStrip cuts strip counted own) (old along : List DirectedEdge) (before : AreResultEdgesBefore op cuts strip counted old)
    (a : AreResultEdgesAlong op counted own along) where
  of_old : (d : DirectedEdge) → Contains old d → IsResultEdgeBefore op cuts (strip + 1) counted d
  of_old d i = let r = (before d).0 i in let l = r.before in record { edge = r.edge; rounded = r.rounded; before = omega (arith, l); runs = r.runs; bounds = r.bounds }

  of_along : (d : DirectedEdge) → Contains along d → IsResultEdgeBefore op cuts (strip + 1) counted d
  of_along d i = let r = (a.exact d).0 i in
      let c = in_map (λ (c : Counted). c.edge) own r.edge (contains_in (edges_of own) r.edge r.inside) in
      let n = (o.exact c.0).0 (in_contains own c.0 c.1) in
      let P : Edge → Type 0 = λ e. Contains (edges_of counted) e × (strip_at cuts e.p ≡ strip) in
      let k = subst P c.2 (in_contains (edges_of counted) c.0.edge (map_in (λ (c : Counted). c.edge) counted c.0 (contains_in counted c.0 n.0)), n.1) in
      let l = k.1 in
      record { edge = r.edge; rounded = k.0; before = omega (arith, l); runs = r.runs; bounds = r.bounds }

  is_one : (d : DirectedEdge) → IsResultEdgeBefore op cuts (strip + 1) counted d → Contains (old ++ along) d
  is_one d r = let l = r.before in elim (cases_eq (strip_at cuts r.edge.p) strip) [
    | inl e ↦ Contains-append_right old along d ((a.exact d).1 (here e))
    | inr e ↦ Contains-append_left old along d ((before d).1 (record { edge = r.edge; rounded = r.rounded; before = omega (arith, l, e); runs = r.runs; bounds = r.bounds }))
  ]
    where
      here : strip_at cuts r.edge.p ≡ strip → IsResultEdgeAlong op counted own d
      here e = let c = in_map (λ (c : Counted). c.edge) counted r.edge (contains_in (edges_of counted) r.edge r.rounded) in
          let P : Edge → Type 0 = λ g. strip_at cuts g.p ≡ strip in
          let i = (o.exact c.0).1 (in_contains counted c.0 c.1, subst P (sym c.2) e) in
          record {
            edge = r.edge;
            inside = subst (λ (g : Edge). Contains (edges_of own) g) c.2 (in_contains (edges_of own) c.0.edge (map_in (λ (c : Counted). c.edge) own c.0 (contains_in own c.0 i)));
            runs = r.runs;
            bounds = r.bounds;
          }

  pub one_more : AreResultEdgesBefore op cuts (strip + 1) counted (old ++ along)
  one_more d = ((λ i. ⊎_elim (of_old d) (of_along d) (Contains-append_cases old along d i)), is_one d)

-- ---- behind the last strip
pub all_edges : (op : Op) (cuts : List ℤ) (strip : ℕ) (counted : List Counted) → length cuts < strip → (list edges : List DirectedEdge) → AreResultEdgesBefore op cuts strip counted list
    → AllPairs IsDirectedBefore edges → ((d : DirectedEdge) → Contains edges d ↔ Contains list d) → AreResultEdges op counted edges
all_edges op cuts strip counted past list edges before ascending same = record {
  ascending = ascending;
  exact = λ d. (
    (λ i. let r = (before d).0 ((same d).0 i) in record { edge = r.edge; rounded = r.rounded; runs = r.runs; bounds = r.bounds }),
    (λ r. (same d).1 ((before d).1 (record { edge = r.edge; rounded = r.rounded; before = within r.edge.p; runs = r.runs; bounds = r.bounds }))),
  );
}
  where
    within : (p : Pt) → strip_at cuts p < strip
    within p = let l = within_cuts cuts p in omega (arith, l, past)
