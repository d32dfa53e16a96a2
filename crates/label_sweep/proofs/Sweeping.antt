-- From vertex to vertex: the edges before a number begin before the coming vertex, and what stands reaches it.
use Rattle.std.proofs.Common.{◌≡◌, inl, inr, ⊎_elim, ℕ, ◌+◌, ◌-◌, ◌<◌, ◌≤◌, List, [], map, length, get_or, sym, ap, ◌∙◌, subst, arith}
use Rattle.std.specs.List.{All, AllWithin, Contains}
use Rattle.std.specs.Prelude.{pos, slice_range}
use Rattle.std.proofs.lemmas.Bool.{cases_eq, cases_lt}
use Rattle.std.proofs.lemmas.List.{get_or_default}
use Rattle.std.proofs.lemmas.List.Elements.{All-contains, All-nil}
use Rattle.geom.specs.declared.point.Pt.{Pt}
use Rattle.geom.specs.declared.edge.Edge.{Edge}
use Rattle.geom.specs.declared.edge.Counted.{Counted}
use Rattle.geom.specs.Limit.{AreInLimit}
use Rattle.geom.specs.Order.{IsBefore, IsUpTo}
use Rattle.geom.specs.Rounded.{edges_of}
use Rattle.geom.proofs.Lists.{In, in_contains, contains_in, in_map, map_in}
use Rattle.geom.proofs.Orders.{before_itself, before_trans}
use Rattle.label_sweep.specs.declared.standing.StandingEdge.{StandingEdge}
use Rattle.label_sweep.specs.declared.standing.LabelledEdge.{LabelledEdge}
use Rattle.label_sweep.specs.Column.{IsStripOf}
use Rattle.label_sweep.specs.Labels.{AreLabels, AreLabelsUpTo, IsAt, IsLabelled, IsSweptTo, IsSweptUpTo}
use Rattle.label_sweep.specs.Status.{IsVertexOf}
use Rattle.label_sweep.proofs.Ends.{after_upto}
use Rattle.label_sweep.proofs.Members.{all_of_in, in_of_all, part_in, within_part}
use Rattle.label_sweep.proofs.Words.{standing_reaches}

-- before the vertex with this number
pub record IsSwept (cs own : List Counted) (vs : List Pt) (k next : ℕ) (standing : List StandingEdge) : Type 0 where
  pub within : next ≤ length own
  pub begun : (i : ℕ) (d : Counted) → i < next → (j : ℕ) (u : Pt) → k ≤ j → j < length vs → IsBefore (get_or own i d).edge.p (get_or vs j u)
  pub past : (i : ℕ) (d : Counted) → next ≤ i → i < length own → (j : ℕ) (u : Pt) → j < k → IsBefore (get_or vs j u) (get_or own i d).edge.p
  pub swept : (u : Pt) → k < length vs → IsSweptUpTo cs (get_or vs k u) standing

-- no labels
pub up_to_none : (cs own : List Counted) → AreLabelsUpTo cs own 0 []
up_to_none cs own = record {
  each = All-nil (IsLabelled cs);
  only = All-nil (λ (l : LabelledEdge). Contains (edges_of own) l.edge);
  all = λ i d l m. absurd (omega (arith, m));
}

abbrev pub origin : Pt
origin = record { x = pos 0; y = pos 0 }

module _ (cs before own : List Counted) (vs : List Pt) (a : IsStripOf cs before own vs) where
  -- the order of their numbers is theirs
  number_upto : (k : ℕ) (u : Pt) → k < length vs → (v : Pt) → Contains vs v → ((j : ℕ) → j < k → j < length vs → ¬ (get_or vs j v ≡ v)) → IsUpTo (get_or vs k u) v
  number_upto k u l v m n =
      elim (cases_eq m.0 k) [
        | inl q ↦ inl (get_or_default vs k u v l ∙ ap (λ i. get_or vs i v) (sym q) ∙ m.2)
        | inr q ↦ inr (subst (λ (w : Pt). IsBefore (get_or vs k u) w) (get_or_default vs m.0 u v m.1 ∙ m.2) (a.ascending k m.0 u (later m.0 q (n m.0) m.1 m.2) m.1))
      ]
    where
      later : (j : ℕ) → ¬ (j ≡ k) → (j < k → j < length vs → ¬ (get_or vs j v ≡ v)) → j < length vs → get_or vs j v ≡ v → k < j
      later j q n m e = not_less (λ r. n r m e)
        where
          not_less : (j < k → ⊥) → k < j
          not_less n = omega (arith, q)

  -- ---- the edges that begin at a vertex
  module _ (k from next : ℕ) (standing : List StandingEdge) (s : IsSwept cs own vs k from standing) (v : Pt) (here : k < length vs) (is : v ≡ get_or vs k v)
      (order : from ≤ next) (within : next ≤ length own) (begun : AllWithin (λ c. IsUpTo c.edge.p v) own from next) (past : AllWithin (λ c. IsBefore v c.edge.p) own next (length own)) where
    pub v_in : Contains vs v
    v_in = (k, here, sym is)

    at_or_after : (c : Counted) (i : ℕ) → from ≤ i → i < length own → get_or own i c ≡ c → IsUpTo v c.edge.p
    at_or_after c i f l e = subst (λ (w : Pt). IsUpTo w c.edge.p) (sym is) (number_upto k v here c.edge.p ((a.own_is c).0 (i, l, e)).1
        (λ j m n q. before_itself c.edge.p (subst (λ (w : Pt). IsBefore w c.edge.p) q (subst (λ (d : Counted). IsBefore (get_or vs j c.edge.p) d.edge.p) e (s.past i c f l j c.edge.p m)))))

    both : (p q : Pt) → IsUpTo p q → IsUpTo q p → p ≡ q
    both p q (inl e) m = e
    both p q (inr b) (inl e) = sym e
    both p q (inr b) (inr c) = absurd (before_itself p (before_trans p q p b c))

    starts : (i : ℕ) (d : Counted) → from ≤ i → i < next → Contains cs (get_or own i d) × ((get_or own i d).edge.p ≡ v)
    starts i d f l = let h : i < length own = omega arith in
        let e = get_or_default own i (get_or own i d) d h in
        (((a.own_is (get_or own i d)).0 (i, h, e)).0, both (get_or own i d).edge.p v (begun i d f l) (at_or_after (get_or own i d) i f h e))

    found : (c : Counted) → Contains cs c → c.edge.p ≡ v → Contains (slice_range own from next) c
    found c j b = in_contains (slice_range own from next) c (let P : Counted → Type 0 = λ d. In d (slice_range own from next) in
        subst P i.2 (part_in own from (next - from) i.0 c (not_less (λ m. early m)) (omega (arith, not_more (λ m. late m))) i.1))
      where
        i : Contains own c
        i = (a.own_is c).1 (j, subst (λ (w : Pt). Contains vs w) (sym b) v_in)

        early : i.0 < from → ⊥
        early m = before_itself v (subst (λ (w : Pt). IsBefore w v) b (subst (λ (w : Pt). IsBefore c.edge.p w) (sym is) (subst (λ (d : Counted). IsBefore d.edge.p (get_or vs k v)) i.2 (s.begun i.0 c m k v (omega arith) here))))

        late : next ≤ i.0 → ⊥
        late m = before_itself v (subst (λ (w : Pt). IsBefore v w) b (subst (λ (d : Counted). IsBefore v d.edge.p) i.2 (past i.0 c m i.1)))

        not_less : (i.0 < from → ⊥) → from ≤ i.0
        not_less n = omega arith

        not_more : (next ≤ i.0 → ⊥) → i.0 < next
        not_more n = omega arith

    pub here_at : IsAt cs own v from next standing
    here_at = record {
      layers = a.layers;
      vertex = subst (λ (w : Pt). IsVertexOf (edges_of cs) w) (sym is) (a.only k v here);
      begin = record {
        order = order;
        within = within;
        ascending = a.own_ascends;
        exact = λ c. ((λ i. within_part (λ (c : Counted). Contains cs c × (c.edge.p ≡ v)) own from (next - from) 0 (omega arith) (λ i d f l. starts i d f (omega (arith, l, order))) c (contains_in (slice_range own from next) c i)), (λ i. found c i.0 i.1));
      };
      swept = subst (λ (w : Pt). IsSweptUpTo cs w standing) (sym is) (s.swept v here);
    }

    -- ---- to the next vertex
    module _ (fresh : List StandingEdge) (g : IsSweptTo cs v fresh) where
      pub after_here : (j : ℕ) (u : Pt) → k + 1 ≤ j → j < length vs → IsBefore v (get_or vs j u)
      after_here j u l m = let P : Pt → Type 0 = λ w. IsBefore w (get_or vs j u) in
          subst P (get_or_default vs k u v here ∙ sym is) (a.ascending k j u (omega arith) m)

      upto_here : (i : ℕ) (d : Counted) → i < next → (w : Pt) → IsBefore v w → (i < from → IsBefore (get_or own i d).edge.p w) → IsBefore (get_or own i d).edge.p w
      upto_here i d l w b early = ⊎_elim early (λ f. through (get_or own i d).edge.p (begun i d f l)) (cases_lt i from)
        where
          through : (p : Pt) → IsUpTo p v → IsBefore p w
          through p (inl e) = subst (λ (q : Pt). IsBefore q w) (sym e) b
          through p (inr c) = before_trans p v w c b

      pub no_other : (u : Pt) (l : k + 1 < length vs) (w : Pt) → IsVertexOf (edges_of cs) w → IsBefore v w → IsBefore w (get_or vs (k + 1) u) → ⊥
      no_other u l w x b c = before_itself w (after_upto w (get_or vs (k + 1) u) w c (number_upto (k + 1) u l w w_in (λ j m n e. clash j m n e)))
        where
          w_in : Contains vs w
          w_in = a.gapless v w (get_or vs (k + 1) u) v_in x (k + 1, l, get_or_default vs (k + 1) (get_or vs (k + 1) u) u l) b c

          clash : (j : ℕ) → j < k + 1 → j < length vs → ¬ (get_or vs j w ≡ w)
          clash j m n e = elim (cases_eq j k) [
            | inl q ↦ before_itself v (subst (λ (p : Pt). IsBefore v p) (sym e ∙ ap (λ i. get_or vs i w) q ∙ get_or_default vs k w v here ∙ sym is) b)
            | inr q ↦ before_itself v (before_trans v w v b (subst (λ (p : Pt). IsBefore p v) e (subst (λ (p : Pt). IsBefore (get_or vs j w) p) (get_or_default vs k w v here ∙ sym is) (a.ascending j k w (omega arith) here))))
          ]

      pub next_one : IsSwept cs own vs (k + 1) next fresh
      next_one = record {
        within = within;
        begun = λ i d l j u m n. upto_here i d l (get_or vs j u) (after_here j u m n) (λ f. s.begun i d f j u (omega arith) n);
        past = λ i d l m j u n. elim (cases_eq j k) [
          | inl q ↦ subst (λ (p : Pt). IsBefore p (get_or own i d).edge.p) (is ∙ get_or_default vs k v u here ∙ ap (λ z. get_or vs z u) (sym q)) (past i d l m)
          | inr q ↦ s.past i d (omega arith) m j u (omega arith)
        ];
        swept = λ u l. record { edges = standing_reaches (edges_of cs) v (get_or vs (k + 1) u) (after_here (k + 1) u (omega arith) l) (λ w x b c. no_other u l w x b c) (map (λ s. s.spoke.one.edge) fresh) g.edges; once = g.once; inside = g.inside; under = g.under };
      }

  -- ---- before the first vertex, and behind the last one
  pub begins : (standing : List StandingEdge) → ((u : Pt) → 0 < length vs → IsSweptUpTo cs (get_or vs 0 u) standing) → IsSwept cs own vs 0 0 standing
  begins standing s = record {
    within = omega arith;
    begun = λ i d l. absurd (omega (arith, l));
    past = λ i d l m j u n. absurd (omega (arith, n));
    swept = s;
  }

  none_left : (k next : ℕ) (standing : List StandingEdge) → length vs ≤ k → IsSwept cs own vs k next standing → (i : ℕ) (d : Counted) → i < length own → i < next
  none_left k next standing all s i d l = not_more (λ m.
      let e = get_or_default own i (get_or own i d) d l in
      let n = ((a.own_is (get_or own i d)).0 (i, l, e)).1 in
      before_itself (get_or own i d).edge.p (subst (λ (w : Pt). IsBefore w (get_or own i d).edge.p) n.2 (s.past i d m l n.0 (get_or own i d).edge.p (omega (arith, n.1, all)))))
    where
      not_more : (next ≤ i → ⊥) → i < next
      not_more h = omega arith

  pub all_labelled : (k next : ℕ) (standing : List StandingEdge) → length vs ≤ k → IsSwept cs own vs k next standing → (labelled : List LabelledEdge) → AreLabelsUpTo cs own next labelled → AreLabels cs own labelled
  all_labelled k next standing all s labelled g = record {
    each = g.each;
    exact = λ e. (
      (λ i. let l = in_map (λ (l : LabelledEdge). l.edge) labelled e (contains_in (map (λ (l : LabelledEdge). l.edge) labelled) e i) in
          subst (λ (e : Edge). Contains (edges_of own) e) l.2 (in_of_all (λ (l : LabelledEdge). Contains (edges_of own) l.edge) labelled g.only l.0 l.1)),
      (λ i. let c = in_map (λ (c : Counted). c.edge) own e (contains_in (edges_of own) e i) in
          let n = in_contains own c.0 c.1 in
          subst (λ (e : Edge). Contains (map (λ (l : LabelledEdge). l.edge) labelled) e) (ap (λ (c : Counted). c.edge) n.2 ∙ c.2)
          (g.all n.0 c.0 (omega arith) (none_left k next standing all s n.0 c.0 n.1))),
    );
  }

  pub none_labelled : length vs ≡ 0 → AreLabels cs own []
  none_labelled z = all_labelled 0 0 [] (omega (arith, z)) (begins [] (λ u l. absurd (omega (arith, z, l)))) [] (up_to_none cs own)

  -- ---- what the column before the first vertex needs
  pub before_in_limit : 0 < length vs → All (λ (e : Edge). AreInLimit e.p e.q) (edges_of before)
  before_in_limit some = let b = a.first origin some in
      all_of_in (λ (e : Edge). AreInLimit e.p e.q) (edges_of before) (λ e i.
      let c = in_map (λ (c : Counted). c.edge) before e i in
      let n = All-contains (Contains cs) before c.0 b.crossing.inside (in_contains before c.0 c.1) in
      subst (λ (e : Edge). AreInLimit e.p e.q) c.2 (All-contains (λ (e : Edge). AreInLimit e.p e.q) (edges_of cs) c.0.edge a.layers.in_limit
      (in_contains (edges_of cs) c.0.edge (map_in (λ (c : Counted). c.edge) cs c.0 (contains_in cs c.0 n)))))
