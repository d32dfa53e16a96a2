-- Past a vertex: what stands, and the labels of the edges that begin there.
use Rattle.std.proofs.Common.{◌≡◌, inl, inr, ⊎_elim, ℕ, ◌+◌, ◌-◌, ◌<◌, ◌≤◌, Bool, true, false, cond, int_lt, int_le, List, [], ◌∷◌, ◌++◌, map, length, get_or, take, drop, reverse, refl, sym, ap, ◌∙◌, subst, arith, append_assoc}
use Rattle.std.specs.List.{All, AllWithin, AllPairs, Contains}
use Rattle.std.specs.List.Sorted.{IsPartitionedBy}
use Rattle.std.specs.Prelude.{pos, ◌<ℤ◌, ◌≤ℤ◌, slice_range}
use Rattle.std.proofs.Math.IntN.{ℤ, ◌-ℤ◌, ◌*ℤ◌}
use Rattle.std.proofs.lemmas.Bool.{cases_lt}
use Rattle.std.proofs.lemmas.Int.{ints}
use Rattle.std.proofs.lemmas.List.{map-append, take-append-drop}
use Rattle.std.proofs.lemmas.List.Elements.{All-map, All-append, All-contains, All-drop, All-take}
use Rattle.std.proofs.lemmas.List.Folds.{drop_split}
use Rattle.geom.specs.declared.point.Pt.{Pt}
use Rattle.geom.specs.declared.segment.Source.{Source}
use Rattle.geom.specs.declared.segment.Source.TheVariants.{A, B}
use Rattle.geom.specs.declared.edge.Edge.{Edge}
use Rattle.geom.specs.declared.edge.Counted.{Counted}
use Rattle.geom.specs.Determinant.{side}
use Rattle.geom.specs.Limit.{AreInLimit, InLimit}
use Rattle.geom.specs.Order.{IsBefore, IsUpTo}
use Rattle.geom.specs.Parity.{parity}
use Rattle.geom.specs.ResultEdges.{left_side, right_side}
use Rattle.geom.specs.Rounded.{edges_of, odd_edges}
use Rattle.geom.proofs.Integers.{expand, linear}
use Rattle.geom.proofs.Lists.{In, in_contains, contains_in, in_map, map_in, in_append, in_front, in_back}
use Rattle.geom.proofs.Numbers.{never_negative, zero_is_nonneg, zero_is_not_positive}
use Rattle.geom.proofs.Orders.{before_itself}
use Rattle.geom.proofs.Tests.{lt_told, lt_yes}
use Rattle.points_law.specs.Law.{AreLayers}
use Rattle.label_sweep.specs.declared.parities.Parities.{Parities}
use Rattle.label_sweep.specs.declared.standing.Spoke.{Spoke}
use Rattle.label_sweep.specs.declared.standing.StandingEdge.{StandingEdge}
use Rattle.label_sweep.specs.declared.standing.LabelledEdge.{LabelledEdge}
use Rattle.label_sweep.specs.Labels.{AreEnded, AreLabelsUpTo, BeginsWith, IsLabelled, IsSweptTo, IsSweptUpTo, beyond, labels_from, lowest_of, parities_at, parities_beside, standing_of, stands_from}
use Rattle.label_sweep.specs.Status.{AreFresh, AreSpokes, AreStanding, GoesOn, IsRangeAt, IsSteeper, IsUnder, IsVertexOf, Reaches}
use Rattle.label_sweep.proofs.Around.{Steeper, not_steeper, under_turn}
use Rattle.label_sweep.proofs.Labelling.{turn_is_labelled}
use Rattle.label_sweep.proofs.Members.{all_of_in, in_of_all, in_drop, in_reverse, in_take, reverse_in, reverse_cons, map_pairs, map_reverse, within_take, within_drop, within_part, part_in, pairs_of_map}
use Rattle.label_sweep.proofs.Step.{Pairs, clash, pairs_across, pairs_append, pairs_left, pairs_right}
use Rattle.label_sweep.proofs.Turning.{edge_at}
use Rattle.label_sweep.proofs.Words.{ends_are_level, first_left_none, left_of_first, pairs_from, pairs_map, pairs_to, search_is_monotone, standing_stays, steeper_of}

abbrev pub edge_of : StandingEdge → Edge
edge_of s = s.spoke.one.edge

abbrev IsBelow : Pt → Edge → Type 0
IsBelow v e = pos 0 <ℤ side e.p e.q v

abbrev IsAbove : Pt → Edge → Type 0
IsAbove v e = side e.p e.q v <ℤ pos 0

-- they are different
abbrev pub Apart : Edge → Edge → Type 0
Apart e f = ¬ (e ≡ f)

pub vertex_in_limit : (cs : List Counted) → AreLayers cs → (v : Pt) → IsVertexOf (edges_of cs) v → InLimit v
vertex_in_limit cs h v x = let l = All-contains (λ e. AreInLimit e.p e.q) (edges_of cs) x.edge h.in_limit x.inside in
    ⊎_elim (λ e. subst (λ (w : Pt). InLimit w) (sym e) l.a_in) (λ e. subst (λ (w : Pt). InLimit w) (sym e) l.b_in) x.ends

pub range_in_limit : (cs own : List Counted) → AreLayers cs → (v : Pt) (from next : ℕ) → IsRangeAt cs own v from next → All (λ e. AreInLimit e.p e.q) (edges_of (slice_range own from next))
range_in_limit cs own h v from next r = all_of_in (λ e. AreInLimit e.p e.q) (edges_of (slice_range own from next)) (λ e i.
    let c = in_map (λ (c : Counted). c.edge) (slice_range own from next) e i in
    subst (λ (e : Edge). AreInLimit e.p e.q) c.2 (All-contains (λ e. AreInLimit e.p e.q) (edges_of cs) c.0.edge h.in_limit
    (in_contains (edges_of cs) c.0.edge (map_in (λ (c : Counted). c.edge) cs c.0 (contains_in cs c.0 ((r.exact c.0).0 (in_contains (slice_range own from next) c.0 c.1)).0)))))

-- and they are among all edges
pub of_range : (cs own : List Counted) (v : Pt) (from next : ℕ) → IsRangeAt cs own v from next → (ss : List Spoke) → All (λ s. Contains (slice_range own from next) s.one) ss → All (λ s. Contains cs s.one) ss
of_range cs own v from next r ss inside k d l = ((r.exact (get_or ss k d).one).0 (inside k d l)).0

-- ---- the searches
module _ (cs : List Counted) (h : AreLayers cs) (v : Pt) (s : List StandingEdge) (u : IsSweptUpTo cs v s) where
  reaches : All (λ t. Reaches (edges_of cs) v (edge_of t)) s
  reaches = all_of_in (λ t. Reaches (edges_of cs) v (edge_of t)) s (λ t i. (u.edges.exact (edge_of t)).0 (in_contains (map edge_of s) (edge_of t) (map_in edge_of s t i)))

  pub parted : IsPartitionedBy (λ t. int_lt (pos 0) (side t.spoke.one.edge.p t.spoke.one.edge.q v)) s × IsPartitionedBy (λ t. int_le (pos 0) (side t.spoke.one.edge.p t.spoke.one.edge.q v)) s
  parted = search_is_monotone (edges_of cs) v s (pairs_of_map IsUnder edge_of s u.edges.order) reaches

both_zero : (x : ℤ) → x ≤ℤ pos 0 → pos 0 ≤ℤ x → x ≡ pos 0
both_zero x h k = omega (arith, ints)

pub low_first : (v : Pt) (s : List StandingEdge) (low high : ℕ) → low ≤ length s
    → AllWithin (λ t. pos 0 <ℤ side t.spoke.one.edge.p t.spoke.one.edge.q v) s 0 low
    → AllWithin (λ t. side t.spoke.one.edge.p t.spoke.one.edge.q v <ℤ pos 0) s high (length s) → low ≤ high
low_first v [] low high l a b = omega arith
low_first v (t ∷ s) low high l a b = not_more (λ m. clash _ (a high t (omega arith) m) (b high t (omega arith) (omega (arith, l, m))))
  where
    not_more : (high < low → ⊥) → low ≤ high
    not_more n = omega arith

-- ---- those that begin at v
-- each of those that stand is one that begins, and not upright
pub stand_is : (at : Parities) (ks : List Spoke) (t : StandingEdge) → In t (stands_from at ks) → In t.spoke ks × (int_lt t.spoke.one.edge.p.x t.spoke.one.edge.q.x ≡ true)
stand_is at [] t i = absurd i
stand_is at (k ∷ ks) t i = ⊎_elim (λ j. one (int_lt k.one.edge.p.x k.one.edge.q.x) refl j) (λ j. let r = stand_is (beyond at k.one) ks t j in (inr r.0, r.1))
    (in_append (cond (int_lt k.one.edge.p.x k.one.edge.q.x) (standing_of k (beyond at k.one) ∷ []) []) (stands_from (beyond at k.one) ks) t i)
  where
    one : (b : Bool) → int_lt k.one.edge.p.x k.one.edge.q.x ≡ b → In t (cond b (standing_of k (beyond at k.one) ∷ []) []) → In t.spoke (k ∷ ks) × (int_lt t.spoke.one.edge.p.x t.spoke.one.edge.q.x ≡ true)
    one true e (inl j) = let P : StandingEdge → Type 0 = λ t. In t.spoke (k ∷ ks) × (int_lt t.spoke.one.edge.p.x t.spoke.one.edge.q.x ≡ true) in subst P j (inl refl, e)
    one true e (inr j) = absurd j
    one false e j = absurd j

-- turned round
pub turned : (R : Edge → Edge → Type 0) (es : List Edge) → Pairs (λ f g. R g f) es → Pairs R (reverse es)
turned R [] p = tt
turned R (e ∷ es) p = let P : List Edge → Type 0 = λ fs. Pairs R fs in
    subst P (sym (reverse_cons e es)) (pairs_append R (reverse es) (e ∷ []) (turned R es p.1) ((λ f i. absurd i), tt)
    (λ f g i j. ⊎_elim (λ q. subst (λ (w : Edge). R f w) q (p.0 f (in_reverse es f i))) (λ k. absurd k) j))

module _ (cs : List Counted) (h : AreLayers cs) (v : Pt) (ss : List Spoke) (a : AreSpokes (edges_of cs) v (map edge_at ss)) (inside : All (λ s. Contains cs s.one) ss) (left : Parities) where
  is_stand : (at : Parities) (ks : List Spoke) (k : Spoke) → In k ks → int_lt k.one.edge.p.x k.one.edge.q.x ≡ true → In k.one.edge (map edge_of (stands_from at ks))
  is_stand at [] k i l = absurd i
  is_stand at (m ∷ ks) k (inl e) l = one (int_lt m.one.edge.p.x m.one.edge.q.x) (let P : Spoke → Type 0 = λ t. int_lt t.one.edge.p.x t.one.edge.q.x ≡ true in subst P (sym e) l)
    where
      one : (b : Bool) → b ≡ true → In k.one.edge (map edge_of (cond b (standing_of m (beyond at m.one) ∷ []) [] ++ stands_from (beyond at m.one) ks))
      one true j = inl (ap edge_at e)
      one false j = absurd (let t = j in cc)
  is_stand at (m ∷ ks) k (inr i) l =
      subst (λ (es : List Edge). In k.one.edge es) (sym (map-append edge_of (cond (int_lt m.one.edge.p.x m.one.edge.q.x) (standing_of m (beyond at m.one) ∷ []) []) (stands_from (beyond at m.one) ks)))
      (in_back (map edge_of (cond (int_lt m.one.edge.p.x m.one.edge.q.x) (standing_of m (beyond at m.one) ∷ []) [])) (map edge_of (stands_from (beyond at m.one) ks)) k.one.edge (is_stand (beyond at m.one) ks k i l))

  spoke_begins : (k : Spoke) → In k ss → Contains (edges_of cs) k.one.edge × (k.one.edge.p ≡ v)
  spoke_begins k i = (a.exact k.one.edge).0 (in_contains (map edge_at ss) k.one.edge (map_in edge_at ss k i))

  sound : (e : Edge) → In e (map edge_of (reverse (stands_from left ss))) → Contains (edges_of cs) e × (e.p.x <ℤ e.q.x) × (e.p ≡ v)
  sound e i = let t = in_map edge_of (reverse (stands_from left ss)) e i in
      let k = stand_is left ss t.0 (in_reverse (stands_from left ss) t.0 t.1) in
      let b = spoke_begins t.0.spoke k.0 in
      subst (λ (e : Edge). Contains (edges_of cs) e × (e.p.x <ℤ e.q.x) × (e.p ≡ v)) t.2 (b.0, lt_told _ _ k.1, b.1)

  complete : (e : Edge) → Contains (edges_of cs) e → e.p.x <ℤ e.q.x → e.p ≡ v → In e (map edge_of (reverse (stands_from left ss)))
  complete e c l b = let k = in_map edge_at ss e (contains_in (map edge_at ss) e ((a.exact e).1 (c, b))) in
      let P : Edge → Type 0 = λ f. int_lt f.p.x f.q.x ≡ true in
      subst (λ (es : List Edge). In e es) (sym (map_reverse edge_of (stands_from left ss)))
      (reverse_in (map edge_of (stands_from left ss)) e (subst (λ (f : Edge). In f (map edge_of (stands_from left ss))) k.2 (is_stand left ss k.0 k.1 (subst P (sym k.2) (lt_yes e.p.x e.q.x l)))))

  -- ---- their order
  over_pairs : (R : Edge → Edge → Type 0) → ((e f : Edge) → e.p ≡ f.p → Steeper f e → R e f) → (at : Parities) (ks : List Spoke) → ((k : Spoke) → In k ks → k.one.edge.p ≡ v)
      → Pairs Steeper (map edge_at ks) → Pairs (λ f g. R g f) (map edge_of (stands_from at ks))
  over_pairs R r at [] b p = tt
  over_pairs R r at (k ∷ ks) b p = one (over_pairs R r (beyond at k.one) ks (λ m i. b m (inr i)) p.1) (int_lt k.one.edge.p.x k.one.edge.q.x)
    where
      under : (e : Edge) → In e (map edge_of (stands_from (beyond at k.one) ks)) → R e k.one.edge
      under e i = let t = in_map edge_of (stands_from (beyond at k.one) ks) e i in let m = stand_is (beyond at k.one) ks t.0 t.1 in
          subst (λ (e : Edge). R e k.one.edge) t.2
          (r t.0.spoke.one.edge k.one.edge (b t.0.spoke (inr m.0) ∙ sym (b k (inl refl))) (p.0 t.0.spoke.one.edge (map_in edge_at ks t.0.spoke m.0)))

      one : Pairs (λ f g. R g f) (map edge_of (stands_from (beyond at k.one) ks)) → (t : Bool) → Pairs (λ f g. R g f) (map edge_of (cond t (standing_of k (beyond at k.one) ∷ []) [] ++ stands_from (beyond at k.one) ks))
      one r true = (under, r)
      one r false = r

  -- what holds of each and a steeper one, from the lowest to the steepest
  fresh_pairs : (R : Edge → Edge → Type 0) → ((e f : Edge) → e.p ≡ f.p → Steeper f e → R e f) → Pairs R (map edge_of (reverse (stands_from left ss)))
  fresh_pairs R r = let P : List Edge → Type 0 = λ es. Pairs R es in
      subst P (sym (map_reverse edge_of (stands_from left ss)))
      (turned R (map edge_of (stands_from left ss))
      (over_pairs R r left ss (λ k i. (spoke_begins k i).1) (pairs_map IsSteeper Steeper steeper_of (map edge_at ss) (pairs_from IsSteeper (map edge_at ss) a.order))))

  pub are_fresh : AreFresh (edges_of cs) v (map edge_of (reverse (stands_from left ss)))
  are_fresh = record {
    exact = λ e. ((λ c. sound e (contains_in (map edge_of (reverse (stands_from left ss))) e c)), (λ c. in_contains (map edge_of (reverse (stands_from left ss))) e (complete e c.0 c.1 c.2)));
    order = pairs_to IsUnder (map edge_of (reverse (stands_from left ss))) (fresh_pairs IsUnder under_turn);
  }

  pub fresh_apart : Pairs Apart (map edge_of (reverse (stands_from left ss)))
  fresh_apart = fresh_pairs Apart (λ e f b t q. not_steeper f e (sym q) t)

  pub fresh_inside : All (λ t. Contains cs t.spoke.one) (reverse (stands_from left ss))
  fresh_inside = all_of_in (λ t. Contains cs t.spoke.one) (reverse (stands_from left ss))
      (λ t i. in_of_all (λ s. Contains cs s.one) ss inside t.spoke (stand_is left ss t (in_reverse (stands_from left ss) t i)).0)

  -- ---- their parities
  module _ (b : BeginsWith cs left (map edge_at ss)) where
    pub labels : All (IsLabelled cs) (labels_from left ss)
    labels = turn_is_labelled cs h v ss a inside left b

    under_label : (at : Parities) (ks : List Spoke) → ((l : LabelledEdge) → In l (labels_from at ks) → IsLabelled cs l) → (t : StandingEdge) → In t (stands_from at ks) → t.under ≡ parities_at cs (right_side (edge_of t).p (edge_of t).q)
    under_label at [] g t i = absurd i
    under_label at (k ∷ ks) g t i = ⊎_elim (λ j. one (int_lt k.one.edge.p.x k.one.edge.q.x) j) (λ j. under_label (beyond at k.one) ks (λ l m. g l (inr m)) t j)
        (in_append (cond (int_lt k.one.edge.p.x k.one.edge.q.x) (standing_of k (beyond at k.one) ∷ []) []) (stands_from (beyond at k.one) ks) t i)
      where
        one : (b : Bool) → In t (cond b (standing_of k (beyond at k.one) ∷ []) []) → t.under ≡ parities_at cs (right_side (edge_of t).p (edge_of t).q)
        one true (inl j) = let P : StandingEdge → Type 0 = λ t. t.under ≡ parities_at cs (right_side (edge_of t).p (edge_of t).q) in
            subst P j (g (record { edge = k.one.edge; left = at; right = beyond at k.one }) (inl refl)).right
        one true (inr j) = absurd j
        one false j = absurd j

    pub fresh_under : All (λ t. t.under ≡ parities_at cs (right_side t.spoke.one.edge.p t.spoke.one.edge.q)) (reverse (stands_from left ss))
    fresh_under = all_of_in (λ t. t.under ≡ parities_at cs (right_side t.spoke.one.edge.p t.spoke.one.edge.q)) (reverse (stands_from left ss))
        (λ t i. under_label left ss (in_of_all (IsLabelled cs) (labels_from left ss) labels) t (in_reverse (stands_from left ss) t i))

pub labels_edges : (at : Parities) (ks : List Spoke) → map (λ (l : LabelledEdge). l.edge) (labels_from at ks) ≡ map edge_at ks
labels_edges at [] = refl
labels_edges at (k ∷ ks) = ap (λ t. k.one.edge ∷ t) (labels_edges (beyond at k.one) ks)

-- ---- the whole step
pub level_there : (a b : ℤ) → a *ℤ b -ℤ b *ℤ a ≡ pos 0
level_there a b = simp expand (omega (arith, linear))

module _ (cs : List Counted) (h : AreLayers cs) (v : Pt) (x : IsVertexOf (edges_of cs) v) (s : List StandingEdge) (u : IsSweptUpTo cs v s) (low high : ℕ) (order : low ≤ high)
    (is_low : AllWithin (λ t. pos 0 <ℤ side t.spoke.one.edge.p t.spoke.one.edge.q v) s 0 low)
    (not_low : AllWithin (λ t. side t.spoke.one.edge.p t.spoke.one.edge.q v ≤ℤ pos 0) s low (length s))
    (not_high : AllWithin (λ t. pos 0 ≤ℤ side t.spoke.one.edge.p t.spoke.one.edge.q v) s 0 high)
    (is_high : AllWithin (λ t. side t.spoke.one.edge.p t.spoke.one.edge.q v <ℤ pos 0) s high (length s))
    (within : high ≤ length s) where
  cut : map edge_of s ≡ map edge_of (take low s) ++ (map edge_of (slice_range s low high) ++ map edge_of (drop high s))
  cut = ap (map edge_of) (sym (take-append-drop low s) ∙ ap (λ t. take low s ++ t) (drop_split s low high order))
      ∙ map-append edge_of (take low s) (slice_range s low high ++ drop high s) ∙ ap (λ t. map edge_of (take low s) ++ t) (map-append edge_of (slice_range s low high) (drop high s))

  pub standing_parts : AreStanding (Reaches (edges_of cs) v) (map edge_of (take low s) ++ (map edge_of (slice_range s low high) ++ map edge_of (drop high s)))
  standing_parts = let P : List Edge → Type 0 = λ es. AreStanding (Reaches (edges_of cs) v) es in subst P cut u.edges

  pub low_all : All (λ e. pos 0 <ℤ side e.p e.q v) (map edge_of (take low s))
  low_all = All-map (λ (e : Edge). pos 0 <ℤ side e.p e.q v) edge_of (take low s) (all_of_in (λ t. IsBelow v (edge_of t)) (take low s) (λ t i. within_take (λ (t : StandingEdge). IsBelow v (edge_of t)) s low is_low t i))

  back : (k : ℕ) → k < low + (high - low) → k < high
  back k l = omega arith

  there : (k : ℕ) → k < high → k < length s
  there k l = omega arith

  pub mid_all : All (λ e. side e.p e.q v ≡ pos 0) (map edge_of (slice_range s low high))
  mid_all = All-map (λ (e : Edge). side e.p e.q v ≡ pos 0) edge_of (slice_range s low high) (all_of_in (λ t. side t.spoke.one.edge.p t.spoke.one.edge.q v ≡ pos 0) (slice_range s low high)
      (λ t i. within_part (λ (t : StandingEdge). side t.spoke.one.edge.p t.spoke.one.edge.q v ≡ pos 0) s low (high - low) 0 (omega arith)
      (λ k d f l. both_zero _ (not_low k d f (there k (back k l))) (not_high k d (omega arith) (back k l))) t i))

  pub high_all : All (λ e. side e.p e.q v <ℤ pos 0) (map edge_of (drop high s))
  high_all = All-map (λ (e : Edge). side e.p e.q v <ℤ pos 0) edge_of (drop high s) (all_of_in (λ t. IsAbove v (edge_of t)) (drop high s) (λ t i. within_drop (λ (t : StandingEdge). IsAbove v (edge_of t)) s high is_high t i))

  -- ---- those that end at v
  old_apart : Pairs Apart (map edge_of (take low s) ++ (map edge_of (slice_range s low high) ++ map edge_of (drop high s)))
  old_apart = let P : List Edge → Type 0 = λ es. Pairs Apart es in subst P cut (pairs_from Apart (map edge_of s) (map_pairs Apart edge_of s u.once))

  reached : (e : Edge) → In e (map edge_of (take low s) ++ (map edge_of (slice_range s low high) ++ map edge_of (drop high s))) → Reaches (edges_of cs) v e
  reached e i = (standing_parts.exact e).0 (in_contains (map edge_of (take low s) ++ (map edge_of (slice_range s low high) ++ map edge_of (drop high s))) e i)

  ended_ends : (e : Edge) → In e (map edge_of (slice_range s low high)) → Contains (edges_of cs) e × (e.p.x <ℤ e.q.x) × (e.q ≡ v)
  ended_ends e i = let r = reached e (in_back (map edge_of (take low s)) (map edge_of (slice_range s low high) ++ map edge_of (drop high s)) e (in_front (map edge_of (slice_range s low high)) (map edge_of (drop high s)) e i)) in
      (r.inside, r.slopes, ends_are_level cs h v x e r (in_of_all (λ (e : Edge). side e.p e.q v ≡ pos 0) (map edge_of (slice_range s low high)) mid_all e i))

  ends_reach : (e : Edge) → Contains (edges_of cs) e → e.p.x <ℤ e.q.x → e.q ≡ v → Reaches (edges_of cs) v e
  ends_reach e i l q = record {
    inside = i;
    slopes = l;
    begun = subst (λ (w : Pt). IsBefore e.p w) q e.ordered;
    lasts = λ b. before_itself v (subst (λ (w : Pt). IsBefore w v) q b);
  }

  ends_ended : (e : Edge) → Contains (edges_of cs) e → e.p.x <ℤ e.q.x → e.q ≡ v → In e (map edge_of (slice_range s low high))
  ends_ended e i l q = ⊎_elim
      (λ j. absurd (zero_is_not_positive (side e.p e.q v) level (in_of_all (λ (e : Edge). pos 0 <ℤ side e.p e.q v) (map edge_of (take low s)) low_all e j)))
      (λ j. ⊎_elim (λ k. k)
      (λ k. absurd (never_negative (side e.p e.q v) (zero_is_nonneg (side e.p e.q v) level) (in_of_all (λ (e : Edge). side e.p e.q v <ℤ pos 0) (map edge_of (drop high s)) high_all e k)))
      (in_append (map edge_of (slice_range s low high)) (map edge_of (drop high s)) e j))
      (in_append (map edge_of (take low s)) (map edge_of (slice_range s low high) ++ map edge_of (drop high s)) e
      (contains_in (map edge_of (take low s) ++ (map edge_of (slice_range s low high) ++ map edge_of (drop high s))) e ((standing_parts.exact e).1 (ends_reach e i l q))))
    where
      level : side e.p e.q v ≡ pos 0
      level = subst (λ (w : Pt). side e.p e.q w ≡ pos 0) q (level_there (e.q.x -ℤ e.p.x) (e.q.y -ℤ e.p.y))

  pub ended : AreEnded cs v (slice_range s low high)
  ended = record {
    exact = λ e. (
      (λ i. ended_ends e (contains_in (map edge_of (slice_range s low high)) e i)),
      (λ i. in_contains (map edge_of (slice_range s low high)) e (ends_ended e i.0 i.1 i.2)),
    );
    inside = All-take (λ t. Contains cs t.spoke.one) (high - low) (drop low s) (All-drop (λ t. Contains cs t.spoke.one) low s u.inside);
    under = All-take (λ t. t.under ≡ parities_at cs (right_side t.spoke.one.edge.p t.spoke.one.edge.q)) (high - low) (drop low s)
        (All-drop (λ t. t.under ≡ parities_at cs (right_side t.spoke.one.edge.p t.spoke.one.edge.q)) low s u.under);
  }

  pub have_ended : All (λ t. IsUpTo t.spoke.one.edge.q v) (slice_range s low high)
  have_ended = all_of_in (λ t. IsUpTo t.spoke.one.edge.q v) (slice_range s low high) (λ t i. inl (ended_ends (edge_of t) (map_in edge_of (slice_range s low high) t i)).2)

  under_of : (t : StandingEdge) → In t s → t.under ≡ parities_at cs (right_side (edge_of t).p (edge_of t).q)
  under_of = in_of_all (λ t. t.under ≡ parities_at cs (right_side (edge_of t).p (edge_of t).q)) s u.under

  begins : (hs : List StandingEdge) → drop high s ≡ hs → (ks : List Edge) → AreSpokes (edges_of cs) v ks → BeginsWith cs (parities_beside (lowest_of hs)) ks
  begins hs e [] a = tt
  begins [] e (k ∷ rest) a = λ i. record { a = sym (none A) i; b = sym (none B) i }
    where
      none : (l : Source) → parity (odd_edges l cs) (left_side k.p k.q) ≡ false
      none l = let P : List StandingEdge → Type 0 = λ hs. AreStanding (Reaches (edges_of cs) v) (map edge_of (take low s) ++ (map edge_of (slice_range s low high) ++ map edge_of hs)) in
          first_left_none cs h v x (map edge_of (take low s)) (map edge_of (slice_range s low high)) (subst P e standing_parts) low_all mid_all k rest a l
  begins (f ∷ hs) e (k ∷ rest) a = (let P : List StandingEdge → Type 0 = λ hs. In f hs in under_of f (in_drop high s f (subst P (sym e) (inl refl)))) ∙ (λ i. record { a = sym (same A) i; b = sym (same B) i })
    where
      same : (l : Source) → parity (odd_edges l cs) (left_side k.p k.q) ≡ parity (odd_edges l cs) (right_side (edge_of f).p (edge_of f).q)
      same l = let P : List StandingEdge → Type 0 = λ hs. AreStanding (Reaches (edges_of cs) v) (map edge_of (take low s) ++ (map edge_of (slice_range s low high) ++ map edge_of hs)) in
          let Q : List StandingEdge → Type 0 = λ hs. All (λ (e : Edge). side e.p e.q v <ℤ pos 0) (map edge_of hs) in
          left_of_first cs h v x (map edge_of (take low s)) (map edge_of (slice_range s low high)) (edge_of f) (map edge_of hs) (subst P e standing_parts) low_all mid_all (subst Q e high_all) k rest a l

  module _ (ss : List Spoke) (a : AreSpokes (edges_of cs) v (map edge_at ss)) (inside : All (λ s. Contains cs s.one) ss) (left : Parities) (e : left ≡ parities_beside (lowest_of (drop high s))) where
    left_begins : BeginsWith cs left (map edge_at ss)
    left_begins = let P : Parities → Type 0 = λ at. BeginsWith cs at (map edge_at ss) in subst P (sym e) (begins (drop high s) refl (map edge_at ss) a)

    stays : AreStanding (GoesOn (edges_of cs) v) (map edge_of (take low s) ++ (map edge_of (reverse (stands_from left ss)) ++ map edge_of (drop high s)))
    stays = standing_stays cs h v x (map edge_of (take low s)) (map edge_of (slice_range s low high)) (map edge_of (drop high s)) (map edge_of (reverse (stands_from left ss)))
        standing_parts low_all mid_all high_all (are_fresh cs h v ss a inside left)

    joined : map edge_of (take low s ++ reverse (stands_from left ss) ++ drop high s) ≡ map edge_of (take low s) ++ (map edge_of (reverse (stands_from left ss)) ++ map edge_of (drop high s))
    joined = map-append edge_of (take low s ++ reverse (stands_from left ss)) (drop high s) ∙ ap (λ t. t ++ map edge_of (drop high s)) (map-append edge_of (take low s) (reverse (stands_from left ss)))
        ∙ append_assoc (map edge_of (take low s)) (map edge_of (reverse (stands_from left ss))) (map edge_of (drop high s))

    -- what came to v is none of what begins there
    not_fresh : (e f : Edge) → Reaches (edges_of cs) v e → In f (map edge_of (reverse (stands_from left ss))) → Apart e f
    not_fresh e f r i q = let k = ((are_fresh cs h v ss a inside left).exact f).0 (in_contains (map edge_of (reverse (stands_from left ss))) f i) in
        before_itself v (subst (λ (w : Pt). IsBefore w v) (ap (λ (g : Edge). g.p) q ∙ k.2) r.begun)

    each_once : Pairs Apart (map edge_of (take low s) ++ (map edge_of (reverse (stands_from left ss)) ++ map edge_of (drop high s)))
    each_once = let lows = map edge_of (take low s) in
        let mids = map edge_of (slice_range s low high) in
        let highs = map edge_of (drop high s) in
        let fresh = map edge_of (reverse (stands_from left ss)) in
        pairs_append Apart lows (fresh ++ highs) (pairs_left Apart lows (mids ++ highs) old_apart)
        (pairs_append Apart fresh highs (fresh_apart cs h v ss a inside left) (pairs_right Apart mids highs (pairs_right Apart lows (mids ++ highs) old_apart))
        (λ f e i j q. not_fresh e f (reached e (in_back lows (mids ++ highs) e (in_back mids highs e j))) i (sym q)))
        (λ e f i j. ⊎_elim (λ k. not_fresh e f (reached e (in_front lows (mids ++ highs) e i)) k)
        (λ k. pairs_across Apart lows (mids ++ highs) old_apart e f i (in_back mids highs f k)) (in_append fresh highs f j))

    pub swept : IsSweptTo cs v (take low s ++ reverse (stands_from left ss) ++ drop high s)
    swept = record {
      edges = let P : List Edge → Type 0 = λ es. AreStanding (GoesOn (edges_of cs) v) es in subst P (sym joined) stays;
      once = let P : List Edge → Type 0 = λ es. AllPairs Apart es in
          pairs_of_map Apart edge_of (take low s ++ reverse (stands_from left ss) ++ drop high s) (subst P (sym joined) (pairs_to Apart _ each_once));
      inside = All-append (λ t. Contains cs t.spoke.one) (take low s ++ reverse (stands_from left ss)) (drop high s)
          (All-append (λ t. Contains cs t.spoke.one) (take low s) (reverse (stands_from left ss)) (All-take (λ t. Contains cs t.spoke.one) low s u.inside) (fresh_inside cs h v ss a inside left))
          (All-drop (λ t. Contains cs t.spoke.one) high s u.inside);
      under = All-append (λ t. t.under ≡ parities_at cs (right_side t.spoke.one.edge.p t.spoke.one.edge.q)) (take low s ++ reverse (stands_from left ss)) (drop high s)
          (All-append (λ t. t.under ≡ parities_at cs (right_side t.spoke.one.edge.p t.spoke.one.edge.q)) (take low s) (reverse (stands_from left ss))
          (All-take (λ t. t.under ≡ parities_at cs (right_side t.spoke.one.edge.p t.spoke.one.edge.q)) low s u.under)
          (fresh_under cs h v ss a inside left left_begins))
          (All-drop (λ t. t.under ≡ parities_at cs (right_side t.spoke.one.edge.p t.spoke.one.edge.q)) high s u.under);
    }

    pub labels_here : All (IsLabelled cs) (labels_from left ss)
    labels_here = labels cs h v ss a inside left left_begins

-- ---- the labels so far
module _ (cs own : List Counted) (v : Pt) (ss : List Spoke) (a : AreSpokes (edges_of cs) v (map edge_at ss)) (left : Parities) (each : All (IsLabelled cs) (labels_from left ss))
    (from next : ℕ) (r : IsRangeAt cs own v from next) (inside : All (λ s. Contains (slice_range own from next) s.one) ss) (old : List LabelledEdge) (g : AreLabelsUpTo cs own from old) where
  label_in : (f : Edge) → In f (map edge_at ss) → In f (map (λ (l : LabelledEdge). l.edge) (old ++ labels_from left ss))
  label_in f i = let P : List Edge → Type 0 = λ es. In f es in
      subst P (sym (map-append (λ (l : LabelledEdge). l.edge) old (labels_from left ss))) (in_back (map (λ (l : LabelledEdge). l.edge) old) (map (λ (l : LabelledEdge). l.edge) (labels_from left ss)) f
      (subst P (sym (labels_edges left ss)) i))

  old_in : (f : Edge) → In f (map (λ (l : LabelledEdge). l.edge) old) → In f (map (λ (l : LabelledEdge). l.edge) (old ++ labels_from left ss))
  old_in f i = let P : List Edge → Type 0 = λ es. In f es in
      subst P (sym (map-append (λ (l : LabelledEdge). l.edge) old (labels_from left ss))) (in_front (map (λ (l : LabelledEdge). l.edge) old) (map (λ (l : LabelledEdge). l.edge) (labels_from left ss)) f i)

  of_own : (i : ℕ) (d : Counted) → i < next → In (get_or own i d).edge (map (λ (l : LabelledEdge). l.edge) (old ++ labels_from left ss))
  of_own i d l = let c = get_or own i d in ⊎_elim
      (λ m. old_in c.edge (contains_in (map (λ (l : LabelledEdge). l.edge) old) c.edge (g.all i d (omega arith) m)))
      (λ m. let b = (r.exact c).0 (in_contains (slice_range own from next) c (part_in own from (next - from) i d m (omega (arith, m, l)) (omega (arith, l, r.within)))) in
      label_in c.edge (contains_in (map edge_at ss) c.edge ((a.exact c.edge).1 (in_contains (edges_of cs) c.edge (map_in (λ c. c.edge) cs c (contains_in cs c b.0)), b.1))))
      (cases_lt i from)

  only_own : (l : LabelledEdge) → In l (labels_from left ss) → Contains (edges_of own) l.edge
  only_own l i = let P : List Edge → Type 0 = λ es. In l.edge es in
      let s = in_map edge_at ss l.edge (subst P (labels_edges left ss) (map_in (λ (l : LabelledEdge). l.edge) (labels_from left ss) l i)) in
      let c = contains_in (slice_range own from next) s.0.one (in_of_all (λ s. Contains (slice_range own from next) s.one) ss inside s.0 s.1) in
      subst (λ (e : Edge). Contains (edges_of own) e) s.2
      (in_contains (edges_of own) s.0.one.edge (map_in (λ c. c.edge) own s.0.one (in_drop from own s.0.one (in_take (next - from) (drop from own) s.0.one c))))

  pub labelled : AreLabelsUpTo cs own next (old ++ labels_from left ss)
  labelled = record {
    each = All-append (IsLabelled cs) old (labels_from left ss) g.each each;
    only = All-append (λ (l : LabelledEdge). Contains (edges_of own) l.edge) old (labels_from left ss) g.only
        (all_of_in (λ (l : LabelledEdge). Contains (edges_of own) l.edge) (labels_from left ss) only_own);
    all = λ i d f l. in_contains (map (λ (l : LabelledEdge). l.edge) (old ++ labels_from left ss)) (get_or own i d).edge (of_own i d l);
  }
