-- The directed edges of a result that leave vertices, and the sweep from vertex to vertex that lists them.
use Rattle.std.proofs.Common.{◌≡◌, ◌⊎◌, inl, inr, ⊎_elim, ℕ, ◌+◌, ◌<◌, ◌≤◌, Bool, true, false, cond, List, [], ◌∷◌, ◌++◌, flat_map, get_or, length, map, refl, sym, ap, ◌∙◌, subst, arith}
use Rattle.std.specs.List.{All, AllPairs, AllWithin, Contains}
use Rattle.std.specs.Prelude.{◌&&◌, ◌<ℤ◌, ◌≤ℤ◌, ◌-ℤ◌, ◌↔◌, pos, slice_range}
use Rattle.std.proofs.Math.IntN.{ℤ}
use Rattle.std.proofs.lemmas.Int.{ints}
use Rattle.std.proofs.lemmas.List.{get_or_default}
use Rattle.std.proofs.lemmas.List.Elements.{All-nil, Contains-append_cases, Contains-append_left, Contains-append_right}
use Rattle.geom.specs.declared.op.Op.{Op}
use Rattle.geom.specs.declared.point.Pt.{Pt}
use Rattle.geom.specs.declared.edge.Edge.{Edge}
use Rattle.geom.specs.declared.edge.Counted.{Counted}
use Rattle.geom.specs.declared.directed.DirectedEdge.{DirectedEdge}
use Rattle.geom.specs.Directed.{IsDirectedBefore, IsResultEdge, from_to}
use Rattle.geom.specs.Label.{ways}
use Rattle.geom.specs.Order.{IsBefore, IsUpTo}
use Rattle.geom.specs.Rounded.{edges_of}
use Rattle.geom.specs.Segments.{same_point}
use Rattle.geom.proofs.Lists.{In, contains_in, in_append, in_back, in_contains, in_front, in_map}
use Rattle.geom.proofs.Listing.{is_way, way_is}
use Rattle.geom.proofs.Orders.{before_trans}
use Rattle.geom.proofs.Points.{and_both, both_and, same_point_of, same_point_true}
use Rattle.geom.proofs.RingEdges.{flat_in, in_flat}
use Rattle.label_sweep.specs.declared.standing.LabelledEdge.{LabelledEdge}
use Rattle.label_sweep.specs.declared.standing.StandingEdge.{StandingEdge}
use Rattle.label_sweep.specs.declared.status.Status.{Status}
use Rattle.label_sweep.specs.Column.{IsStripOf}
use Rattle.label_sweep.specs.Labels.{IsLabelled, IsSweptUpTo, directions_of}
use Rattle.label_sweep.specs.Leaving.{AreAround, AreLeaving, HaveUprightTo, IsPast, IsReadyAt, leaving_of}
use Rattle.label_sweep.specs.Slots.{IsKept, all_standing, in_slot}
use Rattle.label_sweep.specs.Status.{IsVertexOf}
use Rattle.label_sweep.proofs.Beside.{pairs_sliced, slice_more}
use Rattle.label_sweep.proofs.Directing.{way_of}
use Rattle.label_sweep.proofs.Members.{in_of_all, pairs_across, pairs_joined}
use Rattle.label_sweep.proofs.Straight.{upright_is_next}
use Rattle.label_sweep.proofs.Sweeping.{IsSwept, after_here, begins, here_at, next_one, no_other, origin}

-- ---- the directed edges along a labelled edge that leave a vertex
in_if : (b : Bool) (d e : DirectedEdge) → In d (cond b (e ∷ []) []) → (b ≡ true) × (d ≡ e)
in_if true d e (inl q) = (refl, sym q)
in_if true d e (inr i) = absurd i
in_if false d e i = absurd i

if_in : (b : Bool) (d e : DirectedEdge) → b ≡ true → d ≡ e → In d (cond b (e ∷ []) [])
if_in true d e t q = inl (sym q)
if_in false d e t q = absurd (let k = t in cc)

module _ (op : Op) (v : Pt) (l : LabelledEdge) (d : DirectedEdge) where
  abbrev forward : DirectedEdge
  forward = from_to l.edge.p l.edge.q

  abbrev back : DirectedEdge
  back = from_to l.edge.q l.edge.p

  abbrev ahead : Bool
  ahead = (directions_of op l).0

  abbrev behind : Bool
  behind = (directions_of op l).1

  leaving_is_way : In d (leaving_of op v l) → In d (ways l.edge (directions_of op l)) × (d.from ≡ v)
  leaving_is_way i = ⊎_elim
      (λ j. let h = in_if (ahead && same_point l.edge.p v) d forward j in let b = and_both ahead (same_point l.edge.p v) h.0 in (
        in_front (cond ahead (forward ∷ []) []) (cond behind (back ∷ []) []) d (if_in ahead d forward b.0 h.1),
        ap (λ (t : DirectedEdge). t.from) h.1 ∙ same_point_true l.edge.p v b.1,
      ))
      (λ j. let h = in_if (behind && same_point l.edge.q v) d back j in let b = and_both behind (same_point l.edge.q v) h.0 in (
        in_back (cond ahead (forward ∷ []) []) (cond behind (back ∷ []) []) d (if_in behind d back b.0 h.1),
        ap (λ (t : DirectedEdge). t.from) h.1 ∙ same_point_true l.edge.q v b.1,
      ))
      (in_append (cond (ahead && same_point l.edge.p v) (forward ∷ []) []) (cond (behind && same_point l.edge.q v) (back ∷ []) []) d i)

  way_is_leaving : In d (ways l.edge (directions_of op l)) → d.from ≡ v → In d (leaving_of op v l)
  way_is_leaving i leaves = ⊎_elim
      (λ j. let h = in_if ahead d forward j in
      let starts = same_point_of l.edge.p v (ap (λ (t : DirectedEdge). t.from) (sym h.1) ∙ leaves) in
      in_front (cond (ahead && same_point l.edge.p v) (forward ∷ []) []) (cond (behind && same_point l.edge.q v) (back ∷ []) []) d
      (if_in (ahead && same_point l.edge.p v) d forward (both_and ahead (same_point l.edge.p v) h.0 starts) h.1))
      (λ j. let h = in_if behind d back j in
      let starts = same_point_of l.edge.q v (ap (λ (t : DirectedEdge). t.from) (sym h.1) ∙ leaves) in
      in_back (cond (ahead && same_point l.edge.p v) (forward ∷ []) []) (cond (behind && same_point l.edge.q v) (back ∷ []) []) d
      (if_in (behind && same_point l.edge.q v) d back (both_and behind (same_point l.edge.q v) h.0 starts) h.1))
      (in_append (cond ahead (forward ∷ []) []) (cond behind (back ∷ []) []) d i)

-- ---- those along all edges around a vertex are those of the result that leave it
module _ (op : Op) (cs : List Counted) (v : Pt) (around : List LabelledEdge) (a : AreAround cs v around) (d : DirectedEdge) where
  labelled_around : (l : LabelledEdge) → In l around → IsLabelled cs l
  labelled_around = in_of_all (IsLabelled cs) around a.each

  leaving_is_result : In d (flat_map (leaving_of op v) around) → IsResultEdge op cs d × (d.from ≡ v)
  leaving_is_result i = let l = flat_in (leaving_of op v) around d i in
      let h = labelled_around l.0 l.1 in
      let w = leaving_is_way op v l.0 d l.2 in
      let P : Bool × Bool → Type 0 = λ t. In d (ways l.0.edge t) in
      (way_is op cs l.0.edge d (contains_in (edges_of cs) l.0.edge h.inside) (subst P (way_of op cs l.0 h) w.0), w.1)

  result_is_leaving : IsResultEdge op cs d → d.from ≡ v → In d (flat_map (leaving_of op v) around)
  result_is_leaving r leaves = let ends = ⊎_elim (λ q. inl (ap (λ (t : DirectedEdge). t.from) (sym q) ∙ leaves)) (λ q. inr (ap (λ (t : DirectedEdge). t.from) (sym q) ∙ leaves)) r.runs in
      let l = in_map (λ (l : LabelledEdge). l.edge) around r.edge (contains_in (map (λ (l : LabelledEdge). l.edge) around) r.edge (a.all r.edge r.rounded ends)) in
      let P : Bool × Bool → Type 0 = λ t. In d (ways l.0.edge t) in
      let Q : Edge → Type 0 = λ e. (d ≡ from_to e.p e.q) ⊎ (d ≡ from_to e.q e.p) in
      in_flat (leaving_of op v) around l.0 d l.1
      (way_is_leaving op v l.0 d (subst P (sym (way_of op cs l.0 (labelled_around l.0 l.1))) (is_way op cs l.0.edge d (subst Q (sym l.2) r.runs) r.bounds)) leaves)

-- ---- lists of them
module _ (op : Op) (cs : List Counted) where
  pub no_leaving : AreLeaving op cs [] []
  no_leaving = record {
    ascending = λ i j d l m. absurd (omega (arith, m));
    exact = λ d. ((λ i. absurd (contains_in [] d i)), (λ r. absurd (contains_in [] d.from r.1)));
  }

  pub leaving_at : (v : Pt) (around : List LabelledEdge) → AreAround cs v around → (here : List DirectedEdge) → AllPairs IsDirectedBefore here
      → ((d : DirectedEdge) → Contains here d ↔ Contains (flat_map (leaving_of op v) around) d) → AreLeaving op cs (v ∷ []) here
  leaving_at v around a here ascending same = record {
    ascending = ascending;
    exact = λ d. (
      (λ i. let r = leaving_is_result op cs v around a d (contains_in (flat_map (leaving_of op v) around) d ((same d).0 i)) in (r.0, in_contains (v ∷ []) d.from (inl (sym r.1)))),
      (λ r. (same d).1 (in_contains (flat_map (leaving_of op v) around) d (result_is_leaving op cs v around a d r.0 (only_v d.from (contains_in (v ∷ []) d.from r.1))))),
    );
  }
    where
      only_v : (p : Pt) → In p (v ∷ []) → p ≡ v
      only_v p (inl e) = sym e
      only_v p (inr i) = absurd i

  pub more_leaving : (ps qs : List Pt) (xs ys : List DirectedEdge) → AllPairs IsBefore (ps ++ qs) → AreLeaving op cs ps xs → AreLeaving op cs qs ys → AreLeaving op cs (ps ++ qs) (xs ++ ys)
  more_leaving ps qs xs ys order a b = record {
    ascending = pairs_joined IsDirectedBefore xs ys a.ascending b.ascending
        (λ d e i j. inl (pairs_across IsBefore ps qs order d.from e.from (leaves ps xs a d i) (leaves qs ys b e j)));
    exact = λ d. (
      (λ i. ⊎_elim
          (λ j. let r = (a.exact d).0 j in (r.0, Contains-append_left ps qs d.from r.1))
          (λ j. let r = (b.exact d).0 j in (r.0, Contains-append_right ps qs d.from r.1))
          (Contains-append_cases xs ys d i)),
      (λ r. ⊎_elim
          (λ j. Contains-append_left xs ys d ((a.exact d).1 (r.0, j)))
          (λ j. Contains-append_right xs ys d ((b.exact d).1 (r.0, j)))
          (Contains-append_cases ps qs d.from r.1)),
    );
  }
    where
      leaves : (ps : List Pt) (ds : List DirectedEdge) → AreLeaving op cs ps ds → (d : DirectedEdge) → In d ds → In d.from ps
      leaves ps ds a d i = contains_in ps d.from ((a.exact d).0 (in_contains ds d i)).1

  -- from vertex to vertex
  module _ (vs : List Pt) (ascending : AllPairs IsBefore vs) where
    pub leaving_one : (n : ℕ) (d : Pt) → n < length vs → (old new : List DirectedEdge)
        → ((points : List Pt) → AllPairs IsBefore (points ++ get_or vs n d ∷ []) → AreLeaving op cs points old → AreLeaving op cs (points ++ get_or vs n d ∷ []) new)
        → AreLeaving op cs (slice_range vs 0 n) old → AreLeaving op cs (slice_range vs 0 (n + 1)) new
    leaving_one n d l old new more h = let e = slice_more vs 0 n d (omega arith) l in
        subst (λ ps. AreLeaving op cs ps new) (sym e) (more (slice_range vs 0 n) (subst (λ ps. AllPairs IsBefore ps) e (pairs_sliced IsBefore vs 0 (n + 1) ascending)) h)

-- ---- the sweep before the vertex with this number
pub record IsReady {A : Type 0} (cs own : List Counted) (vs : List Pt) (k next : ℕ) (status : Status A) (began : List LabelledEdge) : Type 0 where
  pub swept : IsSwept cs own vs k next (all_standing status)
  pub kept : IsKept status
  pub free : (u : Pt) → k < length vs → All (λ i. IsBefore (in_slot status.slots.items i).spoke.one.edge.q (get_or vs k u)) status.free.items
  pub upright : (u : Pt) → k < length vs → HaveUprightTo cs (get_or vs k u) began

upto_before : (p v w : Pt) → IsUpTo p v → IsBefore v w → IsBefore p w
upto_before p v w (inl e) b = subst (λ (q : Pt). IsBefore q w) (sym e) b
upto_before p v w (inr c) b = before_trans p v w c b

not_left : {r s t : ℤ} → r ≡ s → s ≡ t → r <ℤ t → ⊥
not_left e f m = omega (arith, ints, e, f, m)

module _ (cs before own : List Counted) (vs : List Pt) (a : IsStripOf cs before own vs) where
  -- no upright edge ends at the first vertex
  none_upright : (u : Pt) → 0 < length vs → HaveUprightTo cs (get_or vs 0 u) []
  none_upright u l = let b = a.first u l in record {
    each = All-nil (IsLabelled cs);
    all = λ e i flat end. absurd (not_left flat (ap (λ (p : Pt). p.x) end)
        (b.column e.p (record { edge = e; inside = i; ends = inl refl }) (subst (λ (w : Pt). IsBefore e.p w) end e.ordered)));
  }

  pub ready_first : {A : Type 0} (status : Status A) → ((u : Pt) → 0 < length vs → IsSweptUpTo cs (get_or vs 0 u) (all_standing status)) → IsKept status → status.free.items ≡ []
      → (began : List LabelledEdge) → began ≡ [] → IsReady cs own vs 0 0 status began
  ready_first status s kept free began none = record {
    swept = begins cs before own vs a (all_standing status) s;
    kept = kept;
    free = λ u l. rw free (All-nil (λ i. IsBefore (in_slot status.slots.items i).spoke.one.edge.q (get_or vs 0 u)));
    upright = λ u l. rw none (none_upright u l);
  }

  module _ {A : Type 0} (k from next : ℕ) (status : Status A) (began : List LabelledEdge) (r : IsReady cs own vs k from status began) (here : k < length vs) (order : from ≤ next) (within : next ≤ length own)
      (begun : AllWithin (λ c. IsUpTo c.edge.p (get_or vs k origin)) own from next) (past : AllWithin (λ c. IsBefore (get_or vs k origin) c.edge.p) own next (length own)) where
    abbrev v : Pt
    v = get_or vs k origin

    is : v ≡ get_or vs k v
    is = get_or_default vs k origin v here

    pub ready_at : IsReadyAt cs own v from next status began
    ready_at = record {
      at = record { at = here_at cs before own vs a k from next (all_standing status) r.swept v here is order within begun past; kept = r.kept };
      free = r.free origin here;
      upright = r.upright origin here;
    }

    -- ---- to the next vertex
    module _ (after : Status A) (more : List LabelledEdge) (g : IsPast cs v after more) where
      coming : (u : Pt) → k + 1 < length vs → IsBefore v (get_or vs (k + 1) u)
      coming u l = after_here cs before own vs a k from next (all_standing status) r.swept v here is order within begun past (all_standing after) g.swept (k + 1) u (omega arith) l

      none_between : (u : Pt) → k + 1 < length vs → (w : Pt) → IsVertexOf (edges_of cs) w → IsBefore v w → IsBefore w (get_or vs (k + 1) u) → ⊥
      none_between = no_other cs before own vs a k from next (all_standing status) r.swept v here is order within begun past (all_standing after) g.swept

      pub ready_next : IsReady cs own vs (k + 1) next after more
      ready_next = record {
        swept = next_one cs before own vs a k from next (all_standing status) r.swept v here is order within begun past (all_standing after) g.swept;
        kept = g.kept;
        free = λ u l i d m. upto_before _ v (get_or vs (k + 1) u) (g.free i d m) (coming u l);
        upright = λ u l. record {
          each = g.upright.each;
          all = λ e i flat end. g.upright.all e i flat
              (upright_is_next cs a.layers v (get_or vs (k + 1) u) ready_at.at.at.vertex (coming u l) (none_between u l) e i flat end);
        };
      }

-- ---- no edge has ended at every point
abbrev left_point : Pt → Pt
left_point p = record { x = p.x -ℤ pos 1; y = p.y }

not_upto_left : (p : Pt) → IsUpTo p (left_point p) → ⊥
not_upto_left p (inl e) = apart p.x (ap (λ (q : Pt). q.x) e)
  where
    apart : (x : ℤ) → x ≡ (x -ℤ pos 1) → ⊥
    apart x e = omega (arith, ints, e)
not_upto_left p (inr b) = behind p.x b.column
  where
    behind : (x : ℤ) → x ≤ℤ (x -ℤ pos 1) → ⊥
    behind x l = omega (arith, ints, l)

pub none_free : (slots : List StandingEdge) (free : List ℕ) → ((w : Pt) → All (λ i. IsUpTo (in_slot slots i).spoke.one.edge.q w) free) → free ≡ []
none_free slots [] h = refl
none_free slots (i ∷ free) h = absurd (not_upto_left (in_slot slots i).spoke.one.edge.q
    (in_of_all (λ j. IsUpTo (in_slot slots j).spoke.one.edge.q (left_point (in_slot slots i).spoke.one.edge.q)) (i ∷ free) (h (left_point (in_slot slots i).spoke.one.edge.q)) i (inl refl)))
