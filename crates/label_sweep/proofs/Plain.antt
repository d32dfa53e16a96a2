-- Past a vertex: at a plain one, where one edge ends and one begins that is not upright, it takes the other's slot; and at any one, by turning.
use Rattle.std.proofs.Common.{◌≡◌, inl, inr, ⊎_elim, ℕ, suc, ◌+◌, ◌-◌, ◌<◌, Bool, true, false, int_le, int_lt, List, [], ◌∷◌, ◌++◌, map, length, get_or, set, take, drop, refl, sym, ap, ◌∙◌, subst, arith, append_assoc}
use Rattle.std.specs.List.{All, AllPairs, Contains}
use Rattle.std.specs.List.Sorted.{IsPartitionedBy}
use Rattle.std.specs.Prelude.{pos, ◌<ℤ◌, ◌≤ℤ◌, slice_range}
use Rattle.std.proofs.Math.IntN.{ℤ, ◌+ℤ◌, ◌-ℤ◌, ◌*ℤ◌}
use Rattle.std.proofs.Math.Seq.{drop-cons}
use Rattle.std.proofs.lemmas.Int.{ints}
use Rattle.std.proofs.lemmas.List.{get_or-set_other, get_or-set_same, length-set, map-append}
use Rattle.std.proofs.lemmas.List.Elements.{All-append, All-cons, All-nil, Contains-append_left, Contains-append_right}
use Rattle.std.proofs.lemmas.List.Kept.{AllPairs-cons}
use Rattle.geom.specs.declared.point.Pt.{Pt}
use Rattle.geom.specs.declared.edge.Edge.{Edge}
use Rattle.geom.specs.declared.edge.Counted.{Counted}
use Rattle.geom.specs.Determinant.{side}
use Rattle.geom.specs.Order.{IsBefore, IsUpTo}
use Rattle.geom.specs.ResultEdges.{left_side, right_side}
use Rattle.geom.specs.Rounded.{edges_of, is_odd}
use Rattle.geom.proofs.Edges.{before_cases}
use Rattle.geom.proofs.Integers.{by_sign}
use Rattle.geom.proofs.ListOrder.{pairs_head, pairs_tail}
use Rattle.geom.proofs.Lists.{In, contains_in, in_append, in_back, in_contains, in_front, in_map, map_in}
use Rattle.geom.proofs.Orders.{before_itself}
use Rattle.geom.proofs.Tests.{le_told, le_yes, lt_told, lt_yes}
use Rattle.points_law.specs.Law.{AreLayers}
use Rattle.label_sweep.specs.declared.parities.Parities.{Parities}
use Rattle.label_sweep.specs.declared.standing.Spoke.{Spoke}
use Rattle.label_sweep.specs.declared.standing.StandingEdge.{StandingEdge}
use Rattle.label_sweep.specs.declared.standing.LabelledEdge.{LabelledEdge}
use Rattle.label_sweep.specs.declared.status.Status.{Status}
use Rattle.label_sweep.specs.Chunks.{AreChunks, joined}
use Rattle.label_sweep.specs.Labels.{AreEnded, IsLabelled, IsSweptTo, IsSweptUpTo, beyond, labelled_of, labels_from, parities_at, xor}
use Rattle.label_sweep.specs.Endings.{EndsOnce}
use Rattle.label_sweep.specs.Leaving.{AreAround, HaveUpright, HaveUprightTo, IsPast, IsReadyAt}
use Rattle.label_sweep.specs.Slots.{HaveEnded, IsKept, all_standing, in_slot, nowhere, numbers}
use Rattle.label_sweep.specs.Status.{AreFresh, AreSpokes, AreStanding, GoesOn, IsRangeAt, IsSteeper, IsUnder, IsVertexOf, Reaches}
use Rattle.label_sweep.proofs.Members.{all_of_in, in_of_all, pairs_across, pairs_back, pairs_of_map}
use Rattle.label_sweep.proofs.Passing.{edge_of, labels_edges, level_there}
use Rattle.label_sweep.proofs.Straight.{left_of_end}
use Rattle.label_sweep.proofs.Turning.{edge_at}
use Rattle.label_sweep.proofs.Words.{ends_are_level, right_is_beyond, search_is_monotone, standing_stays}

-- ---- lists around one item
pub record IsAround {X : Type 0} (x : X) (xs : List X) : Type 0 where
  pub before : List X
  pub behind : List X
  pub is : xs ≡ before ++ (x ∷ behind)

pub around_item : {X : Type 0} (xs : List X) (x : X) → In x xs → IsAround x xs
around_item [] x i = absurd i
around_item (y ∷ ys) x (inl e) = record { before = []; behind = ys; is = ap (λ t. t ∷ ys) e }
around_item (y ∷ ys) x (inr i) = let r = around_item ys x i in record { before = y ∷ r.before; behind = r.behind; is = ap (λ t. y ∷ t) r.is }

module _ {X : Type 0} (R : X → X → Type 0) where
  pub pairs_before : (xs ys : List X) (x : X) → AllPairs R (xs ++ (x ∷ ys)) → (y : X) → In y xs → R y x
  pairs_before xs ys x h y i = pairs_across R xs (x ∷ ys) h y x i (inl refl)

  pub pairs_behind : (xs ys : List X) (x : X) → AllPairs R (xs ++ (x ∷ ys)) → (y : X) → In y ys → R x y
  pairs_behind xs ys x h = pairs_head R x ys (pairs_back R xs (x ∷ ys) h)

  -- another item in its place
  pub pairs_with : (xs ys : List X) (x z : X) → AllPairs R (xs ++ (x ∷ ys)) → ((y : X) → In y xs → R y z) → ((y : X) → In y ys → R z y) → AllPairs R (xs ++ (z ∷ ys))
  pairs_with [] ys x z h f g = AllPairs-cons R z ys (all_of_in (R z) ys g) (pairs_tail R x ys h)
  pairs_with (w ∷ xs) ys x z h f g = AllPairs-cons R w (xs ++ (z ∷ ys)) (all_of_in (R w) (xs ++ (z ∷ ys)) first) (pairs_with xs ys x z (pairs_tail R w (xs ++ (x ∷ ys)) h) (λ y i. f y (inr i)) g)
    where
      first : (y : X) → In y (xs ++ (z ∷ ys)) → R w y
      first y i = ⊎_elim
          (λ j. pairs_head R w (xs ++ (x ∷ ys)) h y (in_front xs (x ∷ ys) y j))
          (⊎_elim (λ e. subst (R w) e (f w (inl refl))) (λ j. pairs_head R w (xs ++ (x ∷ ys)) h y (in_back xs (x ∷ ys) y (inr j))))
          (in_append xs (z ∷ ys) y i)

-- ---- the one edge that begins there
module _ (cs own : List Counted) (v : Pt) (from : ℕ) (r : IsRangeAt cs own v from (from + 1)) (c : Counted) (is : get_or own from c ≡ c) where
  range_is : slice_range own from (from + 1) ≡ c ∷ []
  range_is = ap (λ t. take (from + 1 - from) t) (drop-cons own from c (omega (arith, r.within))) ∙ ap (λ n. take n (get_or own from c ∷ drop (suc from) own)) (one from) ∙ ap (λ d. d ∷ []) is
    where
      one : (n : ℕ) → n + 1 - n ≡ 1
      one n = omega arith

  pub begins : Contains cs c × (c.edge.p ≡ v)
  begins = (r.exact c).0 (let P : List Counted → Type 0 = λ t. Contains t c in subst P (sym range_is) (in_contains (c ∷ []) c (inl refl)))

  pub begins_in : Contains (edges_of cs) c.edge
  begins_in = in_contains (edges_of cs) c.edge (map_in (λ c. c.edge) cs c (contains_in cs c begins.0))

  only : (d : Counted) → Contains cs d → d.edge.p ≡ v → c ≡ d
  only d i b = let P : List Counted → Type 0 = λ t. Contains t d in one (contains_in (c ∷ []) d (subst P range_is ((r.exact d).1 (i, b))))
    where
      one : In d (c ∷ []) → c ≡ d
      one (inl e) = e
      one (inr i) = absurd i

  pub only_edge : (e : Edge) → Contains (edges_of cs) e → e.p ≡ v → c.edge ≡ e
  only_edge e i b = let d = in_map (λ (c : Counted). c.edge) cs e (contains_in (edges_of cs) e i) in
      ap (λ c. c.edge) (only d.0 (in_contains cs d.0 d.1) (ap (λ e. e.p) d.2 ∙ b)) ∙ d.2

  one_here : (e : Edge) → Contains (c.edge ∷ []) e → c.edge ≡ e
  one_here e i = one (contains_in (c.edge ∷ []) e i)
    where
      one : In e (c.edge ∷ []) → c.edge ≡ e
      one (inl q) = q
      one (inr j) = absurd j

  one_pair : (R : Edge → Edge → Type 0) → AllPairs R (c.edge ∷ [])
  one_pair R i j d l m = absurd (omega arith)

  pub one_spoke : AreSpokes (edges_of cs) v (c.edge ∷ [])
  one_spoke = record {
    exact = λ e. (
      (λ i. subst (λ (e : Edge). Contains (edges_of cs) e × (e.p ≡ v)) (one_here e i) (begins_in, begins.1)),
      (λ i. in_contains (c.edge ∷ []) e (inl (only_edge e i.0 i.1))),
    );
    order = one_pair IsSteeper;
  }

  pub one_fresh : c.edge.p.x <ℤ c.edge.q.x → AreFresh (edges_of cs) v (c.edge ∷ [])
  one_fresh l = record {
    exact = λ e. (
      (λ i. subst (λ (e : Edge). Contains (edges_of cs) e × (e.p.x <ℤ e.q.x) × (e.p ≡ v)) (one_here e i) (begins_in, l, begins.1)),
      (λ i. in_contains (c.edge ∷ []) e (inl (only_edge e i.0 i.2))),
    );
    order = one_pair IsUnder;
  }

-- ---- the one edge that ends there, and what stands below and above it
pub level_at_end : (e : Edge) (v : Pt) → e.q ≡ v → side e.p e.q v ≡ pos 0
level_at_end e v h = subst (λ (w : Pt). side e.p e.q w ≡ pos 0) h (level_there (e.q.x -ℤ e.p.x) (e.q.y -ℤ e.p.y))

pub from_zero : (x : ℤ) → pos 0 ≤ℤ x → ¬ (x ≡ pos 0) → pos 0 <ℤ x
from_zero x h n = omega (arith, ints)

pub not_from_zero : (x : ℤ) → ¬ (pos 0 <ℤ x) → ¬ (x ≡ pos 0) → x <ℤ pos 0
not_from_zero x h n = by_sign x (λ l. l) (λ e. absurd (n e)) (λ l. absurd (h l))

at_most : (x : ℤ) → x ≡ pos 0 → pos 0 ≤ℤ x
at_most x h = omega (arith, ints)

not_more : (x : ℤ) → x ≡ pos 0 → pos 0 <ℤ x → ⊥
not_more x h l = omega (arith, ints)

module _ (cs : List Counted) (h : AreLayers cs) (v : Pt) (x : IsVertexOf (edges_of cs) v) (low : List StandingEdge) (s : StandingEdge) (high : List StandingEdge)
    (u : IsSweptUpTo cs v (low ++ (s ∷ high))) (ends : (edge_of s).q ≡ v) (once : EndsOnce (edges_of cs) v) where
  abbrev all : List StandingEdge
  all = low ++ (s ∷ high)

  reaches : (t : StandingEdge) → In t all → Reaches (edges_of cs) v (edge_of t)
  reaches t i = (u.edges.exact (edge_of t)).0 (in_contains (map edge_of all) (edge_of t) (map_in edge_of all t i))

  parted : IsPartitionedBy (λ t. int_lt (pos 0) (side t.spoke.one.edge.p t.spoke.one.edge.q v)) all × IsPartitionedBy (λ t. int_le (pos 0) (side t.spoke.one.edge.p t.spoke.one.edge.q v)) all
  parted = search_is_monotone (edges_of cs) v all (pairs_of_map IsUnder edge_of all u.edges.order) (all_of_in (λ t. Reaches (edges_of cs) v (edge_of t)) all reaches)

  level : side (edge_of s).p (edge_of s).q v ≡ pos 0
  level = level_at_end (edge_of s) v ends

  s_in : In s all
  s_in = in_back low (s ∷ high) s (inl refl)

  -- nothing else ends there
  not_level : (t : StandingEdge) → In t all → ¬ (edge_of s ≡ edge_of t) → ¬ (side (edge_of t).p (edge_of t).q v ≡ pos 0)
  not_level t i n z = n (once (edge_of s) (edge_of t) (reaches s s_in).inside (reaches t i).inside ends (ends_are_level cs h v x (edge_of t) (reaches t i) z))

  below : (t : StandingEdge) → In t low → pos 0 <ℤ side (edge_of t).p (edge_of t).q v
  below t i = from_zero (side (edge_of t).p (edge_of t).q v)
      (le_told (pos 0) (side (edge_of t).p (edge_of t).q v)
      (pairs_before (λ a b. int_le (pos 0) (side (edge_of b).p (edge_of b).q v) ≡ true → int_le (pos 0) (side (edge_of a).p (edge_of a).q v) ≡ true) low high s
      (λ j k d l m. parted.1 j k d (omega arith) m) t i (le_yes (pos 0) (side (edge_of s).p (edge_of s).q v) (at_most (side (edge_of s).p (edge_of s).q v) level))))
      (not_level t (in_front low (s ∷ high) t i) (λ e. pairs_before (λ a b. ¬ (edge_of a ≡ edge_of b)) low high s u.once t i (sym e)))

  above : (t : StandingEdge) → In t high → side (edge_of t).p (edge_of t).q v <ℤ pos 0
  above t i = not_from_zero (side (edge_of t).p (edge_of t).q v)
      (λ l. not_more (side (edge_of s).p (edge_of s).q v) level (lt_told (pos 0) (side (edge_of s).p (edge_of s).q v)
      (pairs_behind (λ a b. int_lt (pos 0) (side (edge_of b).p (edge_of b).q v) ≡ true → int_lt (pos 0) (side (edge_of a).p (edge_of a).q v) ≡ true) low high s
      (λ j k d l m. parted.0 j k d (omega arith) m) t i (lt_yes (pos 0) (side (edge_of t).p (edge_of t).q v) l))))
      (not_level t (in_back low (s ∷ high) t (inr i)) (pairs_behind (λ a b. ¬ (edge_of a ≡ edge_of b)) low high s u.once t i))

  -- ---- an edge that begins there in its place
  module _ (k : StandingEdge) (inside : Contains cs k.spoke.one) (begin : (edge_of k).p ≡ v) (fresh : AreFresh (edges_of cs) v (edge_of k ∷ []))
      (under : k.under ≡ parities_at cs (right_side (edge_of k).p (edge_of k).q)) where
    stays : AreStanding (GoesOn (edges_of cs) v) (map edge_of low ++ (edge_of k ∷ map edge_of high))
    stays = let P : List Edge → Type 0 = λ es. AreStanding (Reaches (edges_of cs) v) es in
        standing_stays cs h v x (map edge_of low) (edge_of s ∷ []) (map edge_of high) (edge_of k ∷ []) (subst P (map-append edge_of low (s ∷ high)) u.edges)
        (all_of_in (λ e. pos 0 <ℤ side e.p e.q v) (map edge_of low) (λ e i. let t = in_map edge_of low e i in subst (λ (e : Edge). pos 0 <ℤ side e.p e.q v) t.2 (below t.0 t.1)))
        (all_of_in (λ e. side e.p e.q v ≡ pos 0) (edge_of s ∷ []) (λ e i. let P : Edge → Type 0 = λ e. side e.p e.q v ≡ pos 0 in one_level P e i))
        (all_of_in (λ e. side e.p e.q v <ℤ pos 0) (map edge_of high) (λ e i. let t = in_map edge_of high e i in subst (λ (e : Edge). side e.p e.q v <ℤ pos 0) t.2 (above t.0 t.1)))
        fresh
      where
        one_level : (P : Edge → Type 0) → (e : Edge) → In e (edge_of s ∷ []) → side e.p e.q v ≡ pos 0
        one_level P e (inl q) = subst (λ (e : Edge). side e.p e.q v ≡ pos 0) q level
        one_level P e (inr i) = absurd i

    differs : (t : StandingEdge) → In t all → ¬ (edge_of k ≡ edge_of t)
    differs t i e = before_itself v (subst (λ (w : Pt). IsBefore w v) (ap (λ e. e.p) (sym e) ∙ begin) (reaches t i).begun)

    holds_with : (P : StandingEdge → Type 0) → All P all → P k → All P (low ++ (k ∷ high))
    holds_with P a p = all_of_in P (low ++ (k ∷ high)) (λ t i. ⊎_elim
        (λ j. in_of_all P all a t (in_front low (s ∷ high) t j))
        (⊎_elim (λ e. subst P e p) (λ j. in_of_all P all a t (in_back low (s ∷ high) t (inr j))))
        (in_append low (k ∷ high) t i))

    pub swept_on : IsSweptTo cs v (low ++ (k ∷ high))
    swept_on = record {
      edges = let P : List Edge → Type 0 = λ es. AreStanding (GoesOn (edges_of cs) v) es in subst P (sym (map-append edge_of low (k ∷ high))) stays;
      once = pairs_with (λ a b. ¬ (edge_of a ≡ edge_of b)) low high s k u.once (λ t i e. differs t (in_front low (s ∷ high) t i) (sym e)) (λ t i. differs t (in_back low (s ∷ high) t (inr i)));
      inside = holds_with (λ t. Contains cs t.spoke.one) u.inside inside;
      under = holds_with (λ t. t.under ≡ parities_at cs (right_side t.spoke.one.edge.p t.spoke.one.edge.q)) u.under under;
    }

-- ---- the slots
module _ (slots : List StandingEdge) (n : ℕ) (inside : n < length slots) (k : StandingEdge) where
  pub others_stay : (ns : List ℕ) → ¬ (In n ns) → map (in_slot (set slots n k)) ns ≡ map (in_slot slots) ns
  others_stay [] h = refl
  others_stay (m ∷ ns) h = ap (λ t. t ∷ map (in_slot (set slots n k)) ns) (get_or-set_other slots n m k nowhere (λ e. h (inl e))) ∙ ap (λ t. in_slot slots m ∷ t) (others_stay ns (λ i. h (inr i)))

  pub one_changes : (before behind : List ℕ) → ¬ (In n before) → ¬ (In n behind) → map (in_slot (set slots n k)) (before ++ (n ∷ behind)) ≡ map (in_slot slots) before ++ (k ∷ map (in_slot slots) behind)
  one_changes before behind h i = map-append (in_slot (set slots n k)) before (n ∷ behind)
      ∙ ap (λ t. t ++ (in_slot (set slots n k) n ∷ map (in_slot (set slots n k)) behind)) (others_stay before h)
      ∙ ap (λ t. map (in_slot slots) before ++ (t ∷ map (in_slot (set slots n k)) behind)) (get_or-set_same slots n k nowhere inside)
      ∙ ap (λ t. map (in_slot slots) before ++ (k ∷ t)) (others_stay behind i)

-- an edge in a slot that ends at v stands there
pub one_stands : {A : Type 0} (status : Status A) → IsKept status → (v : Pt) → All (λ i. IsBefore (in_slot status.slots.items i).spoke.one.edge.q v) status.free.items
    → (n : ℕ) → n < length status.slots.items → (in_slot status.slots.items n).spoke.one.edge.q ≡ v → In n (numbers status)
one_stands status kept v free n l ends = ⊎_elim (λ i. i)
    (λ i. absurd (before_itself v (subst (λ (w : Pt). IsBefore w v) ends (in_of_all (λ i. IsBefore (in_slot status.slots.items i).spoke.one.edge.q v) status.free.items free n i))))
    (in_append (numbers status) status.free.items n (contains_in (numbers status ++ status.free.items) n (kept.all n l)))

-- those that have ended before v have ended at v or before
pub ended_before : {A : Type 0} (v : Pt) (status : Status A) → All (λ i. IsBefore (in_slot status.slots.items i).spoke.one.edge.q v) status.free.items → HaveEnded v status
ended_before v status h = λ k d l. inr (h k d l)

module _ {A : Type 0} (old changed : Status A) (n : ℕ) (k : StandingEdge) (chunks : changed.chunks ≡ old.chunks) (free : changed.free ≡ old.free) (slots : changed.slots.items ≡ set old.slots.items n k)
    (kept : IsKept old) (inside : n < length old.slots.items) (a : IsAround n (numbers old)) where
  abbrev stand : List ℕ → List StandingEdge
  stand ns = map (in_slot old.slots.items) ns

  apart : AllPairs (λ i j. ¬ (i ≡ j)) (a.before ++ (n ∷ (a.behind ++ old.free.items)))
  apart = let P : List ℕ → Type 0 = λ ns. AllPairs (λ i j. ¬ (i ≡ j)) ns in
      subst P (ap (λ t. t ++ old.free.items) a.is ∙ append_assoc a.before (n ∷ a.behind) old.free.items) kept.apart

  pub not_before : ¬ (In n a.before)
  not_before i = pairs_before (λ i j. ¬ (i ≡ j)) a.before (a.behind ++ old.free.items) n apart n i refl

  pub not_behind : ¬ (In n (a.behind ++ old.free.items))
  not_behind i = pairs_behind (λ i j. ¬ (i ≡ j)) a.before (a.behind ++ old.free.items) n apart n i refl

  pub stood : all_standing old ≡ stand a.before ++ (in_slot old.slots.items n ∷ stand a.behind)
  stood = ap (map (in_slot old.slots.items)) a.is ∙ map-append (in_slot old.slots.items) a.before (n ∷ a.behind)

  pub stands_on : all_standing changed ≡ stand a.before ++ (k ∷ stand a.behind)
  stands_on = ap (λ t. map (in_slot t) (numbers changed)) slots ∙ ap (λ t. map (in_slot (set old.slots.items n k)) (joined t.items)) chunks ∙ ap (map (in_slot (set old.slots.items n k))) a.is
      ∙ one_changes old.slots.items n inside k a.before a.behind not_before (λ i. not_behind (in_front a.behind old.free.items n i))

  same_numbers : numbers changed ++ changed.free.items ≡ numbers old ++ old.free.items
  same_numbers = ap (λ t. joined t.items ++ changed.free.items) chunks ∙ ap (λ t. numbers old ++ t.items) free

  pub same_length : length changed.slots.items ≡ length old.slots.items
  same_length = ap length slots ∙ length-set old.slots.items n k

  pub kept_on : IsKept changed
  kept_on = record {
    chunked = subst (λ t. AreChunks t.items) (sym chunks) kept.chunked;
    inside = subst (λ (m : ℕ). All (λ i. i < m) (numbers changed ++ changed.free.items)) (sym same_length) (subst (λ (t : List ℕ). All (λ i. i < length old.slots.items) t) (sym same_numbers) kept.inside);
    apart = subst (λ (t : List ℕ). AllPairs (λ i j. ¬ (i ≡ j)) t) (sym same_numbers) kept.apart;
    all = λ i l. subst (λ (t : List ℕ). Contains t i) (sym same_numbers) (kept.all i (subst (λ (m : ℕ). i < m) same_length l));
  }

  pub ended_on : (v : Pt) → HaveEnded v old → HaveEnded v changed
  ended_on v ends = subst (λ t. All (λ i. IsUpTo (in_slot changed.slots.items i).spoke.one.edge.q v) t.items) (sym free)
      (subst (λ (t : List StandingEdge). All (λ i. IsUpTo (in_slot t i).spoke.one.edge.q v) old.free.items) (sym slots)
      (all_of_in (λ i. IsUpTo (in_slot (set old.slots.items n k) i).spoke.one.edge.q v) old.free.items ended))
    where
      ended : (i : ℕ) → In i old.free.items → IsUpTo (in_slot (set old.slots.items n k) i).spoke.one.edge.q v
      ended i j = subst (λ (s : StandingEdge). IsUpTo s.spoke.one.edge.q v)
          (sym (get_or-set_other old.slots.items n i k nowhere (λ e. not_behind (in_back a.behind old.free.items n (subst (λ (m : ℕ). In m old.free.items) e j)))))
          (in_of_all (λ i. IsUpTo (in_slot old.slots.items i).spoke.one.edge.q v) old.free.items ends i j)

-- ---- the labels
xor_twice : (a b : Bool) → xor (xor a b) b ≡ a
xor_twice true true = refl
xor_twice true false = refl
xor_twice false true = refl
xor_twice false false = refl

-- beyond an edge and back
back_beyond : (at : Parities) (c : Counted) → beyond (beyond at c) c ≡ at
back_beyond at c = λ i. record { a = xor_twice at.a (is_odd c.in_a) i; b = xor_twice at.b (is_odd c.in_b) i }

-- an edge that stands with the parities below it is labelled
pub labelled_is : (cs : List Counted) → AreLayers cs → (s : StandingEdge) → Contains cs s.spoke.one → s.under ≡ parities_at cs (right_side s.spoke.one.edge.p s.spoke.one.edge.q) → IsLabelled cs (labelled_of s)
labelled_is cs h s i e = record {
  inside = in_contains (edges_of cs) s.spoke.one.edge (map_in (λ c. c.edge) cs s.spoke.one (contains_in cs s.spoke.one i));
  left = ap (λ t. beyond t s.spoke.one) (e ∙ right_is_beyond cs h s.spoke.one i) ∙ back_beyond (parities_at cs (left_side s.spoke.one.edge.p s.spoke.one.edge.q)) s.spoke.one;
  right = e;
}

-- the labels of an edge that takes its place
abbrev pub begun_after : StandingEdge → Counted → LabelledEdge
begun_after s c = record { edge = c.edge; left = beyond s.under s.spoke.one; right = beyond (beyond s.under s.spoke.one) c }

no_rise : (t : ℤ) → pos 0 ≤ℤ (t -ℤ t)
no_rise t = omega (arith, ints)

under_itself : (e : Edge) → IsUnder e e
under_itself e x a b c d = no_rise ((e.q.x -ℤ e.p.x) *ℤ ((e.p.y *ℤ (e.q.x -ℤ e.p.x)) +ℤ ((x -ℤ e.p.x) *ℤ (e.q.y -ℤ e.p.y))))

pub sloped : (e : Edge) → ¬ (e.p.x ≡ e.q.x) → e.p.x <ℤ e.q.x
sloped e n = less e.p.x e.q.x e.ordered.column n
  where
    less : (x y : ℤ) → x ≤ℤ y → ¬ (x ≡ y) → x <ℤ y
    less x y l n = omega (arith, ints)

module _ (cs own : List Counted) (h : AreLayers cs) (v : Pt) (from : ℕ) (r : IsRangeAt cs own v from (from + 1)) (once : EndsOnce (edges_of cs) v) (c : Counted) (is : get_or own from c ≡ c)
    (slopes : c.edge.p.x <ℤ c.edge.q.x) (s : StandingEdge) (inside : Contains cs s.spoke.one) (s_slopes : (edge_of s).p.x <ℤ (edge_of s).q.x) (ends : (edge_of s).q ≡ v)
    (under : s.under ≡ parities_at cs (right_side (edge_of s).p (edge_of s).q)) where
  abbrev left : Parities
  left = beyond s.under s.spoke.one

  ended : IsLabelled cs (labelled_of s)
  ended = labelled_is cs h s inside under

  highest : (f : Edge) → Contains (edges_of cs) f → f.p.x <ℤ f.q.x → f.q ≡ v → IsUnder f (edge_of s)
  highest f i l q = subst (λ (f : Edge). IsUnder f (edge_of s)) (once (edge_of s) f ended.inside i ends q) (under_itself (edge_of s))

  left_is : left ≡ parities_at cs (left_side c.edge.p c.edge.q)
  left_is = ended.left ∙ sym (left_of_end cs h v (edge_of s) ended.inside s_slopes ends highest c.edge [] (one_spoke cs own v from r c is))

  pub right_is : beyond left c ≡ parities_at cs (right_side c.edge.p c.edge.q)
  right_is = ap (λ t. beyond t c) left_is ∙ sym (right_is_beyond cs h c (begins cs own v from r c is).0)

  abbrev begun : LabelledEdge
  begun = begun_after s c

  begun_is : IsLabelled cs begun
  begun_is = record { inside = begins_in cs own v from r c is; left = left_is; right = right_is }

  pub around_here : AreAround cs v (labelled_of s ∷ (begun ∷ []))
  around_here = record {
    each = All-cons (IsLabelled cs) (labelled_of s) (begun ∷ []) ended (All-cons (IsLabelled cs) begun [] begun_is (All-nil (IsLabelled cs)));
    all = λ e i b. in_contains (edge_of s ∷ (c.edge ∷ [])) e (⊎_elim
        (λ q. inr (inl (only_edge cs own v from r c is e i q)))
        (λ q. inl (once (edge_of s) e ended.inside i ends q)) b);
  }

  pub no_upright : HaveUpright cs v []
  no_upright = record {
    each = All-nil (IsLabelled cs);
    all = λ e i up b. absurd (not_both (only_edge cs own v from r c is e i b) up);
  }
    where
      flat : (x y : ℤ) → x <ℤ y → x ≡ y → ⊥
      flat x y l e = omega (arith, ints)

      not_both : {e : Edge} → c.edge ≡ e → e.p.x ≡ e.q.x → ⊥
      not_both {e} q up = flat e.p.x e.q.x (subst (λ (e : Edge). e.p.x <ℤ e.q.x) q slopes) up

-- ---- all of it
module _ {A : Type 0} (cs own : List Counted) (v : Pt) (from : ℕ) (old : Status A) (began : List LabelledEdge) (r : IsReadyAt cs own v from (from + 1) old began) (once : EndsOnce (edges_of cs) v)
    (c : Counted) (is : get_or own from c ≡ c) (not_upright : ¬ (c.edge.p.x ≡ c.edge.q.x)) (n : ℕ) (inside : n < length old.slots.items) (s : StandingEdge) (in_n : in_slot old.slots.items n ≡ s) (ends : s.spoke.one.edge.q ≡ v) where
  h : AreLayers cs
  h = r.at.at.layers

  begin : IsRangeAt cs own v from (from + 1)
  begin = r.at.at.begin

  around : IsAround n (numbers old)
  around = around_item (numbers old) n (one_stands old r.at.kept v r.free n inside (subst (λ (t : StandingEdge). t.spoke.one.edge.q ≡ v) (sym in_n) ends))

  abbrev low : List StandingEdge
  low = map (in_slot old.slots.items) around.before

  abbrev high : List StandingEdge
  high = map (in_slot old.slots.items) around.behind

  swept : IsSweptUpTo cs v (low ++ (s ∷ high))
  swept = subst (IsSweptUpTo cs v) (ap (map (in_slot old.slots.items)) around.is ∙ map-append (in_slot old.slots.items) around.before (n ∷ around.behind) ∙ ap (λ t. low ++ (t ∷ high)) in_n) r.at.at.swept

  s_stands : In s (low ++ (s ∷ high))
  s_stands = in_back low (s ∷ high) s (inl refl)

  s_reaches : Reaches (edges_of cs) v s.spoke.one.edge
  s_reaches = (swept.edges.exact s.spoke.one.edge).0 (in_contains (map edge_of (low ++ (s ∷ high))) s.spoke.one.edge (map_in edge_of (low ++ (s ∷ high)) s s_stands))

  s_inside : Contains cs s.spoke.one
  s_inside = in_of_all (λ t. Contains cs t.spoke.one) (low ++ (s ∷ high)) swept.inside s s_stands

  s_under : s.under ≡ parities_at cs (right_side s.spoke.one.edge.p s.spoke.one.edge.q)
  s_under = in_of_all (λ t. t.under ≡ parities_at cs (right_side t.spoke.one.edge.p t.spoke.one.edge.q)) (low ++ (s ∷ high)) swept.under s s_stands

  slopes : c.edge.p.x <ℤ c.edge.q.x
  slopes = sloped c.edge not_upright

  pub around_plain : AreAround cs v (labelled_of s ∷ (begun_after s c ∷ []))
  around_plain = around_here cs own h v from begin once c is slopes s s_inside s_reaches.slopes ends s_under

  pub past_plain : (changed : Status A) (k : StandingEdge) → changed.chunks ≡ old.chunks → changed.free ≡ old.free → changed.slots.items ≡ set old.slots.items n k → k.spoke.one ≡ c → k.under ≡ beyond (beyond s.under s.spoke.one) c
      → IsPast cs v changed []
  past_plain changed k chunks free slots one under = record {
    swept = subst (IsSweptTo cs v) (sym (stands_on old changed n k chunks free slots r.at.kept inside around))
        (swept_on cs h v r.at.at.vertex low s high swept ends once k
        (subst (λ (d : Counted). Contains cs d) (sym one) b.0)
        (subst (λ (d : Counted). d.edge.p ≡ v) (sym one) b.1)
        (subst (λ (d : Counted). AreFresh (edges_of cs) v (d.edge ∷ [])) (sym one) (one_fresh cs own v from begin c is slopes))
        (subst (λ (d : Counted). k.under ≡ parities_at cs (right_side d.edge.p d.edge.q)) (sym one) (under ∙ right_is cs own h v from begin once c is slopes s s_inside s_reaches.slopes ends s_under)));
    kept = kept_on old changed n k chunks free slots r.at.kept inside around;
    free = ended_on old changed n k chunks free slots r.at.kept inside around v (ended_before v old r.free);
    upright = no_upright cs own h v from begin once c is slopes s s_inside s_reaches.slopes ends s_under;
  }
    where
      b : Contains cs c × (c.edge.p ≡ v)
      b = begins cs own v from begin c is

-- ---- at any vertex, by turning
-- the labels of the edges that begin there are listed
pub begun_listed : (none now : List LabelledEdge) (at left : Parities) (ks ss : List Spoke) → none ≡ [] → now ≡ none ++ labels_from at ks → at ≡ left → ks ≡ ss → now ≡ labels_from left ss
begun_listed none now at left ks ss h i j k = i ∙ ap (λ t. t ++ labels_from at ks) h ∙ ap (λ t. labels_from t ks) j ∙ ap (labels_from left) k

ended_edges : (ss : List StandingEdge) → map (λ (l : LabelledEdge). l.edge) (map labelled_of ss) ≡ map edge_of ss
ended_edges [] = refl
ended_edges (s ∷ ss) = ap (λ t. edge_of s ∷ t) (ended_edges ss)

module _ (cs : List Counted) (v : Pt) (left : Parities) (ss : List Spoke) (a : AreSpokes (edges_of cs) v (map edge_at ss)) (labels : All (IsLabelled cs) (labels_from left ss)) where
  pub begun_in : (e : Edge) → Contains (edges_of cs) e → e.p ≡ v → Contains (map (λ (l : LabelledEdge). l.edge) (labels_from left ss)) e
  begun_in e i b = subst (λ (es : List Edge). Contains es e) (sym (labels_edges left ss)) ((a.exact e).1 (i, b))

  pub upright_turned : HaveUpright cs v (labels_from left ss)
  upright_turned = record { each = labels; all = λ e i up b. begun_in e i b }

  module _ (h : AreLayers cs) (ended : List StandingEdge) (d : AreEnded cs v ended) (old : List LabelledEdge) (u : HaveUprightTo cs v old) where
    abbrev edges : List LabelledEdge → List Edge
    edges ls = map (λ (l : LabelledEdge). l.edge) ls

    ended_labels : All (IsLabelled cs) (map labelled_of ended)
    ended_labels = all_of_in (IsLabelled cs) (map labelled_of ended) (λ l i. let s = in_map labelled_of ended l i in
        subst (IsLabelled cs) s.2
        (labelled_is cs h s.0 (in_of_all (λ t. Contains cs t.spoke.one) ended d.inside s.0 s.1)
        (in_of_all (λ t. t.under ≡ parities_at cs (right_side t.spoke.one.edge.p t.spoke.one.edge.q)) ended d.under s.0 s.1)))

    parts : edges (map labelled_of ended ++ old ++ labels_from left ss) ≡ (edges (map labelled_of ended) ++ edges old) ++ edges (labels_from left ss)
    parts = map-append (λ (l : LabelledEdge). l.edge) (map labelled_of ended ++ old) (labels_from left ss) ∙ ap (λ t. t ++ edges (labels_from left ss)) (map-append (λ (l : LabelledEdge). l.edge) (map labelled_of ended) old)

    in_ended : (e : Edge) → Contains (edges_of cs) e → e.q ≡ v → Contains (edges (map labelled_of ended) ++ edges old) e
    in_ended e i q = ⊎_elim
        (λ l. Contains-append_left (edges (map labelled_of ended)) (edges old) e (subst (λ (es : List Edge). Contains es e) (sym (ended_edges ended)) ((d.exact e).1 (i, l, q))))
        (λ up. Contains-append_right (edges (map labelled_of ended)) (edges old) e (u.all e i up.0 q))
        (before_cases e.p e.q e.ordered)

    pub around_turned : AreAround cs v (map labelled_of ended ++ old ++ labels_from left ss)
    around_turned = record {
      each = All-append (IsLabelled cs) (map labelled_of ended ++ old) (labels_from left ss) (All-append (IsLabelled cs) (map labelled_of ended) old ended_labels u.each) labels;
      all = λ e i b. subst (λ (es : List Edge). Contains es e) (sym parts) (⊎_elim
          (λ p. Contains-append_right (edges (map labelled_of ended) ++ edges old) (edges (labels_from left ss)) e (begun_in e i p))
          (λ q. Contains-append_left (edges (map labelled_of ended) ++ edges old) (edges (labels_from left ss)) e (in_ended e i q)) b);
    }
