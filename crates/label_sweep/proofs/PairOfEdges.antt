-- Past a vertex where two edges end, and those that begin and are not upright are two: the lower one takes the slot of the lower one that ends, and
-- the upper one that of the upper one.
use Rattle.std.proofs.Common.{◌≡◌, inl, inr, ⊎_elim, ℕ, ◌+◌, ◌<◌, List, [], ◌∷◌, ◌++◌, map, length, get_or, set, reverse, refl, sym, ap, ◌∙◌, subst, arith, append_assoc}
use Rattle.std.specs.List.{All, AllPairs, Contains}
use Rattle.std.specs.Prelude.{pos, ◌<ℤ◌, slice_range}
use Rattle.std.proofs.lemmas.List.{map-append}
use Rattle.std.proofs.lemmas.List.Elements.{All-append, All-cons, All-map}
use Rattle.geom.specs.declared.point.Pt.{Pt}
use Rattle.geom.specs.declared.edge.Edge.{Edge}
use Rattle.geom.specs.declared.edge.Counted.{Counted}
use Rattle.geom.specs.Determinant.{side}
use Rattle.geom.specs.Order.{IsBefore}
use Rattle.geom.specs.ResultEdges.{right_side}
use Rattle.geom.specs.Rounded.{edges_of}
use Rattle.geom.proofs.ListOrder.{pairs_head, pairs_tail}
use Rattle.geom.proofs.Lists.{In, contains_in, in_append, in_back, in_contains, in_front, map_in}
use Rattle.geom.proofs.Orders.{before_itself}
use Rattle.points_law.specs.Law.{AreLayers}
use Rattle.label_sweep.specs.declared.leaving.Seated.{Seated}
use Rattle.label_sweep.specs.declared.parities.Parities.{Parities}
use Rattle.label_sweep.specs.declared.standing.Spoke.{Spoke}
use Rattle.label_sweep.specs.declared.standing.StandingEdge.{StandingEdge}
use Rattle.label_sweep.specs.declared.standing.LabelledEdge.{LabelledEdge}
use Rattle.label_sweep.specs.declared.status.Status.{Status}
use Rattle.label_sweep.specs.Chunks.{joined}
use Rattle.label_sweep.specs.Endings.{EndsTwice}
use Rattle.label_sweep.specs.Labels.{BeginsWith, IsLabelled, IsSweptTo, IsSweptUpTo, beyond, labelled_of, labels_from, parities_at, stands_from}
use Rattle.label_sweep.specs.Leaving.{AreAround, IsPast, IsReadyAt, IsSeatedTo}
use Rattle.label_sweep.specs.Slots.{HaveEnded, IsKept, all_standing, in_slot, numbers}
use Rattle.label_sweep.specs.Status.{AreSpokes, AreStanding, GoesOn, IsSteeper, IsVertexOf, Reaches}
use Rattle.label_sweep.proofs.Around.{not_steeper}
use Rattle.label_sweep.proofs.Members.{all_of_in, in_of_all, map_pairs, pairs_of_map}
use Rattle.label_sweep.proofs.Passing.{Apart, are_fresh, edge_of, fresh_apart, fresh_inside, fresh_under, labels, of_range}
use Rattle.label_sweep.proofs.Plain.{IsAround, around_item, begun_in, ended_before, ended_on, kept_on, labelled_is, level_at_end, not_before, not_behind, one_changes, one_stands, others_stay, same_length, stands_on, upright_turned}
use Rattle.label_sweep.proofs.Step.{Pairs, pairs_across, pairs_append, pairs_left, pairs_right}
use Rattle.label_sweep.proofs.Straight.{left_of_end}
use Rattle.label_sweep.proofs.Turning.{edge_at}
use Rattle.label_sweep.proofs.TwoEnd.{above, below, highest, next_is}
use Rattle.label_sweep.proofs.Words.{pairs_from, pairs_to, standing_stays, steeper_of}

-- ---- lists
-- where no two items are given one thing, an item is known by what it is given
only_one : {X Y : Type 0} (f : X → Y) (xs : List X) → AllPairs (λ x y. ¬ (f x ≡ f y)) xs → (x y : X) → In x xs → In y xs → f x ≡ f y → x ≡ y
only_one f [] h x y i j q = absurd i
only_one f (z ∷ zs) h x y (inl e) (inl k) q = sym e ∙ k
only_one f (z ∷ zs) h x y (inl e) (inr j) q = absurd (pairs_head (λ x y. ¬ (f x ≡ f y)) z zs h y j (ap f e ∙ q))
only_one f (z ∷ zs) h x y (inr i) (inl k) q = absurd (pairs_head (λ x y. ¬ (f x ≡ f y)) z zs h x i (ap f k ∙ sym q))
only_one f (z ∷ zs) h x y (inr i) (inr j) q = only_one f zs (pairs_tail (λ x y. ¬ (f x ≡ f y)) z zs h) x y i j q

-- the first of some items, and the further ones
record HasFirst {X Y : Type 0} (f : X → Y) (xs : List X) (y : Y) : Type 0 where
  first : X
  rest : List X
  is : xs ≡ first ∷ rest
  gives : f first ≡ y

has_first : {X Y : Type 0} (f : X → Y) (xs : List X) (y : Y) (ys : List Y) → map f xs ≡ y ∷ ys → HasFirst f xs y
has_first f [] y ys e = absurd (omega (arith, ap length e))
has_first f (x ∷ xs) y ys e = record { first = x; rest = xs; is = refl; gives = ap (λ t. get_or t 0 y) e }

-- two items that stand side by side
pub record AreBeside {X : Type 0} (x y : X) (xs : List X) : Type 0 where
  pub before : List X
  pub behind : List X
  pub is : xs ≡ before ++ (x ∷ (y ∷ behind))

-- a list of two
pub two_items : {X : Type 0} (xs : List X) (x y : X) → length xs ≡ 2 → get_or xs 0 x ≡ x → get_or xs 1 y ≡ y → xs ≡ x ∷ (y ∷ [])
two_items [] x y l i j = absurd (omega (arith, l))
two_items (z ∷ []) x y l i j = absurd (omega (arith, l))
two_items (z ∷ (w ∷ [])) x y l i j = λ k. i k ∷ (j k ∷ [])
two_items (z ∷ (w ∷ (u ∷ us))) x y l i j = absurd (omega (arith, l))

-- ---- what begins in the place of what is level
module _ (cs : List Counted) (h : AreLayers cs) (v : Pt) (x : IsVertexOf (edges_of cs) v) (low mid high : List StandingEdge) (u : IsSweptUpTo cs v (low ++ (mid ++ high)))
    (lower : (t : StandingEdge) → In t low → pos 0 <ℤ side (edge_of t).p (edge_of t).q v) (level : (t : StandingEdge) → In t mid → side (edge_of t).p (edge_of t).q v ≡ pos 0)
    (higher : (t : StandingEdge) → In t high → side (edge_of t).p (edge_of t).q v <ℤ pos 0)
    (ss : List Spoke) (a : AreSpokes (edges_of cs) v (map edge_at ss)) (inside : All (λ s. Contains cs s.one) ss) (left : Parities) (b : BeginsWith cs left (map edge_at ss)) where
  abbrev fresh : List StandingEdge
  fresh = reverse (stands_from left ss)

  abbrev edges : List StandingEdge → List Edge
  edges ts = map edge_of ts

  parts : (ts : List StandingEdge) → edges (low ++ (ts ++ high)) ≡ edges low ++ (edges ts ++ edges high)
  parts ts = map-append edge_of low (ts ++ high) ∙ ap (λ es. edges low ++ es) (map-append edge_of ts high)

  of_edges : (P : Edge → Type 0) (ts : List StandingEdge) → ((t : StandingEdge) → In t ts → P (edge_of t)) → All P (edges ts)
  of_edges P ts f = All-map P edge_of ts (all_of_in (λ t. P (edge_of t)) ts f)

  stood : AreStanding (Reaches (edges_of cs) v) (edges low ++ (edges mid ++ edges high))
  stood = let P : List Edge → Type 0 = λ es. AreStanding (Reaches (edges_of cs) v) es in subst P (parts mid) u.edges

  stays : AreStanding (GoesOn (edges_of cs) v) (edges low ++ (edges fresh ++ edges high))
  stays = standing_stays cs h v x (edges low) (edges mid) (edges high) (edges fresh) stood (of_edges (λ e. pos 0 <ℤ side e.p e.q v) low lower) (of_edges (λ e. side e.p e.q v ≡ pos 0) mid level)
      (of_edges (λ e. side e.p e.q v <ℤ pos 0) high higher) (are_fresh cs h v ss a inside left)

  -- what came to v is none of what begins there
  not_fresh : (e f : Edge) → In e (edges low ++ (edges mid ++ edges high)) → In f (edges fresh) → Apart e f
  not_fresh e f i j q = before_itself v (subst (λ (w : Pt). IsBefore w v)
      (ap (λ (g : Edge). g.p) q ∙ (((are_fresh cs h v ss a inside left).exact f).0 (in_contains (edges fresh) f j)).2)
      ((stood.exact e).0 (in_contains (edges low ++ (edges mid ++ edges high)) e i)).begun)

  old_apart : Pairs Apart (edges low ++ (edges mid ++ edges high))
  old_apart = let P : List Edge → Type 0 = λ es. Pairs Apart es in subst P (parts mid) (pairs_from Apart (edges (low ++ (mid ++ high))) (map_pairs Apart edge_of (low ++ (mid ++ high)) u.once))

  each_once : Pairs Apart (edges low ++ (edges fresh ++ edges high))
  each_once = pairs_append Apart (edges low) (edges fresh ++ edges high) (pairs_left Apart (edges low) (edges mid ++ edges high) old_apart)
      (pairs_append Apart (edges fresh) (edges high) (fresh_apart cs h v ss a inside left) (pairs_right Apart (edges mid) (edges high) (pairs_right Apart (edges low) (edges mid ++ edges high) old_apart))
      (λ f e i j q. not_fresh e f (in_back (edges low) (edges mid ++ edges high) e (in_back (edges mid) (edges high) e j)) i (sym q)))
      (λ e f i j. ⊎_elim (λ k. not_fresh e f (in_front (edges low) (edges mid ++ edges high) e i) k)
      (λ k. pairs_across Apart (edges low) (edges mid ++ edges high) old_apart e f i (in_back (edges mid) (edges high) f k)) (in_append (edges fresh) (edges high) f j))

  all_with : (P : StandingEdge → Type 0) → All P (low ++ (mid ++ high)) → All P fresh → All P (low ++ (fresh ++ high))
  all_with P o f = All-append P low (fresh ++ high) (all_of_in P low (λ t i. in_of_all P (low ++ (mid ++ high)) o t (in_front low (mid ++ high) t i)))
      (All-append P fresh high f (all_of_in P high (λ t i. in_of_all P (low ++ (mid ++ high)) o t (in_back low (mid ++ high) t (in_back mid high t i)))))

  pub swept_with : IsSweptTo cs v (low ++ (fresh ++ high))
  swept_with = record {
    edges = let P : List Edge → Type 0 = λ es. AreStanding (GoesOn (edges_of cs) v) es in subst P (sym (parts fresh)) stays;
    once = let P : List Edge → Type 0 = λ es. AllPairs Apart es in pairs_of_map Apart edge_of (low ++ (fresh ++ high)) (subst P (sym (parts fresh)) (pairs_to Apart (edges low ++ (edges fresh ++ edges high)) each_once));
    inside = all_with (λ t. Contains cs t.spoke.one) u.inside (fresh_inside cs h v ss a inside left);
    under = all_with (λ t. t.under ≡ parities_at cs (right_side t.spoke.one.edge.p t.spoke.one.edge.q)) u.under (fresh_under cs h v ss a inside left b);
  }

-- ---- two slots, of which one changes after the other
module _ {A : Type 0} (old between changed : Status A) (n m : ℕ) (f g : StandingEdge)
    (chunks : between.chunks ≡ old.chunks) (free : between.free ≡ old.free) (slots : between.slots.items ≡ set old.slots.items n f)
    (chunks_too : changed.chunks ≡ between.chunks) (free_too : changed.free ≡ between.free) (slots_too : changed.slots.items ≡ set between.slots.items m g)
    (kept : IsKept old) (n_in : n < length old.slots.items) (m_in : m < length old.slots.items) (p : AreBeside n m (numbers old)) where
  -- its place among the numbers, and that of the second one, once the first slot has changed
  abbrev at_first : IsAround n (numbers old)
  at_first = record { before = p.before; behind = m ∷ p.behind; is = p.is }

  abbrev at_second : IsAround m (numbers between)
  at_second = record { before = p.before ++ (n ∷ []); behind = p.behind; is = ap (λ t. joined t.items) chunks ∙ p.is ∙ sym (append_assoc p.before (n ∷ []) (m ∷ p.behind)) }

  kept_between : IsKept between
  kept_between = kept_on old between n f chunks free slots kept n_in at_first

  m_there : m < length between.slots.items
  m_there = subst (λ (l : ℕ). m < l) (sym (same_length old between n f chunks free slots kept n_in at_first)) m_in

  pub kept_both : IsKept changed
  kept_both = kept_on between changed m g chunks_too free_too slots_too kept_between m_there at_second

  pub ended_both : (v : Pt) → HaveEnded v old → HaveEnded v changed
  ended_both v e = ended_on between changed m g chunks_too free_too slots_too kept_between m_there at_second v (ended_on old between n f chunks free slots kept n_in at_first v e)

  first_changes : map (in_slot between.slots.items) (p.before ++ (n ∷ [])) ≡ map (in_slot old.slots.items) p.before ++ (f ∷ [])
  first_changes = ap (λ t. map (in_slot t) (p.before ++ (n ∷ []))) slots ∙ one_changes old.slots.items n n_in f p.before [] (not_before old between n f chunks free slots kept n_in at_first) (λ i. i)

  rest_stays : map (in_slot between.slots.items) p.behind ≡ map (in_slot old.slots.items) p.behind
  rest_stays = ap (λ t. map (in_slot t) p.behind) slots
      ∙ others_stay old.slots.items n n_in f p.behind (λ i. not_behind old between n f chunks free slots kept n_in at_first (in_front (m ∷ p.behind) old.free.items n (inr i)))

  pub both_stand : all_standing changed ≡ map (in_slot old.slots.items) p.before ++ (f ∷ (g ∷ map (in_slot old.slots.items) p.behind))
  both_stand = stands_on between changed m g chunks_too free_too slots_too kept_between m_there at_second
      ∙ ap (λ t. t ++ (g ∷ map (in_slot between.slots.items) p.behind)) first_changes
      ∙ ap (λ t. (map (in_slot old.slots.items) p.before ++ (f ∷ [])) ++ (g ∷ t)) rest_stays
      ∙ append_assoc (map (in_slot old.slots.items) p.before) (f ∷ []) (g ∷ map (in_slot old.slots.items) p.behind)

-- ---- all of it
module _ {A : Type 0} (cs own : List Counted) (v : Pt) (from : ℕ) (old : Status A) (began : List LabelledEdge) (r : IsReadyAt cs own v from (from + 2) old began) (twice : EndsTwice (edges_of cs) v)
    (l k : Seated) (lo : IsSeatedTo old v l) (hi : IsSeatedTo old v k) (steeper : IsSteeper l.one.spoke.one.edge k.one.spoke.one.edge)
    (ss : List Spoke) (a : AreSpokes (edges_of cs) v (map edge_at ss)) (listed : All (λ s. Contains (slice_range own from (from + 2)) s.one) ss) where
  h : AreLayers cs
  h = r.at.at.layers

  abbrev all : List StandingEdge
  all = all_standing old

  abbrev stand : List ℕ → List StandingEdge
  stand ns = map (in_slot old.slots.items) ns

  -- an edge in a slot that ends at v stands, reaches v and is labelled
  is_number : (s : Seated) → IsSeatedTo old v s → In s.number (numbers old)
  is_number s t = one_stands old r.at.kept v r.free s.number t.inside (subst (λ (o : StandingEdge). o.spoke.one.edge.q ≡ v) (sym t.there) t.ends)

  stands : (s : Seated) → IsSeatedTo old v s → In s.one all
  stands s t = subst (λ (o : StandingEdge). In o all) t.there (map_in (in_slot old.slots.items) (numbers old) s.number (is_number s t))

  reaches : (s : Seated) → IsSeatedTo old v s → Reaches (edges_of cs) v s.one.spoke.one.edge
  reaches s t = (r.at.at.swept.edges.exact (edge_of s.one)).0 (in_contains (map edge_of all) (edge_of s.one) (map_in edge_of all s.one (stands s t)))

  labelled : (s : Seated) → IsSeatedTo old v s → IsLabelled cs (labelled_of s.one)
  labelled s t = labelled_is cs h s.one (in_of_all (λ t. Contains cs t.spoke.one) all r.at.at.swept.inside s.one (stands s t))
      (in_of_all (λ t. t.under ≡ parities_at cs (right_side t.spoke.one.edge.p t.spoke.one.edge.q)) all r.at.at.swept.under s.one (stands s t))

  -- ---- their slots
  abbrev around : IsAround l.number (numbers old)
  around = around_item (numbers old) l.number (is_number l lo)

  parted : all ≡ stand around.before ++ (l.one ∷ stand around.behind)
  parted = ap stand around.is ∙ map-append (in_slot old.slots.items) around.before (l.number ∷ around.behind) ∙ ap (λ t. stand around.before ++ (t ∷ stand around.behind)) lo.there

  -- the slot behind that of the lower one is that of the upper one
  next : HasFirst (in_slot old.slots.items) around.behind k.one
  next = let t = next_is cs h v r.at.at.vertex all r.at.at.swept twice l.one k.one (stands l lo) (stands k hi) lo.ends hi.ends steeper (stand around.before) (stand around.behind) parted in
      has_first (in_slot old.slots.items) around.behind k.one t.0 t.1

  same_slot : next.first ≡ k.number
  same_slot = only_one (λ i. edge_of (in_slot old.slots.items i)) (numbers old) (pairs_of_map (λ s t. ¬ (edge_of s ≡ edge_of t)) (in_slot old.slots.items) (numbers old) r.at.at.swept.once) next.first k.number
      (subst (λ (ns : List ℕ). In next.first ns) (sym around.is)
      (in_back around.before (l.number ∷ around.behind) next.first (inr (subst (λ (ns : List ℕ). In next.first ns) (sym next.is) (inl refl)))))
      (is_number k hi) (ap edge_of (next.gives ∙ sym hi.there))

  abbrev beside : AreBeside l.number k.number (numbers old)
  beside = record { before = around.before; behind = next.rest; is = around.is ∙ ap (λ t. around.before ++ (l.number ∷ t)) (next.is ∙ ap (λ t. t ∷ next.rest) same_slot) }

  abbrev low : List StandingEdge
  low = stand around.before

  abbrev high : List StandingEdge
  high = stand next.rest

  both_stood : all ≡ low ++ (l.one ∷ (k.one ∷ high))
  both_stood = parted ∙ ap (λ t. low ++ (l.one ∷ t)) (ap stand next.is ∙ ap (λ t. t ∷ high) next.gives)

  -- ---- the labels: what lies on the left of the first edge that begins lies on the left of the upper one
  abbrev left : Parities
  left = beyond k.one.under k.one.spoke.one

  left_is : (ks : List Edge) → AreSpokes (edges_of cs) v ks → BeginsWith cs left ks
  left_is [] a = tt
  left_is (e ∷ rest) a = (labelled k hi).left ∙ sym (left_of_end cs h v (edge_of k.one) (labelled k hi).inside (reaches k hi).slopes hi.ends
      (highest cs h v r.at.at.vertex all r.at.at.swept twice l.one k.one (stands l lo) (stands k hi) lo.ends hi.ends steeper) e rest a)

  inside : All (λ s. Contains cs s.one) ss
  inside = of_range cs own v from (from + 2) r.at.at.begin ss listed

  begun : All (IsLabelled cs) (labels_from left ss)
  begun = labels cs h v ss a inside left (left_is (map edge_at ss) a)

  differ : ¬ (edge_of l.one ≡ edge_of k.one)
  differ e = not_steeper (edge_of l.one) (edge_of k.one) e (steeper_of (edge_of l.one) (edge_of k.one) steeper)

  abbrev begun_edges : List Edge
  begun_edges = map (λ (l : LabelledEdge). l.edge) (labels_from left ss)

  pub around_both : AreAround cs v (labelled_of l.one ∷ (labelled_of k.one ∷ labels_from left ss))
  around_both = record {
    each = All-cons (IsLabelled cs) (labelled_of l.one) (labelled_of k.one ∷ labels_from left ss) (labelled l lo) (All-cons (IsLabelled cs) (labelled_of k.one) (labels_from left ss) (labelled k hi) begun);
    all = λ e i b. in_contains (edge_of l.one ∷ (edge_of k.one ∷ begun_edges)) e (⊎_elim
        (λ p. inr (inr (contains_in begun_edges e (begun_in cs v left ss a begun e i p))))
        (λ q. ⊎_elim (λ e. absurd (differ e)) (⊎_elim (λ e. inr (inl e)) (λ e. inl e))
        (twice (edge_of l.one) (edge_of k.one) e (labelled l lo).inside (labelled k hi).inside i lo.ends hi.ends q)) b);
  }

  -- ---- what stands
  level : (t : StandingEdge) → In t (l.one ∷ (k.one ∷ [])) → side (edge_of t).p (edge_of t).q v ≡ pos 0
  level t (inl e) = subst (λ (t : StandingEdge). side (edge_of t).p (edge_of t).q v ≡ pos 0) e (level_at_end (edge_of l.one) v lo.ends)
  level t (inr (inl e)) = subst (λ (t : StandingEdge). side (edge_of t).p (edge_of t).q v ≡ pos 0) e (level_at_end (edge_of k.one) v hi.ends)
  level t (inr (inr i)) = absurd i

  swept : IsSweptTo cs v (low ++ (reverse (stands_from left ss) ++ high))
  swept = swept_with cs h v r.at.at.vertex low (l.one ∷ (k.one ∷ [])) high (subst (IsSweptUpTo cs v) both_stood r.at.at.swept)
      (below cs h v r.at.at.vertex all r.at.at.swept twice l.one k.one (stands l lo) (stands k hi) lo.ends hi.ends steeper low high both_stood)
      level
      (above cs h v r.at.at.vertex all r.at.at.swept twice l.one k.one (stands l lo) (stands k hi) lo.ends hi.ends steeper low high both_stood)
      ss a inside left (left_is (map edge_at ss) a)

  pub past_both : (between changed : Status A) (f g : StandingEdge) → reverse (stands_from left ss) ≡ f ∷ (g ∷ [])
      → between.chunks ≡ old.chunks → between.free ≡ old.free → between.slots.items ≡ set old.slots.items l.number f
      → changed.chunks ≡ between.chunks → changed.free ≡ between.free → changed.slots.items ≡ set between.slots.items k.number g
      → IsPast cs v changed (labels_from left ss)
  past_both between changed f g two chunks free slots chunks_too free_too slots_too = record {
    swept = subst (IsSweptTo cs v)
        (ap (λ t. low ++ (t ++ high)) two
        ∙ sym (both_stand old between changed l.number k.number f g chunks free slots chunks_too free_too slots_too r.at.kept lo.inside hi.inside beside))
        swept;
    kept = kept_both old between changed l.number k.number f g chunks free slots chunks_too free_too slots_too r.at.kept lo.inside hi.inside beside;
    free = ended_both old between changed l.number k.number f g chunks free slots chunks_too free_too slots_too r.at.kept lo.inside hi.inside beside v (ended_before v old r.free);
    upright = upright_turned cs v left ss a begun;
  }
