-- The first vertex of a column: the edges that cross the column on its left, from high to low, each with the parities below it, are what stands before it.
use Rattle.std.proofs.Common.{◌≡◌, inl, inr, ⊎_elim, Bool, true, false, cond, int_lt, List, [], ◌∷◌, ◌++◌, map, reverse, refl, sym, ap, ◌∙◌, subst, arith, append_assoc}
use Rattle.std.specs.List.{All, AllPairs, Contains}
use Rattle.std.specs.Prelude.{pos, ◌<ℤ◌, ◌≤ℤ◌}
use Rattle.std.proofs.Math.IntN.{ℤ, ◌-ℤ◌}
use Rattle.std.proofs.lemmas.Int.{ints, by_lt_z}
use lib.Signed.{lt_z, le_z}
use Rattle.geom.specs.declared.point.Pt.{Pt}
use Rattle.geom.specs.declared.segment.Source.{Source}
use Rattle.geom.specs.declared.segment.Source.TheVariants.{A, B}
use Rattle.geom.specs.declared.edge.Edge.{Edge}
use Rattle.geom.specs.declared.edge.Counted.{Counted}
use Rattle.geom.specs.Order.{IsBefore}
use Rattle.geom.specs.Parity as geom
use Rattle.geom.specs.ResultEdges.{left_side, right_side}
use Rattle.geom.specs.Rounded.{edges_of, odd_edges}
use Rattle.geom.proofs.Lists.{In, in_contains, contains_in, in_append, in_back, map_in}
use Rattle.geom.proofs.Numbers.{weak, lt_le, past_predecessor}
use Rattle.geom.proofs.Tests.{lt_yes}
use Rattle.points_law.specs.Law.{AreLayers}
use Rattle.points_law.proofs.Choices.{◌⊕◌, ◌∧∧◌, Noded, Even, parity, left, right}
use Rattle.points_law.proofs.ResultOfChoices.{Edges}
use Rattle.points_law.proofs.Sums.{par_cong, par_xor, par_none}
use Rattle.points_law.proofs.Even.{same, same_is, same_refl, not_true, once}
use Rattle.points_law.proofs.Column.{cv, ab, cv_low, cv_high, not_above_itself, differ, among}
use Rattle.points_law.proofs.Turn.{sloping_left, sloping_right}
use Rattle.points_law.proofs.Layers.{edges_in}
use Rattle.label_sweep.specs.declared.parities.Parities.{Parities}
use Rattle.label_sweep.specs.declared.standing.Spoke.{Spoke}
use Rattle.label_sweep.specs.declared.standing.StandingEdge.{StandingEdge}
use Rattle.label_sweep.specs.declared.standing.LabelledEdge.{LabelledEdge}
use Rattle.label_sweep.specs.Column.{AreCrossing, BeginsColumn, Crosses}
use Rattle.label_sweep.specs.Labels.{BeginsWith, IsLabelled, IsSweptUpTo, beyond, labels_from, parities_at, standing_of, stands_from}
use Rattle.label_sweep.specs.Status.{AreStanding, IsUnder, Reaches}
use Rattle.label_sweep.proofs.Labelling.{Chained, labelled}
use Rattle.label_sweep.proofs.Members.{all_of_in, in_of_all, in_reverse, map_reverse, pairs_of_map, reverse_in}
use Rattle.label_sweep.proofs.Passing.{Apart, edge_of, stand_is, turned}
use Rattle.label_sweep.proofs.Step.{Pairs, pairs_across, pairs_right}
use Rattle.label_sweep.proofs.Turning.{edge_at}
use Rattle.label_sweep.proofs.West.{ab_of, none_term, not_above, not_both, other_term, own_term}
use Rattle.label_sweep.proofs.Words.{choice, even, layer, pairs_from, pairs_map, pairs_to}

-- the edges that cover the column from k to k + 1, from high to low
record Column (es : List Edge) (k : ℤ) (crossing : List Edge) : Type 0 where
  sound : (e : Edge) → In e crossing → In e es × (cv e k ≡ true)
  complete : (e : Edge) → In e es → cv e k ≡ true → In e crossing
  order : Pairs (λ e f. ab e f k ≡ true) crossing

-- ---- g is next above f
module _ (es : List Edge) (h : Edges es) (k : ℤ) (before : List Edge) (g f : Edge) (rest : List Edge) (c : Column es k (before ++ (g ∷ (f ∷ rest)))) where
  of_g : In g es × (cv g k ≡ true)
  of_g = c.sound g (in_back before (g ∷ (f ∷ rest)) g (inl refl))

  of_f : In f es × (cv f k ≡ true)
  of_f = c.sound f (in_back before (g ∷ (f ∷ rest)) f (inr (inl refl)))

  from_g : Pairs (λ e f. ab e f k ≡ true) (g ∷ (f ∷ rest))
  from_g = pairs_right (λ e f. ab e f k ≡ true) before (g ∷ (f ∷ rest)) c.order

  above_both : (z : Edge) → In z before → ab z f k ≡ ab z g k
  above_both z i = pairs_across (λ e f. ab e f k ≡ true) before (g ∷ (f ∷ rest)) c.order z f i (inr (inl refl))
      ∙ sym (pairs_across (λ e f. ab e f k ≡ true) before (g ∷ (f ∷ rest)) c.order z g i (inl refl))

  below : (e z : Edge) → In e es → cv e k ≡ true → In z es → cv z k ≡ true → ab e z k ≡ true → ab z e k ≡ false
  below e z i d j w u = not_above es h.noded k e z i j d w u

  below_both : (z : Edge) → In z es → cv z k ≡ true → In z rest → ab z f k ≡ ab z g k
  below_both z i w j = below f z of_f.0 of_f.1 i w (from_g.1.0 z j) ∙ sym (below g z of_g.0 of_g.1 i w (from_g.0 z (inr j)))

  f_is_lower : ab f f k ≡ ab f g k
  f_is_lower = not_above_itself f k ∙ sym (below g f of_g.0 of_g.1 of_f.0 of_f.1 (from_g.0 f (inl refl)))

  alike : (z : Edge) → In z es → same g z ≡ false → cv z k ≡ true → ab z f k ≡ ab z g k
  alike z i s w = ⊎_elim (λ j. above_both z j)
      (λ j. ⊎_elim (λ q. absurd (differ g z s q)) (λ l. ⊎_elim (λ q. let P : Edge → Type 0 = λ z. ab z f k ≡ ab z g k in subst P q f_is_lower) (λ r. below_both z i w r) l) j)
      (in_append before (g ∷ (f ∷ rest)) z (c.complete z i w))

  each : (a : Edge → Bool) (z : Edge) → In z es → (t : Bool) → same g z ≡ t → a z ∧∧ (cv z k ∧∧ ab z f k) ≡ (a z ∧∧ (cv z k ∧∧ ab z g k)) ⊕ (same z g ∧∧ a z)
  each a z i true s = let P : Edge → Type 0 = λ z. a z ∧∧ (cv z k ∧∧ ab z f k) ≡ (a z ∧∧ (cv z k ∧∧ ab z g k)) ⊕ (same z g ∧∧ a z) in
      subst P (same_is g z s) (own_term (a g) (cv g k) (ab g f k) (ab g g k) (same g g) of_g.1 (from_g.0 f (inl refl)) (not_above_itself g k) (same_refl g))
  each a z i false s = other_term (a z) (cv z k) (ab z f k) (ab z g k) (same z g) (λ w. alike z i s w) (not_true (same z g) (λ q. differ g z s (sym (same_is z g q))))

  -- the parity on the left of f is that on the right of g
  next_below : (a : Edge → Bool) → Even a es → parity a es (left f) ≡ parity a es (right g)
  next_below a ev = sloping_left es h a ev f of_f.0 k of_f.1
      ∙ par_cong (λ z. a z ∧∧ (cv z k ∧∧ ab z f k)) (λ z. (a z ∧∧ (cv z k ∧∧ ab z g k)) ⊕ (same z g ∧∧ a z)) es (λ z i. each a z i (same g z) refl)
      ∙ sym (par_xor (λ z. a z ∧∧ (cv z k ∧∧ ab z g k)) (λ z. same z g ∧∧ a z) es)
      ∙ ap (λ (t : Bool). among a es g k ⊕ t) (once es h.distinct a g of_g.0)
      ∙ sym (sloping_right es h a ev g of_g.0 k of_g.1)

-- ---- f is the highest
module _ (es : List Edge) (h : Edges es) (k : ℤ) (f : Edge) (rest : List Edge) (c : Column es k (f ∷ rest)) where
  none_above : (z : Edge) → In z es → cv z k ≡ true → ab z f k ≡ true → ⊥
  none_above z i w u = not_both (ab z f k) u (⊎_elim (λ q. let P : Edge → Type 0 = λ z. ab z f k ≡ false in subst P q (not_above_itself f k))
      (λ j. let b = c.sound f (inl refl) in not_above es h.noded k f z b.0 i b.1 w (c.order.0 z j)) (c.complete z i w))

  -- its left has no parity
  highest : (a : Edge → Bool) → Even a es → parity a es (left f) ≡ false
  highest a ev = (let b = c.sound f (inl refl) in sloping_left es h a ev f b.0 k b.1)
      ∙ par_cong (λ z. a z ∧∧ (cv z k ∧∧ ab z f k)) (λ z. false) es (λ z i. none_term (a z) (cv z k) (ab z f k) (none_above z i))
      ∙ par_none es

-- ---- in both layers
abbrev none : Parities
none = record { a = false; b = false }

module _ (cs : List Counted) (h : AreLayers cs) (k : ℤ) where
  next_left : (before : List Edge) (g f : Edge) (rest : List Edge) → Column (edges_of cs) k (before ++ (g ∷ (f ∷ rest))) → (l : Source)
      → geom.parity (odd_edges l cs) (right_side g.p g.q) ≡ geom.parity (odd_edges l cs) (left_side f.p f.q)
  next_left before g f rest c l = layer cs h l (right_side g.p g.q)
      ∙ sym (next_below (edges_of cs) (edges_in cs h) k before g f rest c (choice cs h l) (even cs h l))
      ∙ sym (layer cs h l (left_side f.p f.q))

  chained : (before rest : List Edge) → Column (edges_of cs) k (before ++ rest) → Chained cs rest
  chained before [] c = tt
  chained before (g ∷ []) c = (tt, tt)
  chained before (g ∷ (f ∷ rest)) c = (
    (λ i. record { a = next_left before g f rest c A i; b = next_left before g f rest c B i }),
    chained (before ++ (g ∷ [])) (f ∷ rest) (subst (λ (t : List Edge). Column (edges_of cs) k t) (sym (append_assoc before (g ∷ []) (f ∷ rest))) c),
  )

  first_left : (f : Edge) (rest : List Edge) → Column (edges_of cs) k (f ∷ rest) → (l : Source) → false ≡ geom.parity (odd_edges l cs) (left_side f.p f.q)
  first_left f rest c l = sym (layer cs h l (left_side f.p f.q) ∙ highest (edges_of cs) (edges_in cs h) k f rest c (choice cs h l) (even cs h l))

  begins : (crossing : List Edge) → Column (edges_of cs) k crossing → BeginsWith cs none crossing
  begins [] c = tt
  begins (f ∷ rest) c = λ i. record { a = first_left f rest c A i; b = first_left f rest c B i }

-- ---- what crosses the column on the left of v reaches v
covers : (p q x : ℤ) → p <ℤ x → x ≤ℤ q → le_z p (x -ℤ pos 1) ∧∧ lt_z (x -ℤ pos 1) q ≡ true
covers p q x h i = grind (arith, ints)

before_next : (p x : ℤ) → p ≤ℤ (x -ℤ pos 1) → p <ℤ x
before_next p x h = omega (arith, ints)

never : (a b : ℤ) → a <ℤ b → b ≤ℤ a → ⊥
never a b h i = omega (arith, ints)

covered : (es : List Edge) (x : ℤ) (e : Edge) → Crosses es x e → cv e (x -ℤ pos 1) ≡ true
covered es x e c = covers e.p.x e.q.x x c.begun c.lasts

crosses : (es : List Edge) (x : ℤ) (e : Edge) → In e es → cv e (x -ℤ pos 1) ≡ true → Crosses es x e
crosses es x e i c = record {
  inside = in_contains es e i;
  begun = before_next e.p.x x (cv_low e (x -ℤ pos 1) c);
  lasts = past_predecessor x e.q.x (cv_high e (x -ℤ pos 1) c);
}

module _ (es : List Edge) (v : Pt) (b : BeginsColumn es v) where
  reaches : (e : Edge) → Crosses es v.x e → Reaches es v e
  reaches e c = record {
    inside = c.inside;
    slopes = lt_le e.p.x v.x e.q.x c.begun c.lasts;
    begun = record { column = weak e.p.x v.x c.begun; row = λ q. absurd (not_same e.p.x v.x c.begun q) };
    lasts = λ l. never e.q.x v.x (b e.q (record { edge = e; inside = c.inside; ends = inr refl }) l) c.lasts;
  }
    where
      not_same : (p x : ℤ) → p <ℤ x → p ≡ x → ⊥
      not_same p x h q = omega (arith, ints)

  reached : (e : Edge) → Reaches es v e → Crosses es v.x e
  reached e r = record {
    inside = r.inside;
    begun = b e.p (record { edge = e; inside = r.inside; ends = inl refl }) r.begun;
    lasts = by_lt_z e.q.x v.x (λ l. absurd (r.lasts (before l))) (λ l. l);
  }
    where
      not_same : (q x : ℤ) → q <ℤ x → q ≡ x → ⊥
      not_same q x h e = omega (arith, ints)

      before : e.q.x <ℤ v.x → IsBefore e.q v
      before l = record { column = weak e.q.x v.x l; row = λ q. absurd (not_same e.q.x v.x l q) }

  standing : (crossing : List Edge) → AreCrossing es v.x crossing → AreStanding (Reaches es v) (reverse crossing)
  standing crossing a = record {
    exact = λ e. (
      (λ i. reaches e ((a.exact e).0 (in_contains crossing e (in_reverse crossing e (contains_in (reverse crossing) e i))))),
      (λ r. in_contains (reverse crossing) e (reverse_in crossing e (contains_in crossing e ((a.exact e).1 (reached e r))))),
    );
    order = pairs_to IsUnder (reverse crossing) (turned IsUnder crossing (pairs_from (λ e f. IsUnder f e) crossing a.order));
  }

-- ---- the column of the edges that cross it
module _ (es : List Edge) (n : Noded es) (v : Pt) where
  from_high : (xs : List Edge) → ((e : Edge) → In e xs → In e es × (cv e (v.x -ℤ pos 1) ≡ true)) → Pairs (λ e f. IsUnder f e) xs → Pairs (λ e f. ¬ (e ≡ f)) xs
      → Pairs (λ e f. ab e f (v.x -ℤ pos 1) ≡ true) xs
  from_high [] s u d = tt
  from_high (x ∷ xs) s u d = (
    (λ y i. let a = s x (inl refl) in let b = s y (inr i) in ab_of y x v (n y x b.0 a.0 (λ q. d.0 y i (sym q))) b.1 a.1 (u.0 y i)),
    from_high xs (λ y i. s y (inr i)) u.1 d.1,
  )

  column : (crossing : List Edge) → AreCrossing es v.x crossing → AllPairs (λ e f. ¬ (e ≡ f)) crossing → Column es (v.x -ℤ pos 1) crossing
  column crossing a d = record {
    sound = sound;
    complete = λ e i c. contains_in crossing e ((a.exact e).1 (crosses es v.x e i c));
    order = from_high crossing sound (pairs_from (λ e f. IsUnder f e) crossing a.order) (pairs_from (λ e f. ¬ (e ≡ f)) crossing d);
  }
    where
      sound : (e : Edge) → In e crossing → In e es × (cv e (v.x -ℤ pos 1) ≡ true)
      sound e i = let c = (a.exact e).0 (in_contains crossing e i) in (contains_in es e c.inside, covered es v.x e c)

-- ---- what stands of edges none of which is upright
abbrev all_standing : Parities → List Spoke → List StandingEdge
all_standing at [] = []
all_standing at (s ∷ ss) = standing_of s (beyond at s.one) ∷ all_standing (beyond at s.one) ss

all_stand : (at : Parities) (ss : List Spoke) → ((s : Spoke) → In s ss → int_lt s.one.edge.p.x s.one.edge.q.x ≡ true) → stands_from at ss ≡ all_standing at ss
all_stand at [] l = refl
all_stand at (s ∷ ss) l = ap (λ (b : Bool). cond b (standing_of s (beyond at s.one) ∷ []) [] ++ stands_from (beyond at s.one) ss) (l s (inl refl))
    ∙ ap (λ t. standing_of s (beyond at s.one) ∷ t) (all_stand (beyond at s.one) ss (λ k i. l k (inr i)))

standing_edges : (at : Parities) (ss : List Spoke) → map edge_of (all_standing at ss) ≡ map edge_at ss
standing_edges at [] = refl
standing_edges at (s ∷ ss) = ap (λ t. s.one.edge ∷ t) (standing_edges (beyond at s.one) ss)

abbrev IsUnderRight : List Counted → StandingEdge → Type 0
IsUnderRight cs t = t.under ≡ parities_at cs (right_side t.spoke.one.edge.p t.spoke.one.edge.q)

under_right : (cs : List Counted) (at : Parities) (ss : List Spoke) → ((l : LabelledEdge) → In l (labels_from at ss) → IsLabelled cs l) → (t : StandingEdge)
    → In t (all_standing at ss) → IsUnderRight cs t
under_right cs at [] g t i = absurd i
under_right cs at (s ∷ ss) g t (inl e) = let P : StandingEdge → Type 0 = λ t. IsUnderRight cs t in
    subst P e (g (record { edge = s.one.edge; left = at; right = beyond at s.one }) (inl refl)).right
under_right cs at (s ∷ ss) g t (inr i) = under_right cs (beyond at s.one) ss (λ l j. g l (inr j)) t i

-- ---- together
module _ (cs : List Counted) (h : AreLayers cs) (v : Pt) (b : BeginsColumn (edges_of cs) v) (ss : List Spoke) (a : AreCrossing (edges_of cs) v.x (map edge_at ss)) where
  slopes : (s : Spoke) → In s ss → int_lt s.one.edge.p.x s.one.edge.q.x ≡ true
  slopes s i = lt_yes s.one.edge.p.x s.one.edge.q.x
      (reaches (edges_of cs) v b s.one.edge ((a.exact s.one.edge).0 (in_contains (map edge_at ss) s.one.edge (map_in edge_at ss s i)))).slopes

  edges_reversed : map edge_of (reverse (stands_from none ss)) ≡ reverse (map edge_at ss)
  edges_reversed = map_reverse edge_of (stands_from none ss) ∙ ap reverse (ap (map edge_of) (all_stand none ss slopes) ∙ standing_edges none ss)

  labels : AllPairs (λ e f. ¬ (e ≡ f)) (map edge_at ss) → All (λ s. Contains cs s.one) ss → All (IsLabelled cs) (labels_from none ss)
  labels d inside = let c = column (edges_of cs) (edges_in cs h).noded v (map edge_at ss) a d in
      labelled cs h ss (in_of_all (λ s. Contains cs s.one) ss inside) (chained cs h (v.x -ℤ pos 1) [] (map edge_at ss) c) none (begins cs h (v.x -ℤ pos 1) (map edge_at ss) c)

  under_all : All (IsLabelled cs) (labels_from none ss) → All (IsUnderRight cs) (reverse (stands_from none ss))
  under_all l = all_of_in (IsUnderRight cs) (reverse (stands_from none ss))
      (λ t i. under_right cs none ss (in_of_all (IsLabelled cs) (labels_from none ss) l) t
      (let P : List StandingEdge → Type 0 = λ ts. In t ts in subst P (all_stand none ss slopes) (in_reverse (stands_from none ss) t i)))

  apart : AllPairs Apart (map edge_at ss) → AllPairs (λ s t. Apart (edge_of s) (edge_of t)) (reverse (stands_from none ss))
  apart d = let P : List Edge → Type 0 = λ es. AllPairs Apart es in
      pairs_of_map Apart edge_of (reverse (stands_from none ss)) (subst P (sym edges_reversed) (pairs_to Apart (reverse (map edge_at ss))
      (turned Apart (map edge_at ss) (pairs_map Apart (λ e f. Apart f e) (λ e f n q. n (sym q)) (map edge_at ss) (pairs_from Apart (map edge_at ss) d)))))

  inside_all : All (λ s. Contains cs s.one) ss → All (λ t. Contains cs t.spoke.one) (reverse (stands_from none ss))
  inside_all inside = all_of_in (λ t. Contains cs t.spoke.one) (reverse (stands_from none ss))
      (λ t i. in_of_all (λ s. Contains cs s.one) ss inside t.spoke (stand_is none ss t (in_reverse (stands_from none ss) t i)).0)

pub column_is_swept : (cs : List Counted) → AreLayers cs → (v : Pt) → BeginsColumn (edges_of cs) v → (ss : List Spoke)
    → AreCrossing (edges_of cs) v.x (map (λ s. s.one.edge) ss) → All (λ s. Contains cs s.one) ss
    → IsSweptUpTo cs v (reverse (stands_from (record { a = false; b = false }) ss))
column_is_swept cs h v b ss a inside = record {
  edges = let P : List Edge → Type 0 = λ es. AreStanding (Reaches (edges_of cs) v) es in
      subst P (sym (edges_reversed cs h v b ss a)) (standing (edges_of cs) v b (map edge_at ss) a);
  once = apart cs h v b ss a a.distinct;
  inside = inside_all cs h v b ss a inside;
  under = under_all cs h v b ss a (labels cs h v b ss a a.distinct inside);
}
