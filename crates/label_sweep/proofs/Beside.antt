-- Edges with the edge beside each: those that begin at one vertex, and lists of them behind one another.
use Rattle.std.proofs.Common.{◌≡◌, inl, inr, ⊎_elim, ℕ, ◌+◌, ◌-◌, ◌<◌, ◌≤◌, List, [], ◌∷◌, ◌++◌, Option, None, Some, map, length, get_or, drop, take, refl, sym, ap, ◌∙◌, subst, arith, append_assoc}
use Rattle.std.specs.List.{All, AllPairs, AllWithin, Contains}
use Rattle.std.specs.Prelude.{pos, ◌<ℤ◌, ◌≤ℤ◌, slice_range}
use Rattle.std.proofs.Math.Seq.{drop-cons}
use Rattle.std.proofs.lemmas.List.{map-append, take-append-drop}
use Rattle.std.proofs.lemmas.List.Elements.{All-append, All-cons, All-nil, Contains-append_cases, Contains-append_left, Contains-append_right}
use Rattle.geom.specs.declared.point.Pt.{Pt}
use Rattle.geom.specs.declared.segment.Source.{Source}
use Rattle.geom.specs.declared.edge.Edge.{Edge}
use Rattle.geom.specs.declared.edge.Counted.{Counted}
use Rattle.geom.specs.Determinant.{side}
use Rattle.geom.specs.Order.{IsBefore, IsUpTo}
use Rattle.geom.specs.Parity.{parity}
use Rattle.geom.specs.ResultEdges.{left_side}
use Rattle.geom.specs.Rounded.{edges_of, odd_edges}
use Rattle.geom.proofs.Lists.{In, contains_in, in_back, in_contains, map_in, some_same}
use Rattle.points_law.specs.Law.{AreLayers}
use Rattle.label_sweep.specs.declared.standing.Spoke.{Spoke}
use Rattle.label_sweep.specs.declared.standing.StandingEdge.{StandingEdge}
use Rattle.label_sweep.specs.declared.swept.SweptEdge.{SweptEdge}
use Rattle.label_sweep.specs.Labels.{IsSweptUpTo, edge_beside, lowest_of}
use Rattle.label_sweep.specs.Status.{AreSpokes, AreStanding, IsVertexOf, Reaches}
use Rattle.label_sweep.specs.Swept.{AreBehind, AreSweptFrom, IsBehind, IsBeside, besides_from, parity_beside}
use Rattle.label_sweep.proofs.Members.{all_of_in, in_drop, in_of_all, pairs_across, pairs_back, pairs_front, pairs_joined}
use Rattle.label_sweep.proofs.Parts.{none_sliced, slice_behind}
use Rattle.label_sweep.proofs.Passing.{edge_of, high_all, low_all, mid_all, standing_parts}
use Rattle.label_sweep.proofs.Turning.{edge_at}
use Rattle.label_sweep.proofs.Words.{first_left_none, left_of_first, left_of_next}

-- ---- what lies on the left of the first of some edges lies on the right of the one beside it, in each layer over the same edges
abbrev BeginsBeside : List Edge → Option Edge → List Edge → Type 0
BeginsBeside es beside [] = Unit {0}
BeginsBeside es beside (k ∷ rest) = (cs : List Counted) → AreLayers cs → edges_of cs ≡ es → (layer : Source) → parity (odd_edges layer cs) (left_side k.p k.q) ≡ parity_beside layer cs beside

module _ (es : List Edge) (v : Pt) (x : IsVertexOf es v) (low mid : List Edge) (hs : List StandingEdge) (s : AreStanding (Reaches es v) (low ++ (mid ++ map edge_of hs)))
    (l : All (λ e. pos 0 <ℤ side e.p e.q v) low) (m : All (λ e. side e.p e.q v ≡ pos 0) mid) (u : All (λ e. side e.p e.q v <ℤ pos 0) (map edge_of hs)) where
  first_beside : (k : Edge) (rest : List Edge) → AreSpokes es v (k ∷ rest) → BeginsBeside es (edge_beside (lowest_of hs)) (k ∷ rest)
  first_beside k rest a cs h e layer = of hs s u
    where
      here : (P : List Edge → Type 0) → P es → P (edges_of cs)
      here P p = subst P (sym e) p

      of : (hs : List StandingEdge) → AreStanding (Reaches es v) (low ++ (mid ++ map edge_of hs)) → All (λ e. side e.p e.q v <ℤ pos 0) (map edge_of hs)
          → parity (odd_edges layer cs) (left_side k.p k.q) ≡ parity_beside layer cs (edge_beside (lowest_of hs))
      of [] s u = first_left_none cs h v (here (λ es. IsVertexOf es v) x) low mid (here (λ es. AreStanding (Reaches es v) (low ++ (mid ++ []))) s) l m k rest (here (λ es. AreSpokes es v (k ∷ rest)) a) layer
      of (f ∷ hs) s u = left_of_first cs h v (here (λ es. IsVertexOf es v) x) low mid (edge_of f) (map edge_of hs)
          (here (λ es. AreStanding (Reaches es v) (low ++ (mid ++ (edge_of f ∷ map edge_of hs)))) s) l m u k rest (here (λ es. AreSpokes es v (k ∷ rest)) a) layer

  begins_beside : (ks : List Edge) → AreSpokes es v ks → BeginsBeside es (edge_beside (lowest_of hs)) ks
  begins_beside [] a = tt
  begins_beside (k ∷ rest) a = first_beside k rest a

-- it begins before the vertex
lowest_begins : (es : List Edge) (v : Pt) (hs : List StandingEdge) → ((t : StandingEdge) → In t hs → Reaches es v (edge_of t)) → (f : Edge) → edge_beside (lowest_of hs) ≡ Some f → Contains es f × IsBefore f.p v
lowest_begins es v [] r f e = absurd (let q = e in cc)
lowest_begins es v (t ∷ hs) r f e = let h = r t (inl refl) in subst (λ (g : Edge). Contains es g × IsBefore g.p v) (some_same refl e) (h.inside, h.begun)

-- ---- the edges that begin at one vertex
module _ (es : List Edge) (v : Pt) where
  one_beside : (before : List Edge) (s : Spoke) (rest : List Edge) → AreSpokes es v (before ++ (edge_at s ∷ rest)) → (beside : Option Edge) → BeginsBeside es beside (edge_at s ∷ rest) → IsBeside es (record { edge = s.one.edge; beside = beside })
  one_beside before s rest a beside b = record {
    inside = ((a.exact s.one.edge).0 (in_contains (before ++ (edge_at s ∷ rest)) s.one.edge (in_back before (edge_at s ∷ rest) s.one.edge (inl refl)))).0;
    left = b;
  }

  each_beside : (before : List Edge) (ss : List Spoke) → AreSpokes es v (before ++ map edge_at ss) → (beside : Option Edge) → BeginsBeside es beside (map edge_at ss) → All (IsBeside es) (besides_from beside ss)
  each_beside before [] a beside b = All-nil (IsBeside es)
  each_beside before (s ∷ []) a beside b = All-cons (IsBeside es) (record { edge = s.one.edge; beside = beside }) [] (one_beside before s [] a beside b) (All-nil (IsBeside es))
  each_beside before (s ∷ (t ∷ ss)) a beside b = All-cons (IsBeside es) (record { edge = s.one.edge; beside = beside }) (besides_from (Some s.one.edge) (t ∷ ss))
      (one_beside before s (map edge_at (t ∷ ss)) a beside b)
      (each_beside (before ++ (edge_at s ∷ [])) (t ∷ ss) (subst (λ (ks : List Edge). AreSpokes es v ks) (sym (append_assoc before (edge_at s ∷ []) (map edge_at (t ∷ ss)))) a) (Some s.one.edge)
      (λ cs h e layer. left_of_next cs h v before (edge_at s) (edge_at t) (map edge_at ss) (subst (λ (fs : List Edge). AreSpokes fs v (before ++ (edge_at s ∷ (edge_at t ∷ map edge_at ss)))) (sym e) a) layer))

  behind_from : (before : Option SweptEdge) (beside : Option Edge) (ss : List Spoke) → ((s : Spoke) → In s ss → Contains es s.one.edge)
      → ((s : Spoke) → In s ss → IsBehind es before (record { edge = s.one.edge; beside = beside })) → AreBehind es before (besides_from beside ss)
  behind_from before beside [] i h = tt
  behind_from before beside (s ∷ ss) i h = (
    h s (inl refl),
    behind_from (Some (record { edge = s.one.edge; beside = beside })) (Some s.one.edge) ss (λ t j. i t (inr j))
        (λ t j f e. (subst (λ (g : Edge). Contains es g) (some_same refl e) (i s (inl refl)), inr (record { edge = s.one.edge; beside = beside }, refl, some_same refl e))),
  )

  besides_edges : (beside : Option Edge) (ss : List Spoke) → map (λ (s : SweptEdge). s.edge) (besides_from beside ss) ≡ map edge_at ss
  besides_edges beside [] = refl
  besides_edges beside (s ∷ ss) = ap (λ t. s.one.edge ∷ t) (besides_edges (Some s.one.edge) ss)

  module _ (ss : List Spoke) (a : AreSpokes es v (map edge_at ss)) (beside : Option Edge) (b : BeginsBeside es beside (map edge_at ss)) (first : (f : Edge) → beside ≡ Some f → Contains es f × IsBefore f.p v) where
    spoke_begins : (s : Spoke) → In s ss → Contains es s.one.edge × (s.one.edge.p ≡ v)
    spoke_begins s i = (a.exact s.one.edge).0 (in_contains (map edge_at ss) s.one.edge (map_in edge_at ss s i))

    at_v : (s : SweptEdge) → In s (besides_from beside ss) → s.edge.p ≡ v
    at_v s i = let P : List Edge → Type 0 = λ fs. In s.edge fs in
        ((a.exact s.edge).0 (in_contains (map edge_at ss) s.edge (subst P (besides_edges beside ss) (map_in (λ (s : SweptEdge). s.edge) (besides_from beside ss) s i)))).1

    begin_at : All (λ s. s.edge.p ≡ v) (besides_from beside ss)
    begin_at = all_of_in (λ (s : SweptEdge). s.edge.p ≡ v) (besides_from beside ss) at_v

    sooner : (i j n : ℕ) → i < j → j < n → i < n
    sooner i j n l m = omega arith

    pub swept_at : AreSweptFrom es (v ∷ []) (besides_from beside ss)
    swept_at = record {
      each = each_beside [] ss a beside b;
      all = λ e i j. let P : List Edge → Type 0 = λ fs. Contains fs e in
          subst P (sym (besides_edges beside ss)) ((a.exact e).1 (i, only_v e.p (contains_in (v ∷ []) e.p j)));
      only = all_of_in (λ (s : SweptEdge). Contains (v ∷ []) s.edge.p) (besides_from beside ss) (λ s i. in_contains (v ∷ []) s.edge.p (inl (sym (at_v s i))));
      upward = λ i j d l m. inl (begin_at i d (sooner i j _ l m) ∙ sym (begin_at j d m));
      behind = behind_from None beside ss (λ s i. (spoke_begins s i).0)
          (λ s i f e. let g = first f e in (g.0, inl (subst (λ (p : Pt). IsBefore f.p p) (sym (spoke_begins s i).1) g.1)));
    }
      where
        only_v : (p : Pt) → In p (v ∷ []) → p ≡ v
        only_v p (inl e) = sym e
        only_v p (inr i) = absurd i

module _ (cs : List Counted) (h : AreLayers cs) (v : Pt) (x : IsVertexOf (edges_of cs) v) (s : List StandingEdge) (u : IsSweptUpTo cs v s) (low high : ℕ) (order : low ≤ high)
    (is_low : AllWithin (λ t. pos 0 <ℤ side t.spoke.one.edge.p t.spoke.one.edge.q v) s 0 low)
    (not_low : AllWithin (λ t. side t.spoke.one.edge.p t.spoke.one.edge.q v ≤ℤ pos 0) s low (length s))
    (not_high : AllWithin (λ t. pos 0 ≤ℤ side t.spoke.one.edge.p t.spoke.one.edge.q v) s 0 high)
    (is_high : AllWithin (λ t. side t.spoke.one.edge.p t.spoke.one.edge.q v <ℤ pos 0) s high (length s))
    (within : high ≤ length s) (ss : List Spoke) (a : AreSpokes (edges_of cs) v (map edge_at ss)) (beside : Option Edge) (e : beside ≡ edge_beside (lowest_of (drop high s))) where
  reaches : (t : StandingEdge) → In t (drop high s) → Reaches (edges_of cs) v (edge_of t)
  reaches t i = (u.edges.exact (edge_of t)).0 (in_contains (map edge_of s) (edge_of t) (map_in edge_of s t (in_drop high s t i)))

  -- those that begin at the vertex, from the lowest edge above it
  pub besides_here : AreSweptFrom (edges_of cs) (v ∷ []) (besides_from beside ss)
  besides_here = let P : Option Edge → Type 0 = λ b. AreSweptFrom (edges_of cs) (v ∷ []) (besides_from b ss) in
      let below = low_all cs h v x s u low high order is_low not_low not_high is_high within in
      let level = mid_all cs h v x s u low high order is_low not_low not_high is_high within in
      let above = high_all cs h v x s u low high order is_low not_low not_high is_high within in
      let parts = standing_parts cs h v x s u low high order is_low not_low not_high is_high within in
      subst P (sym e) (swept_at (edges_of cs) v ss a (edge_beside (lowest_of (drop high s)))
      (begins_beside (edges_of cs) v x _ _ (drop high s) parts below level above (map edge_at ss) a)
      (lowest_begins (edges_of cs) v (drop high s) reaches))

-- ---- lists behind one another
module _ (es : List Edge) where
  behind_any : (before : Option SweptEdge) (ss : List SweptEdge) → AreBehind es None ss → AreBehind es before ss
  behind_any before [] h = tt
  behind_any before (s ∷ ss) h = ((λ f e. let g = h.0 f e in (g.0, inl (⊎_elim (λ b. b) (λ t. absurd (no_edge t.0 t.1)) g.1))), h.1)
    where
      no_edge : (t : SweptEdge) → None ≡ Some t → ⊥
      no_edge t e = let q = e in cc

  pub behind_joined : (before : Option SweptEdge) (xs ys : List SweptEdge) → AreBehind es before xs → AreBehind es None ys → AreBehind es before (xs ++ ys)
  behind_joined before [] ys h k = behind_any before ys k
  behind_joined before (x ∷ xs) ys h k = (h.0, behind_joined (Some x) xs ys h.1 k)

  pub no_swept : AreSweptFrom es [] []
  no_swept = record {
    each = All-nil (IsBeside es);
    all = λ e i j. absurd (omega (arith, j.1));
    only = All-nil (λ s. Contains [] s.edge.p);
    upward = λ i j d l m. absurd (omega (arith, m));
    behind = tt;
  }

  pub more_swept : (ps qs : List Pt) (xs ys : List SweptEdge) → AllPairs IsBefore (ps ++ qs) → AreSweptFrom es ps xs → AreSweptFrom es qs ys → AreSweptFrom es (ps ++ qs) (xs ++ ys)
  more_swept ps qs xs ys order a b = record {
    each = All-append (IsBeside es) xs ys a.each b.each;
    all = λ e i j. subst (λ (t : List Edge). Contains t e) (sym (map-append edge_in xs ys)) (⊎_elim
        (λ k. Contains-append_left (map edge_in xs) (map edge_in ys) e (a.all e i k))
        (λ k. Contains-append_right (map edge_in xs) (map edge_in ys) e (b.all e i k))
        (Contains-append_cases ps qs e.p j));
    only = All-append (λ (s : SweptEdge). Contains (ps ++ qs) s.edge.p) xs ys
        (λ i d l. Contains-append_left ps qs (get_or xs i d).edge.p (a.only i d l)) (λ i d l. Contains-append_right ps qs (get_or ys i d).edge.p (b.only i d l));
    upward = pairs_joined (λ (s t : SweptEdge). IsUpTo s.edge.p t.edge.p) xs ys a.upward b.upward
        (λ s t i j. inr (pairs_across IsBefore ps qs order s.edge.p t.edge.p (begins ps xs a.only s i) (begins qs ys b.only t j)));
    behind = behind_joined None xs ys a.behind b.behind;
  }
    where
      edge_in : SweptEdge → Edge
      edge_in s = s.edge

      begins : (ps : List Pt) (ss : List SweptEdge) → All (λ s. Contains ps s.edge.p) ss → (s : SweptEdge) → In s ss → In s.edge.p ps
      begins ps ss h s i = contains_in ps s.edge.p (in_of_all (λ (s : SweptEdge). Contains ps s.edge.p) ss h s i)

-- ---- vertices one after another
module _ {X : Type 0} where
  pub pairs_sliced : (R : X → X → Type 0) (xs : List X) (a b : ℕ) → AllPairs R xs → AllPairs R (slice_range xs a b)
  pairs_sliced R xs a b h = let P : List X → Type 0 = λ t. AllPairs R t in
      pairs_front R (slice_range xs a b) (drop (b - a) (drop a xs)) (subst P (sym (take-append-drop (b - a) (drop a xs))) (pairs_back R (take a xs) (drop a xs) (subst P (sym (take-append-drop a xs)) h)))

  pub slice_more : (xs : List X) (a n : ℕ) (d : X) → a ≤ n → n < length xs → slice_range xs a (n + 1) ≡ slice_range xs a n ++ (get_or xs n d ∷ [])
  slice_more xs a n d o l = slice_behind xs a n (n + 1) o (omega arith) ∙ ap (λ t. slice_range xs a n ++ t) (ap (λ k. take k (drop n xs)) (one n) ∙ ap (λ t. take 1 t) (drop-cons xs n d l))
    where
      one : (n : ℕ) → (n + 1) - n ≡ 1
      one n = omega arith

module _ (es : List Edge) (vs : List Pt) (ascending : AllPairs IsBefore vs) where
  pub before_first : (from : ℕ) → AreSweptFrom es (slice_range vs from from) []
  before_first from = subst (λ ps. AreSweptFrom es ps []) (sym (none_sliced vs from)) (no_swept es)

  pub past_one : (from n : ℕ) (d : Pt) → from ≤ n → n < length vs → (old new : List SweptEdge)
      → ((points : List Pt) → AllPairs IsBefore (points ++ get_or vs n d ∷ []) → AreSweptFrom es points old → AreSweptFrom es (points ++ get_or vs n d ∷ []) new)
      → AreSweptFrom es (slice_range vs from n) old → AreSweptFrom es (slice_range vs from (n + 1)) new
  past_one from n d o l old new more h = let e = slice_more vs from n d o l in
      subst (λ ps. AreSweptFrom es ps new) (sym e) (more (slice_range vs from n) (subst (λ ps. AllPairs IsBefore ps) e (pairs_sliced IsBefore vs from (n + 1) ascending)) h)
