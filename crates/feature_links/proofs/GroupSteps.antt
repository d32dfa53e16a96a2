-- Groups of links, one run after another.
use Rattle.std.proofs.Common.{◌≡◌, ◌≢◌, inl, inr, ℕ, ◌+◌, ◌-◌, ◌<◌, ◌≤◌, List, [], ◌∷◌, ◌++◌, map, Bool, true, false, refl, sym, ap, ◌∙◌, arith, subst, ⊎_elim, length, get_or, get_or-drop, take, drop, take-add}
use Rattle.std.specs.List.{AllPairs, AllWithin, Contains}
use Rattle.std.specs.Prelude.{◌&&◌, slice_range}
use Rattle.std.proofs.lemmas.Bool.{cases_lt}
use Rattle.std.proofs.lemmas.List.{get_or_default, get_or-take, length-take}
use Rattle.std.proofs.Common.{length-drop}
use Rattle.std.proofs.lemmas.List.Elements.{Contains-append_cases, Contains-append_left, Contains-append_right, Contains-get_or, Contains-push, Contains-push_cases}
use Rattle.std.proofs.lemmas.List.Kept.{AllPairs-cons}
use Rattle.std.proofs.lemmas.List.Quantifiers.{all_pairs_push}
use Rattle.geom.specs.declared.edge.Edge.{Edge}
use Rattle.geom.specs.EdgeOrder.{IsEdgeBefore}
use Rattle.geom.specs.Segments.{same_point}
use Rattle.geom.proofs.Edges.{edge_path}
use Rattle.geom.proofs.Lists.{In, contains_in, in_contains, in_map, map_in}
use Rattle.geom.proofs.ListOrder.{pairs_head, pairs_tail}
use Rattle.geom.proofs.Orders.{edge_before_itself, edge_before_trans}
use Rattle.geom.proofs.Owners.{all_in}
use Rattle.geom.proofs.Points.{same_point_true, same_point_refl}
use Rattle.cover_law.specs.Changing.{has_some}
use Rattle.cover_law.specs.Cover.{Bordered}
use Rattle.feature_links.specs.declared.link.FeatureLink.{FeatureLink}
use Rattle.feature_links.specs.Odd.{IsLinkBefore}
use Rattle.feature_links.specs.Groups.{AreGroups, feature_of, link_of, same_ends}
use Rattle.feature_links.proofs.OddLaws.{link_path}
use Rattle.feature_links.proofs.GroupLaws.{some_first}

-- ---- ends
both_of : (a b : Bool) → a && b ≡ true → (a ≡ true) × (b ≡ true)
both_of a b h = (grind arith, grind arith)

both : (a b : Bool) → a ≡ true → b ≡ true → a && b ≡ true
both a b h k = grind arith

pub ends_true : (e f : Edge) → same_ends e f ≡ true → e ≡ f
ends_true e f h = let b = both_of (same_point e.p f.p) (same_point e.q f.q) h in edge_path e f (same_point_true e.p f.p b.0) (same_point_true e.q f.q b.1)

pub ends_false : (e f : Edge) → same_ends e f ≡ false → e ≢ f
ends_false e f h k = let t : same_ends e f ≡ true = subst (λ (x : Edge). same_ends e x ≡ true) k (both (same_point e.p e.p) (same_point e.q e.q) (same_point_refl e.p) (same_point_refl e.q)) in absurd (cc)

-- ---- the features of links of one edge ascend
run_ascends : (e : Edge) (ys : List FeatureLink) → ((y : FeatureLink) → In y ys → y.edge ≡ e) → AllPairs IsLinkBefore ys → AllPairs (λ f g. f < g) (map feature_of ys)
run_ascends e [] h p = λ i j d a b. absurd (omega arith)
run_ascends e (y ∷ ys) h p = AllPairs-cons (λ (f g : ℕ). f < g) y.feature (map feature_of ys)
    (all_in (λ g. y.feature < g) (map feature_of ys) (λ g i. let m = in_map feature_of ys g i in
    subst (λ (k : ℕ). y.feature < k) m.2 (by_order m.0 (pairs_head IsLinkBefore y ys p m.0 m.1) (h y (inl refl)) (h m.0 (inr m.1)))))
    (run_ascends e ys (λ z i. h z (inr i)) (pairs_tail IsLinkBefore y ys p))
  where
    by_order : (z : FeatureLink) → IsLinkBefore y z → y.edge ≡ e → z.edge ≡ e → y.feature < z.feature
    by_order z (inl b) k l = absurd (edge_before_itself e (subst (λ (x : Edge × Edge). IsEdgeBefore x.0 x.1) (λ t. (k t, l t)) b))
    by_order z (inr b) k l = b.1

some_of : (ys : List FeatureLink) (y : FeatureLink) → In y ys → has_some (map feature_of ys) ≡ true
some_of [] y i = absurd i
some_of (z ∷ zs) y i = refl

-- ---- one run more
module _ (xs ys : List FeatureLink) (gs : List Bordered) (e : Edge) (G : AreGroups xs gs) (one : (y : FeatureLink) → In y ys → y.edge ≡ e) (first : FeatureLink) (there : In first ys) (up : AllPairs IsLinkBefore ys) (before : (x : FeatureLink) → Contains xs x → IsEdgeBefore x.edge e) where
  pub fresh : Bordered
  fresh = record { edge = e; features = map feature_of ys }

  group_before : (b : Bordered) → Contains gs b → IsEdgeBefore b.edge e
  group_before b c = let f = some_first b.features (G.some b c) in before (link_of b.edge f.0) ((G.exact b c f.0).0 f.1)

  by_old : {P : Bordered → Type 0} → ((b : Bordered) → Contains gs b → P b) → P fresh → (b : Bordered) → Contains (gs ++ fresh ∷ []) b → P b
  by_old {P} f g b c = ⊎_elim (λ o. f b o) (λ k. subst P k g) (Contains-push_cases gs fresh b c)

  exact_old : (b : Bordered) → Contains gs b → (f : ℕ) → (Contains b.features f → Contains (xs ++ ys) (link_of b.edge f)) × (Contains (xs ++ ys) (link_of b.edge f) → Contains b.features f)
  exact_old b c f = (
    (λ i. Contains-append_left xs ys (link_of b.edge f) ((G.exact b c f).0 i)),
    (λ i. ⊎_elim (λ o. (G.exact b c f).1 o) (λ o. absurd (edge_before_itself e (subst (λ (x : Edge). IsEdgeBefore x e) (one (link_of b.edge f) (contains_in ys (link_of b.edge f) o)) (group_before b c)))) (Contains-append_cases xs ys (link_of b.edge f) i)),
  )

  exact_fresh : (f : ℕ) → (Contains (map feature_of ys) f → Contains (xs ++ ys) (link_of e f)) × (Contains (xs ++ ys) (link_of e f) → Contains (map feature_of ys) f)
  exact_fresh f = (
    (λ i. let m = in_map feature_of ys f (contains_in (map feature_of ys) f i) in
        Contains-append_right xs ys (link_of e f) (in_contains ys (link_of e f) (subst (λ (x : FeatureLink). In x ys) (link_path m.0 (link_of e f) (one m.0 m.1) m.2) m.1))),
    (λ i. ⊎_elim (λ o. absurd (edge_before_itself e (before (link_of e f) o))) (λ o. in_contains (map feature_of ys) f (map_in feature_of ys (link_of e f) (contains_in ys (link_of e f) o))) (Contains-append_cases xs ys (link_of e f) i)),
  )

  pub group_step : AreGroups (xs ++ ys) (gs ++ fresh ∷ [])
  unfolding fresh
  group_step = record {
    ascending = all_pairs_push (λ (b c : Bordered). IsEdgeBefore b.edge c.edge) gs fresh G.ascending (λ k d l. group_before (get_or gs k d) (Contains-get_or gs k d l));
    features = by_old {P = λ b. AllPairs (λ f g. f < g) b.features} G.features (run_ascends e ys one up);
    some = by_old {P = λ b. has_some b.features ≡ true} G.some (some_of ys first there);
    exact = by_old {P = λ b. (f : ℕ) → (Contains b.features f → Contains (xs ++ ys) (link_of b.edge f)) × (Contains (xs ++ ys) (link_of b.edge f) → Contains b.features f)} exact_old exact_fresh;
    all = λ l c. ⊎_elim
        (λ o. let a = G.all l o in (a.0, Contains-append_left gs (fresh ∷ []) a.0 a.1, a.2))
        (λ o. (fresh, Contains-push gs fresh, sym (one l (contains_in ys l o))))
        (Contains-append_cases xs ys l c);
  }

pub no_groups : AreGroups [] []
no_groups = record {
  ascending = λ i j d a b. absurd (omega arith);
  features = λ b c. absurd (contains_in [] b c);
  some = λ b c. absurd (contains_in [] b c);
  exact = λ b c f. absurd (contains_in [] b c);
  all = λ l c. absurd (contains_in [] l c);
}

-- ---- by places
-- the links before a number are of edges before that of the link there
abbrev pub AreBehind : List FeatureLink → ℕ → Type 0
AreBehind links from = (k : ℕ) (d : FeatureLink) → k < from → from < length links → IsEdgeBefore (get_or links k d).edge (get_or links from d).edge

pub none_behind : (links : List FeatureLink) → AreBehind links 0
none_behind links k d a b = absurd (omega arith)

-- of links from one number to another
in_range : (P : FeatureLink → Type 0) (links : List FeatureLink) (from to : ℕ) → to ≤ length links → AllWithin P links from to → (y : FeatureLink) → Contains (slice_range links from to) y → P y
in_range P links from to w h y (k, l, e) =
    let s = length-take (to - from) (drop from links) in
    let a : k < to - from = omega (arith, l, s) in
    subst P (sym (get_or-take (to - from) (drop from links) k y a ∙ get_or-drop from links k y) ∙ e) (h (from + k) y (omega arith) (omega arith))

at_start : (links : List FeatureLink) (from to : ℕ) (x : FeatureLink) → from < to → to ≤ length links → x ≡ get_or links from x → Contains (slice_range links from to) x
at_start links from to x l w e =
    let s = length-take (to - from) (drop from links) in
    let t = length-drop from links in
    let none : from + 0 ≡ from = omega arith in
    (0, omega (arith, s, t), get_or-take (to - from) (drop from links) 0 x (omega arith) ∙ get_or-drop from links 0 x ∙ ap (λ (n : ℕ). get_or links n x) none ∙ sym e)

pairs_range : (links : List FeatureLink) (from to : ℕ) → to ≤ length links → AllPairs IsLinkBefore links → AllPairs IsLinkBefore (slice_range links from to)
pairs_range links from to w p i j d a b =
    let s = length-take (to - from) (drop from links) in
    let n : j < to - from = omega (arith, b, s) in
    let m : i < to - from = omega (arith, a, n) in
    subst (λ (x : FeatureLink × FeatureLink). IsLinkBefore x.0 x.1)
    (λ t. (sym (get_or-take (to - from) (drop from links) i d m ∙ get_or-drop from links i d) t, sym (get_or-take (to - from) (drop from links) j d n ∙ get_or-drop from links j d) t))
    (p (from + i) (from + j) d (omega arith) (omega arith))

module _ (links : List FeatureLink) (from to : ℕ) (x : FeatureLink) (up : AllPairs IsLinkBefore links) (after : from < to) (within : to ≤ length links) (is : x ≡ get_or links from x) (run : AllWithin (λ l. l.edge ≡ x.edge) links from to) (past : (d : FeatureLink) → to < length links → (get_or links to d).edge ≢ x.edge) (behind : AreBehind links from) where
  -- the link at a number, whatever stands in where there is none
  there_is : (d : FeatureLink) → get_or links from d ≡ x
  there_is d = get_or_default links from d x (omega arith) ∙ sym is

  run_before : (k : ℕ) (d : FeatureLink) → from ≤ k → k < to → to < length links → IsEdgeBefore (get_or links k d).edge (get_or links to d).edge
  run_before k d a b l = by_order (up k to d b l)
    where
      by_order : IsLinkBefore (get_or links k d) (get_or links to d) → IsEdgeBefore (get_or links k d).edge (get_or links to d).edge
      by_order (inl h) = h
      by_order (inr h) = absurd (past d l (sym h.0 ∙ run k d a b))

  pub next_behind : AreBehind links to
  next_behind k d a l = ⊎_elim
      (λ b. edge_before_trans (get_or links k d).edge (get_or links from d).edge (get_or links to d).edge (behind k d b (omega arith)) (run_before from d (omega arith) after l))
      (λ b. run_before k d b a l)
      (cases_lt k from)

  before_run : (y : FeatureLink) → Contains (take from links) y → IsEdgeBefore y.edge x.edge
  before_run y (k, l, e) =
      let s = length-take from links in
      let n : k < from = omega (arith, l, s) in
      subst (λ (z : FeatureLink × FeatureLink). IsEdgeBefore z.0.edge z.1.edge) (λ t. ((sym (get_or-take from links k y n) ∙ e) t, there_is y t)) (behind k y n (omega arith))

  parts : take to links ≡ take from links ++ slice_range links from to
  parts = let whole : to ≡ from + (to - from) = omega arith in ap (λ (n : ℕ). take n links) whole ∙ take-add from (to - from) links

  pub next_groups : (gs : List Bordered) → AreGroups (take from links) gs → AreGroups (take to links) (gs ++ record { edge = x.edge; features = map feature_of (slice_range links from to) } ∷ [])
  unfolding fresh
  next_groups gs G = subst (λ (ys : List FeatureLink). AreGroups ys (gs ++ record { edge = x.edge; features = map feature_of (slice_range links from to) } ∷ [])) (sym parts)
      (group_step (take from links) (slice_range links from to) gs x.edge G
      (λ y i. in_range (λ (l : FeatureLink). l.edge ≡ x.edge) links from to within run y (in_contains (slice_range links from to) y i))
      x (contains_in (slice_range links from to) x (at_start links from to x after within is)) (pairs_range links from to within up) before_run)
