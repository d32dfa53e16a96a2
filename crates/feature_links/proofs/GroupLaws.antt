-- Grouped links are the rounded edges that are the border of some feature.
use Rattle.std.proofs.Common.{◌≡◌, ◌⊎◌, inl, inr, ℕ, zero, suc, ◌<◌, List, [], ◌∷◌, Bool, true, false, cond, refl, sym, ap, ◌∙◌, arith, subst, ⊎_elim, eqb-true}
use Rattle.std.specs.List.{All, Contains, count_by, filter}
use Rattle.std.specs.Prelude.{◌==◌, flat_map}
use Rattle.std.proofs.lemmas.List.Elements.{All-contains}
use Rattle.std.proofs.lemmas.List.Kept.{AllPairs-filter}
use Rattle.geom.specs.declared.point.Pt.{Pt}
use Rattle.geom.specs.declared.segment.Seg.{Seg}
use Rattle.geom.specs.declared.edge.Edge.{Edge}
use Rattle.geom.specs.EdgeOrder.{IsEdgeBefore}
use Rattle.geom.specs.Rounded.{is_odd, joins}
use Rattle.geom.specs.Segments.{neighbours}
use Rattle.geom.proofs.Lists.{In, contains_in, counts_some, in_append, in_contains, some_passes}
use Rattle.geom.proofs.ListOrder.{same_ascending}
use Rattle.geom.proofs.Orders.{edge_before_itself, edge_before_trans}
use Rattle.points_law.proofs.OneResult.{same_routes}
use Rattle.cover_law.specs.Borders.{AreBordered, feature_count, feature_steps, odd_features}
use Rattle.cover_law.specs.Changing.{changing, has_some}
use Rattle.cover_law.specs.Cover.{Bordered, numbers_from}
use Rattle.cover_law.proofs.AreasAdd.{in_filter}
use Rattle.cover_law.proofs.ChangingEdges.{filter_in}
use Rattle.cover_law.proofs.Covers.{ascend, filtered, numbers_in, passes}
use Rattle.cover_law.proofs.RoundedBorders.{in_all_steps}
use Rattle.feature_links.specs.declared.link.FeatureLink.{FeatureLink}
use Rattle.feature_links.specs.Odd.{AreOdd, same_link}
use Rattle.feature_links.specs.Groups.{AreFeatureLinks, AreGroups, GroupsAreBorders, link_of}

less_itself : (n : ℕ) → n < n → ⊥
less_itself n h = omega arith

less_trans : (a b c : ℕ) → a < b → b < c → a < c
less_trans a b c h k = omega arith

odd_positive : (n : ℕ) → is_odd n ≡ true → 0 < n
odd_positive zero h = absurd (cc)
odd_positive (suc n) h = omega arith

pub some_first : (fs : List ℕ) → has_some fs ≡ true → (f : ℕ) × Contains fs f
some_first [] h = absurd (let k = h in cc)
some_first (f ∷ fs) h = (f, in_contains (f ∷ fs) f (inl refl))

bordered_path : (b c : Bordered) → b.edge ≡ c.edge → b.features ≡ c.features → b ≡ c
bordered_path b c e f = λ i. record { edge = e i; features = f i }

-- a step of a feature is there where the feature owns a segment
in_if : (t : Bool) (xs : List (Pt × Pt)) (step : Pt × Pt) → In step (cond t xs []) → t ≡ true
in_if true xs step i = refl
in_if false xs step i = absurd i

owner_there : (f : ℕ) (gs : List ℕ) (routes : List (List Pt)) (step : Pt × Pt) → In step (feature_steps f gs routes) → In f gs
owner_there f [] routes step i = absurd i
owner_there f (g ∷ gs) [] step i = absurd i
owner_there f (g ∷ gs) (route ∷ routes) step i = ⊎_elim
    (λ j. inl (sym (eqb-true f g (in_if (f == g) (neighbours route) step j))))
    (λ j. inr (owner_there f gs routes step j))
    (in_append (cond (f == g) (neighbours route) []) (feature_steps f gs routes) step i)

module _ (count : ℕ) (segments : List Seg) (owners : List ℕ) (below : All (λ (f : ℕ). f < count) owners) (links odd : List FeatureLink) (L : AreFeatureLinks segments owners links) (O : AreOdd links odd) (groups edges : List Bordered) (G : AreGroups odd groups) (R : AreBordered count segments owners edges) where
  routes : L.routes ≡ R.routes
  routes = same_routes L.are_routes R.are_routes refl

  counts : (e : Edge) (f : ℕ) → count_by (same_link (link_of e f)) links ≡ feature_count f e owners R.routes
  counts e f = L.count_is e f ∙ ap (feature_count f e owners) routes

  -- an odd link is a step of its feature
  step_of : (e : Edge) (f : ℕ) → Contains odd (link_of e f) → (step : Pt × Pt) × In step (feature_steps f owners R.routes) × (joins e step ≡ true)
  step_of e f c = some_passes (joins e) (feature_steps f owners R.routes) (odd_positive (feature_count f e owners R.routes) (ap is_odd (sym (counts e f)) ∙ (O.exact (link_of e f)).0 c))

  -- a feature with an odd link owns a segment
  pub is_below : (e : Edge) (f : ℕ) → Contains odd (link_of e f) → f < count
  is_below e f c = let s = step_of e f c in All-contains (λ (g : ℕ). g < count) owners f below (in_contains owners f (owner_there f owners R.routes s.0 s.1))

  is_step : (e : Edge) (f : ℕ) → Contains odd (link_of e f) → 0 < count_by (joins e) (flat_map neighbours R.routes)
  is_step e f c = let s = step_of e f c in counts_some (joins e) (flat_map neighbours R.routes) s.0 (in_all_steps f owners R.routes s.0 s.1) s.2

  abbrev passing : Edge → ℕ → Bool
  passing e f = is_odd (feature_count f e owners R.routes)

  features_are : (b : Bordered) → Contains groups b → b.features ≡ odd_features count b.edge owners R.routes
  features_are b c = same_ascending (λ (f g : ℕ). f < g) less_itself less_trans b.features (odd_features count b.edge owners R.routes)
      (G.features b c) (AllPairs-filter (λ (f g : ℕ). f < g) (passing b.edge) (numbers_from 0 count) (ascend 0 count)) to from
    where
      to : (f : ℕ) → Contains b.features f → Contains (odd_features count b.edge owners R.routes) f
      to f i =
          let o = (G.exact b c f).0 i in
          let l = is_below b.edge f o in
          in_contains (odd_features count b.edge owners R.routes) f (passes (passing b.edge) (numbers_from 0 count) f (numbers_in 0 count f (omega arith) (omega arith)) (ap is_odd (sym (counts b.edge f)) ∙ (O.exact (link_of b.edge f)).0 o))

      from : (f : ℕ) → Contains (odd_features count b.edge owners R.routes) f → Contains b.features f
      from f i =
          let p = filtered (passing b.edge) (numbers_from 0 count) f (contains_in (odd_features count b.edge owners R.routes) f i) in
          (G.exact b c f).1 ((O.exact (link_of b.edge f)).1 (ap is_odd (counts b.edge f) ∙ p.1))

  there : (b : Bordered) → Contains groups b → Contains (changing edges) b
  there b c =
      let s = G.some b c in
      let f = some_first b.features s in
      let k : Contains edges b = (R.exact b).1 (features_are b c, is_step b.edge f.0 ((G.exact b c f.0).0 f.1)) in
      in_contains (changing edges) b (filter_in (λ x. has_some x.features) edges b (contains_in edges b k) s)

  has_kept : (bs : List Bordered) (b : Bordered) → In b (filter (λ x. has_some x.features) bs) → has_some b.features ≡ true
  has_kept [] b i = absurd i
  has_kept (x ∷ xs) b i = ⊎_elim (λ e. subst (λ (y : Bordered). has_some y.features ≡ true) e.0 e.1) (λ j. has_kept xs b j) (kept (has_some x.features) x (filter (λ y. has_some y.features) xs) b i)
    where
      kept : (t : Bool) (y : Bordered) (ys : List Bordered) (b : Bordered) → In b (cond t (y ∷ ys) ys) → ((y ≡ b) × (t ≡ true)) ⊎ In b ys
      kept true y ys b (inl e) = inl (e, refl)
      kept true y ys b (inr j) = inr j
      kept false y ys b j = inr j

  back : (b : Bordered) → Contains (changing edges) b → Contains groups b
  back b c =
      let i = contains_in (changing edges) b c in
      let k = in_contains edges b (in_filter (λ x. has_some x.features) edges b i) in
      let f = some_first b.features (has_kept edges b i) in
      let p = filtered (passing b.edge) (numbers_from 0 count) f.0 (contains_in (odd_features count b.edge owners R.routes) f.0 (subst (λ (fs : List ℕ). Contains fs f.0) ((R.exact b).0 k).0 f.1)) in
      let o = (O.exact (link_of b.edge f.0)).1 (ap is_odd (counts b.edge f.0) ∙ p.1) in
      let g = G.all (link_of b.edge f.0) o in
      subst (λ (x : Bordered). Contains groups x) (bordered_path g.0 b g.2 (features_are g.0 g.1 ∙ ap (λ (e : Edge). odd_features count e owners R.routes) g.2 ∙ sym ((R.exact b).0 k).0)) g.1

  pub same_groups : groups ≡ changing edges
  same_groups = same_ascending (λ (b c : Bordered). IsEdgeBefore b.edge c.edge) (λ b. edge_before_itself b.edge) (λ b c d. edge_before_trans b.edge c.edge d.edge) groups (changing edges)
      G.ascending (AllPairs-filter (λ (b c : Bordered). IsEdgeBefore b.edge c.edge) (λ b. has_some b.features) edges R.ascending) there back

pub groups_are_borders : GroupsAreBorders
groups_are_borders count segments owners below links odd L O groups edges G R = same_groups count segments owners below links odd L O groups edges G R
