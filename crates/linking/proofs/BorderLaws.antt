-- The borders of features, from the links of all routes.
use Rattle.std.proofs.Common.{◌≡◌, ◌⊎◌, inl, inr, ℕ, ◌<◌, List, [], ◌∷◌, ◌++◌, Bool, true, Ordering, Less, Equal, Greater, length, map, refl, sym, ap, ◌∙◌, subst, arith}
use Rattle.std.specs.Prelude.{◌&&◌, ◌==◌, All, Contains, count_by, flat_map, if◌then◌else◌}
use Rattle.std.specs.Ordering.{MatchOrdering}
use Rattle.geom.specs.declared.point.Pt.{Pt}
use Rattle.geom.specs.declared.segment.Seg.{Seg}
use Rattle.geom.specs.declared.edge.Edge.{Edge}
use Rattle.geom.specs.EdgeOrder.{IsEdgeBefore}
use Rattle.geom.specs.Limit.{AreInLimit}
use Rattle.geom.specs.Noded.{IsNoded}
use Rattle.geom.specs.Route.{AreRoutes}
use Rattle.geom.specs.Route.AreRoutes.{none, next}
use Rattle.geom.specs.Rounded.{joins}
use Rattle.geom.specs.Segments.{neighbours}
use Rattle.geom.proofs.Lists.{In, contains_in, counts_some, in_contains, in_map, map_in, some_passes}
use Rattle.geom.proofs.Orders.{edge_before_trans, edge_cmp, edge_ranks, same_edge_true}
use Rattle.geom.proofs.Points.{and_both}
use Rattle.cover_law.specs.Borders.{AreBordered, IsClosedFeature, feature_steps, odd_features}
use Rattle.cover_law.specs.Changing.{changing}
use Rattle.cover_law.specs.Cover.{AreBorders, Bordered, edge_in, edges_in}
use Rattle.cover_law.proofs.ChangingEdges.{changing_have_same_rows}
use Rattle.cover_law.proofs.FaceLaws.{bordered_noded}
use Rattle.cover_law.proofs.RoundedBorders.{rounded_are_borders}
use Rattle.feature_links.specs.declared.link.FeatureLink.{FeatureLink}
use Rattle.feature_links.specs.Groups.{AreFeatureLinks, AreGroups, link_of}
use Rattle.feature_links.specs.Odd.{AreOdd, same_link}
use Rattle.feature_links.proofs.GroupLaws.{groups_are_borders, is_below, some_first}
use Rattle.hot_region.proofs.ListLaws.{pairs_map}
use Rattle.linking.specs.Links.{AreFeatureRouteLinks, same_edge, wanted_steps}
use Rattle.linking.proofs.Ordering.{Ordered, ordered}
use Rattle.linking.proofs.OddParts.{odd_occurs}
use Rattle.linking.proofs.Tally.{edge_refl}

-- ---- steps
feature_steps_are : (f : ℕ) (owners : List ℕ) (routes : List (List Pt)) → wanted_steps (λ g. f == g) owners routes ≡ feature_steps f owners routes
feature_steps_are f [] routes = refl
feature_steps_are f (g ∷ gs) [] = refl
feature_steps_are f (g ∷ gs) (route ∷ routes) = ap (λ (steps : List (Pt × Pt)). (if f == g then neighbours route else []) ++ steps) (feature_steps_are f gs routes)

all_steps_are : (owners : List ℕ) {segments ss : List Seg} {routes : List (List Pt)} → length owners ≡ length ss → AreRoutes segments ss routes → wanted_steps (λ (g : ℕ). true) owners routes ≡ flat_map neighbours routes
all_steps_are [] same none = refl
all_steps_are (g ∷ gs) same none = absurd (omega arith)
all_steps_are [] same (next r rs) = absurd (omega arith)
all_steps_are (g ∷ gs) same (next {s} {route} {ss} {routes} r rs) = ap (λ (steps : List (Pt × Pt)). neighbours route ++ steps) (all_steps_are gs (omega arith) rs)

-- ---- edges have an order
edge_order : (e f : Edge) → IsEdgeBefore e f ⊎ ((e ≡ f) ⊎ IsEdgeBefore f e)
edge_order e f = told (edge_cmp e f) (edge_ranks e f)
  where
    told : (o : Ordering) → MatchOrdering o (IsEdgeBefore e f) (e ≡ f) (IsEdgeBefore f e) → IsEdgeBefore e f ⊎ ((e ≡ f) ⊎ IsEdgeBefore f e)
    told Less h = inl h
    told Equal h = inr (inl h)
    told Greater h = inr (inr h)

module _ (segments : List Seg) (owners : List ℕ) (size : length owners ≡ length segments) (links : List FeatureLink) (R : AreFeatureRouteLinks segments owners links) where
  feature_links_are : AreFeatureLinks segments owners links
  feature_links_are = record {
    routes = R.routes;
    are_routes = R.are_routes;
    count_is = λ e f. R.count_is e (λ g. f == g) (same_link (link_of e f)) (λ g h. refl) ∙ ap (count_by (joins e)) (feature_steps_are f owners R.routes);
  }

  abbrev is_on : Edge → FeatureLink → Bool
  is_on e l = same_edge e l.edge && true

  total : (e : Edge) → count_by (is_on e) links ≡ count_by (joins e) (flat_map neighbours R.routes)
  total e = R.count_is e (λ g. true) (is_on e) (λ g h. refl) ∙ ap (count_by (joins e)) (all_steps_are owners size R.are_routes)

  abbrev edge_of : FeatureLink → Edge
  edge_of l = l.edge

  -- ---- all rounded edges
  all_edges : Ordered IsEdgeBefore (map edge_of links)
  all_edges = ordered IsEdgeBefore (λ e. Unit) edge_before_trans (λ e f a b. edge_order e f) (map edge_of links) (λ e i. tt)

  to_count : (e : Edge) → In e all_edges.those → 0 < count_by (joins e) (flat_map neighbours R.routes)
  to_count e i =
      let m = in_map edge_of links e (all_edges.to e i) in
      subst (λ (n : ℕ). 0 < n) (total e) (counts_some (is_on e) links m.0 m.1 (subst (λ (f : Edge). same_edge e f && true ≡ true) (sym m.2) (rw (edge_refl e) refl)))

  from_count : (e : Edge) → 0 < count_by (joins e) (flat_map neighbours R.routes) → In e all_edges.those
  from_count e h =
      let m = some_passes (is_on e) links (subst (λ (n : ℕ). 0 < n) (sym (total e)) h) in
      let is : e ≡ m.0.edge = same_edge_true e m.0.edge (and_both (same_edge e m.0.edge) true m.2).0 in
      all_edges.from e (subst (λ (f : Edge). In f (map edge_of links)) (sym is) (map_in edge_of links m.0 m.1))

  -- those of a number of features
  module _ (count : ℕ) where
    abbrev with_features : Edge → Bordered
    with_features e = record { edge = e; features = odd_features count e owners R.routes }

    abbrev all_bordered : List Bordered
    all_bordered = map with_features all_edges.those

    bordered_are : AreBordered count segments owners all_bordered
    bordered_are = record {
      routes = R.routes;
      are_routes = R.are_routes;
      ascending = pairs_map IsEdgeBefore (λ (b c : Bordered). IsEdgeBefore b.edge c.edge) with_features all_edges.those all_edges.ascending (λ e f i j h. h);
      exact = λ b. (
        (λ c. let m = in_map with_features all_edges.those b (contains_in all_bordered b c) in subst (λ (d : Bordered). (d.features ≡ odd_features count d.edge owners R.routes) × (0 < count_by (joins d.edge) (flat_map neighbours R.routes))) m.2 (refl, to_count m.0 m.1)),
        (λ (p, q). in_contains all_bordered b (subst (λ (d : Bordered). In d all_bordered) (λ i. record { edge = b.edge; features = sym p i }) (map_in with_features all_edges.those b.edge (from_count b.edge q)))),
      );
    }

  module _ (odd : List FeatureLink) (O : AreOdd links odd) (groups : List Bordered) (G : AreGroups odd groups) where
    group_edge : (e : Edge) → Contains (edges_in groups) e → Contains (edges_in (all_bordered 0)) e
    group_edge e c =
        let m = in_map edge_in groups e (contains_in (edges_in groups) e c) in
        let b = m.0 in
        let there : Contains groups b = in_contains groups b m.1 in
        let f = some_first b.features (G.some b there) in
        let l = odd_occurs (link_of b.edge f.0) links ((O.exact (link_of b.edge f.0)).0 ((G.exact b there f.0).0 f.1)) in
        let i = all_edges.from b.edge (map_in edge_of links (link_of b.edge f.0) (contains_in links (link_of b.edge f.0) l)) in
        in_contains (edges_in (all_bordered 0)) e (subst (λ (g : Edge). In g (edges_in (all_bordered 0))) m.2 (map_in edge_in (all_bordered 0) (with_features 0 b.edge) (map_in (with_features 0) all_edges.those b.edge i)))

    pub groups_noded : IsNoded (edges_in groups)
    groups_noded e f i j = bordered_noded 0 segments owners (all_bordered 0) (bordered_are 0) e f (group_edge e i) (group_edge f j)

    module _ (count : ℕ) (below : All (λ (f : ℕ). f < count) owners) where
      groups_changing : groups ≡ changing (all_bordered count)
      groups_changing = groups_are_borders count segments owners below links odd feature_links_are O groups (all_bordered count) G (bordered_are count)

      pub groups_of : (edges : List Bordered) × AreBordered count segments owners edges × (groups ≡ changing edges)
      groups_of = (all_bordered count, bordered_are count, groups_changing)

      pub feature_below : (l : FeatureLink) → Contains odd l → l.feature < count
      feature_below l c = is_below count segments owners below links odd feature_links_are O groups (all_bordered count) G (bordered_are count) l.edge l.feature c

      pub groups_closed : ((f : ℕ) → f < count → IsClosedFeature f segments owners) → All (λ (s : Seg). AreInLimit s.a s.b) segments → AreBorders groups
      groups_closed closed limits =
          let borders = rounded_are_borders count segments owners (all_bordered count) (bordered_are count) limits closed (bordered_noded count segments owners (all_bordered count) (bordered_are count)) in
          subst (λ (bs : List Bordered). AreBorders bs) (sym groups_changing) (changing_have_same_rows (all_bordered count) borders).borders
