-- The edges of links, each with its features (own).
use Rattle.std.specs.Prelude.{◌≡◌, ◌↔◌, ◌<◌, ◌&&◌, ℕ, Bool, true, List, All, AllPairs, Contains, count_by, map, slice_range}
use Rattle.geom.specs.Segments.{same_point}
use Rattle.geom.specs.declared.point.Pt.{Pt}
use Rattle.geom.specs.declared.segment.Seg.{Seg}
use Rattle.geom.specs.declared.edge.Edge.{Edge}
use Rattle.geom.specs.EdgeOrder.{IsEdgeBefore}
use Rattle.geom.specs.Route.{AreRoutes}
use Rattle.cover_law.specs.Borders.{AreBordered, feature_count}
use Rattle.cover_law.specs.Changing.{changing, has_some}
use Rattle.cover_law.specs.Cover.{Bordered}
use Rattle.cover_law.specs.declared.border.Border.{Border}
use Rattle.feature_links.specs.declared.link.FeatureLink.{FeatureLink}
use Rattle.feature_links.specs.Odd.{AreOdd, same_link}

abbrev pub link_of : Edge → ℕ → FeatureLink
link_of e f = record { edge = e; feature = f }

-- each edge is a link of a feature as often as its ends are neighbours in the routes of the feature's segments
pub record AreFeatureLinks (segments : List Seg) (owners : List ℕ) (links : List FeatureLink) : Type 0 where
  pub routes : List (List Pt)
  pub are_routes : AreRoutes segments segments routes
  pub count_is : (e : Edge) (f : ℕ) → count_by (same_link (link_of e f)) links ≡ feature_count f e owners routes

-- the edges of links, ascending, each with the features of its links, ascending
pub record AreGroups (odd : List FeatureLink) (edges : List Bordered) : Type 0 where
  pub ascending : AllPairs (λ b c. IsEdgeBefore b.edge c.edge) edges
  pub features : (b : Bordered) → Contains edges b → AllPairs (λ f g. f < g) b.features
  pub some : (b : Bordered) → Contains edges b → has_some b.features ≡ true
  pub exact : (b : Bordered) → Contains edges b → (f : ℕ) → Contains b.features f ↔ Contains odd (link_of b.edge f)
  pub all : (l : FeatureLink) → Contains odd l → (b : Bordered) × Contains edges b × (b.edge ≡ l.edge)

-- of the links of all routes those that occur an odd number of times, by their edges: these are the rounded edges that are the border of
-- some feature, with these features
abbrev pub GroupsAreBorders : Type 0
GroupsAreBorders = (count : ℕ) (segments : List Seg) (owners : List ℕ) → All (λ f. f < count) owners
    → (links odd : List FeatureLink) → AreFeatureLinks segments owners links → AreOdd links odd
    → (groups edges : List Bordered) → AreGroups odd groups → AreBordered count segments owners edges → groups ≡ changing edges

-- ---- edges that know where their features stand
abbrev pub same_ends : Edge → Edge → Bool
same_ends e f = same_point e.p f.p && same_point e.q f.q

abbrev pub feature_of : FeatureLink → ℕ
feature_of l = l.feature

-- the edge with the features that stand there among the links
abbrev pub bordered_by : List FeatureLink → Border → Bordered
bordered_by links b = record { edge = b.edge; features = map feature_of (slice_range links b.from b.to) }
