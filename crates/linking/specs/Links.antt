-- Records of all segments in order, links between neighbours of one segment, and how often each edge is a link (own).
use Rattle.std.specs.Prelude.{◌≡◌, ◌≢◌, ◌⊎◌, ◌↔◌, ℕ, ◌+◌, ◌-◌, ◌<◌, ◌≤◌, ◌^◌, ◌==◌, Bool, false, ◌&&◌, List, [], ◌∷◌, ◌++◌, AllPairs, Contains, count_by, get_or, if◌then◌else◌, length, map, slice_index_or, sum_by}
use Rattle.geom.specs.declared.point.Pt.{Pt}
use Rattle.geom.specs.declared.segment.Source.{Source}
use Rattle.geom.specs.declared.segment.Source.TheVariants.{A, B}
use Rattle.geom.specs.declared.segment.Seg.{Seg}
use Rattle.geom.specs.declared.edge.Edge.{Edge}
use Rattle.geom.specs.declared.edge.Counted.{Counted}
use Rattle.geom.specs.Segments.{neighbours, same_point}
use Rattle.geom.specs.Rounded.{IsEdgeBefore, count, joins}
use Rattle.geom.specs.Route.{AreRoutes}
use Rattle.routing.specs.declared.record.Record.{Record}
use Rattle.routing.specs.Pieces.{IsRecord}
use Rattle.distinct.specs.Copies.{copies_in, one_in}
use Rattle.distinct.specs.declared.copies.Copies.{Copies}
use Rattle.feature_links.specs.declared.link.FeatureLink.{FeatureLink}
use Rattle.feature_links.specs.Groups.{link_of}
use Rattle.linking.specs.declared.link.Link.{Link}

-- by segment, then by the steps along it
abbrev pub IsRecordBefore : Record → Record → Type 0
IsRecordBefore r q = (r.segment < q.segment) ⊎ ((r.segment ≡ q.segment) × (r.steps < q.steps))

-- the records of all routes
pub record HasRecords (segments : List Seg) (records : List Record) : Type 0 where
  pub exact : (r : Record) → Contains records r ↔ IsRecord segments r

-- the records of all routes, in order
pub record AreRecords (segments : List Seg) (records : List Record) : Type 0 where
  pub ascending : AllPairs IsRecordBefore records
  pub exact : (r : Record) → Contains records r ↔ IsRecord segments r

-- ---- links

-- the edge joins the two points, one way or the other
abbrev pub IsBetween : Edge → Pt → Pt → Type 0
IsBetween e c d = ((e.p ≡ c) × (e.q ≡ d)) ⊎ ((e.p ≡ d) × (e.q ≡ c))

-- two records of one segment have different pixels
abbrev pub AreApart : List Record → Type 0
AreApart records = AllPairs (λ r q. r.segment ≡ q.segment → r.pixel ≢ q.pixel) records

abbrev pub same_edge : Edge → Edge → Bool
same_edge e f = same_point e.p f.p && same_point e.q f.q

-- how many copies of the edge in the layer the link has
abbrev pub copies_of : Edge → Source → Link → ℕ
copies_of e layer link = if same_edge e link.edge then copies_in layer link.copies else 0

abbrev pub count_links : Edge → Source → List Link → ℕ
count_links e layer links = sum_by (copies_of e layer) links

-- the pairs of neighbours
abbrev pub record_pairs : List Record → List (Record × Record)
record_pairs [] = []
record_pairs (r ∷ []) = []
record_pairs (r ∷ q ∷ rs) = (r, q) ∷ record_pairs (q ∷ rs)

-- what makes the links of the k-th segment passes
abbrev pub passes_at : {M : Type 0} → (M → Bool) → List M → ℕ → Bool
passes_at wanted makers k = slice_index_or (map wanted makers) k false

-- how many segments that stands for which makes the links of the k-th one
abbrev pub times_at : {M : Type 0} → (M → ℕ) → List M → ℕ → ℕ
times_at times_of makers k = slice_index_or (map times_of makers) k 0

-- the pair is a link of the edge, of a wanted segment
abbrev pub makes : (ℕ → Bool) → Edge → Record × Record → Bool
makes wanted e pair = (pair.0.segment == pair.1.segment) && (joins e (pair.0.pixel, pair.1.pixel) && wanted pair.0.segment)

-- those links pass that are made of the edge by what is wanted
abbrev pub PassLinks : {M L : Type 0} → (M → Edge → L) → Edge → (M → Bool) → (L → Bool) → Type 0
PassLinks {M} link_of e wanted test = (maker : M) (f : Edge) → test (link_of maker f) ≡ (same_edge e f && wanted maker)

-- the links are those of neighbours among the records, made by what stands for the segments
pub record AreNeighbourLinks {M L : Type 0} (link_of : M → Edge → L) (makers : List M) (records : List Record) (links : List L) : Type 0 where
  pub few : length links ≤ length records
  pub count_is : (e : Edge) (wanted : M → Bool) (test : L → Bool) → PassLinks link_of e wanted test → count_by test links ≡ count_by (makes (passes_at wanted makers) e) (record_pairs records)

-- the record at the place, if there is one, is of another segment than the one before
abbrev pub ChangesSegment : List Record → ℕ → Type 0
ChangesSegment records place = (d : Record) → place < length records → (get_or records (place - 1) d).segment ≢ (get_or records place d).segment

-- the links are sorted by their edges
abbrev pub AreInOrder : List Link → Type 0
AreInOrder links = AllPairs (λ l m. (l.edge ≡ m.edge) ⊎ IsEdgeBefore l.edge m.edge) links

-- the edges of the links go before those of the others
abbrev pub GoBefore : List Link → List Link → Type 0
GoBefore front back = (l m : Link) → Contains front l → Contains back m → IsEdgeBefore l.edge m.edge

-- the neighbours in the routes of the segments for which something wanted stands
abbrev pub wanted_steps : {M : Type 0} → (M → Bool) → List M → List (List Pt) → List (Pt × Pt)
wanted_steps wanted [] routes = []
wanted_steps wanted (maker ∷ makers) [] = []
wanted_steps wanted (maker ∷ makers) (route ∷ routes) = (if wanted maker then neighbours route else []) ++ wanted_steps wanted makers routes

-- the links are those of neighbours in the routes, made by what stands for the segments
pub record AreRouteLinks {M L : Type 0} (link_of : M → Edge → L) (segments : List Seg) (makers : List M) (links : List L) : Type 0 where
  pub routes : List (List Pt)
  pub are_routes : AreRoutes segments segments routes
  pub count_is : (e : Edge) (wanted : M → Bool) (test : L → Bool) → PassLinks link_of e wanted test → count_by test links ≡ count_by (joins e) (wanted_steps wanted makers routes)

-- copies make links with them
abbrev pub copies_link : Copies → Edge → Link
copies_link c e = record { edge = e; copies = c }

-- a segment makes links of its layer
abbrev pub layer_link : Seg → Edge → Link
layer_link s e = copies_link (one_in s.layer) e

-- the links of features: the owners stand for the segments
abbrev pub AreFeatureRouteLinks : List Seg → List ℕ → List FeatureLink → Type 0
AreFeatureRouteLinks segments owners links = AreRouteLinks (λ f e. link_of e f) segments owners links

-- each edge is a link of a layer as often as its ends are neighbours in the routes of the layer's segments
pub record AreLinks (segments : List Seg) (links : List Link) : Type 0 where
  pub few : length links < 2 ^ 32
  pub routes : List (List Pt)
  pub are_routes : AreRoutes segments segments routes
  pub count_is : (e : Edge) (layer : Source) → count_links e layer links ≡ count layer e segments routes

-- each edge among the links, once and ascending, with its counts
pub record AreCounts (links : List Link) (counted : List Counted) : Type 0 where
  pub ascending : AllPairs (λ c d. IsEdgeBefore c.edge d.edge) counted
  pub exact : (c : Counted) → Contains counted c ↔ ((count_links c.edge A links ≡ c.in_a) × (count_links c.edge B links ≡ c.in_b) × (0 < c.in_a + c.in_b))
