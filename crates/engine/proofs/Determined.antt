-- Two runs on the same two layers have one list of segments and one of rounded edges, and so one text.
use Rattle.std.proofs.Common.{◌≡◌, ℕ, List, length, sym, ap, subst, ◌∙◌}
use Rattle.std.proofs.Math.Logic.{∥∥₁_elim}
use Rattle.std.proofs.Props.{props}
use Rattle.geom.specs.declared.point.Pt.{Pt}
use Rattle.geom.specs.declared.segment.Seg.{Seg}
use Rattle.geom.specs.declared.edge.Counted.{Counted}
use Rattle.geom.specs.Rounded.{AreRounded}
use Rattle.geom.specs.Segments.{AreSegments}
use Rattle.linking.specs.Gathered.{AreTileNumbers}
use Rattle.linking.specs.declared.rounded.TileNumbers.{TileNumbers}
use Rattle.linking.proofs.Covering.{are_covered}
use Rattle.linking.proofs.Gathering.{AreCovered}
use Rattle.points_law.proofs.OneResult.{one_rounded, one_segments}
use Rattle.grid.specs.Tiles.{Tiling, tile_count}
use Rattle.wkt.specs.LayerText.{Ring}
use Rattle.wkt.specs.Refusals.{IsAccepted, plain}
use Rattle.wkt.proofs.Complete.{at_most_one}
use Rattle.engine.specs.Determined.{EdgesSizesAreOneWithin, EdgesTextIsOneWithin, HaveOneSize}
use Rattle.engine.specs.Rounds.{AreRoundedOver}
use Rattle.layers.specs.Segments.{AreSegmentsOf}
use Rattle.engine.specs.Runs.{AreEdgesWrittenWithin, ReportsWithin}
use Rattle.layers.specs.Refusals.{segment_count}
use Rattle.results.specs.Texts.{edges_text_of}
use Rattle.layers.specs.declared.plan.Plan.{Plan}
use Rattle.results.specs.declared.text.Report.{Report}
use Rattle.engine.proofs.Rounding.{covered}
use Rattle.engine.proofs.SumsOfTiles.{one_hot, one_records}

-- ---- of two texts
pub one_layer : (text : List ℕ) (rings others : List Ring) → IsAccepted text rings → IsAccepted text others → rings ≡ others
one_layer text rings others h k = at_most_one text rings others h.layer k.layer

pub one_segments_of : (a b : List ℕ) (ss ts : List Seg) → AreSegmentsOf a b ss → AreSegmentsOf a b ts → ss ≡ ts
one_segments_of a b ss ts h k = one_segments (plain k.rings_a) (plain k.rings_b) ss ts
    (subst (λ (p : List (List Pt)). AreSegments p (plain k.rings_b) ss) of_a (subst (λ (p : List (List Pt)). AreSegments (plain h.rings_a) p ss) of_b h.are_segments)) k.are_segments
  where
    of_a : plain h.rings_a ≡ plain k.rings_a
    of_a = ap plain (one_layer a h.rings_a k.rings_a h.accepted_a k.accepted_a)

    of_b : plain h.rings_b ≡ plain k.rings_b
    of_b = ap plain (one_layer b h.rings_b k.rings_b h.accepted_b k.accepted_b)

-- ---- of the rounded edges, as far as a proposition says
module _ (a b : List ℕ) (g g' : Tiling) (cs ds : List Counted) (ms ns : List TileNumbers) (h : AreRoundedOver a b g cs ms) (k : AreRoundedOver a b g' ds ns) where
  segments : h.segments ≡ k.segments
  segments = one_segments_of a b h.segments k.segments h.are_segments k.are_segments

  both : AreRounded h.segments cs → AreRounded k.segments ds → cs ≡ ds
  both p q = one_rounded k.segments cs ds (subst (λ (ss : List Seg). AreRounded ss cs) segments p) q

  pub one_counted : {P : Type 0} → IsProp P → (cs ≡ ds → P) → P
  one_counted prop f = ∥∥₁_elim h.rounded prop (λ p. ∥∥₁_elim k.rounded prop (λ q. f (both p q)))

pub text_prop : (s t : List ℕ) → IsProp (s ≡ t)
text_prop s t = hlevel props

number_prop : (m n : ℕ) → IsProp (m ≡ n)
number_prop m n = hlevel props

-- ---- the edges' text
one_text : (M N : Type 0) (limit limit' : ℕ) (a b : List ℕ) (plan other : Plan) (text text' : List ℕ) (report : Report M) (report' : Report N)
    → AreEdgesWrittenWithin limit plan a b text report → AreEdgesWrittenWithin limit' other a b text' report' → text ≡ text'
one_text M N limit limit' a b plan other text text' report report' h k =
    one_counted a b h.reports.grid k.reports.grid h.counted k.counted h.reports.tiles k.reports.tiles h.reports.rounded k.reports.rounded (text_prop text text')
    (λ e. h.text_is ∙ ap edges_text_of e ∙ sym k.text_is)

pub edges_text_is_one : (M N : Type 0) → EdgesTextIsOneWithin M N
edges_text_is_one M N = one_text M N

-- ---- the tiles of a run have every hot pixel
pub tiles_cover : {M : Type 0} (limit : ℕ) (plan : Plan) (a b : List ℕ) (cs : List Counted) (report : Report M) (h : ReportsWithin limit plan a b cs report) → AreCovered h.grid h.rounded.segments
tiles_cover limit plan a b cs report h = are_covered h.grid h.rounded.segments (covered limit plan a b h.rings_a h.rings_b h.grid h.rounded.segments h.ready h.rounded.are_segments)

-- ---- the numbers of reports
pub one_size : {M N : Type 0} (limit limit' : ℕ) (a b : List ℕ) (plan other : Plan) (cs ds : List Counted) (report : Report M) (report' : Report N)
    → ReportsWithin limit plan a b cs report → ReportsWithin limit' other a b ds report' → HaveOneSize report report'
one_size limit limit' a b plan other cs ds report report' h k = record {
  segments_a = h.segments_a ∙ ap segment_count (one_layer a h.rings_a k.rings_a h.ready.accepted_a.accepted k.ready.accepted_a.accepted) ∙ sym k.segments_a;
  segments_b = h.segments_b ∙ ap segment_count (one_layer b h.rings_b k.rings_b h.ready.accepted_b.accepted k.ready.accepted_b.accepted) ∙ sym k.segments_b;
  edges = one_counted a b h.grid k.grid cs ds h.tiles k.tiles h.rounded k.rounded (number_prop report.edges report'.edges)
      (λ e. h.edges ∙ ap length e ∙ sym k.edges);
  hot = h.told.hot_is ∙ one_hot h.grid k.grid k.rounded.segments h.tiles k.tiles numbers k.rounded.tiles_are cover (tiles_cover limit' other a b ds report' k) ∙ sym k.told.hot_is;
  records = h.told.records_is ∙ one_records h.grid k.grid k.rounded.segments h.tiles k.tiles numbers k.rounded.tiles_are cover (tiles_cover limit' other a b ds report' k) ∙ sym k.told.records_is;
}
  where
    one : h.rounded.segments ≡ k.rounded.segments
    one = one_segments_of a b h.rounded.segments k.rounded.segments h.rounded.are_segments k.rounded.are_segments

    numbers : AreTileNumbers h.grid k.rounded.segments (tile_count h.grid) h.tiles
    numbers = subst (λ (ss : List Seg). AreTileNumbers h.grid ss (tile_count h.grid) h.tiles) one h.rounded.tiles_are

    cover : AreCovered h.grid k.rounded.segments
    cover = subst (λ (ss : List Seg). AreCovered h.grid ss) one (tiles_cover limit plan a b cs report h)

one_edges_size : (M N : Type 0) (limit limit' : ℕ) (a b : List ℕ) (plan other : Plan) (text text' : List ℕ) (report : Report M) (report' : Report N)
    → AreEdgesWrittenWithin limit plan a b text report → AreEdgesWrittenWithin limit' other a b text' report' → HaveOneSize report report'
one_edges_size M N limit limit' a b plan other text text' report report' h k = one_size limit limit' a b plan other h.counted k.counted report report' h.reports k.reports

pub edges_sizes_are_one : (M N : Type 0) → EdgesSizesAreOneWithin M N
edges_sizes_are_one M N = one_edges_size M N
