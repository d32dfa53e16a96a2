-- Two layers by their rings: what the theorems say of their rounded edges, and what two reports on them have in common.
use Rattle.std.proofs.Common.{◌≡◌, ◌∙◌, ℕ, List, length, ap, subst, sym}
use Rattle.std.proofs.Math.Logic.{∥∥₁_elim}
use Rattle.geom.specs.Rounded.{AreRounded}
use Rattle.geom.specs.Segments.{AreSegments}
use Rattle.geom.specs.declared.edge.Counted.{Counted}
use Rattle.geom.specs.declared.point.Pt.{Pt}
use Rattle.geom.specs.declared.segment.Seg.{Seg}
use Rattle.grid.specs.Tiles.{Tiling, tile_count}
use Rattle.linking.specs.Gathered.{AreTileNumbers, HaveTiles}
use Rattle.linking.proofs.Covering.{are_covered, have_tiles}
use Rattle.linking.proofs.Gathering.{AreCovered}
use Rattle.points_law.proofs.OneResult.{one_rounded, one_segments}
use Rattle.wkt.specs.Refusals.{StandsFor, plain}
use Rattle.engine.specs.Determined.{HaveOneSize}
use Rattle.layers.specs.ColumnsRefusals.{AreRingsReady}
use Rattle.engine.specs.RingLayers.{ReportsOnRings}
use Rattle.engine.specs.Runs.{ReportsWithin}
use Rattle.layers.specs.declared.plan.Plan.{Plan}
use Rattle.results.specs.declared.text.Report.{Report}
use Rattle.engine.proofs.Known.{number_prop}
use Rattle.engine.proofs.Rounding.{bounds_hold, grid_covers, one_plain, some_side}
use Rattle.engine.proofs.SumsOfTiles.{one_hot, one_records}

-- the tiles of the grid have every point of the segments' boxes
pub rings_covered : (limit : ℕ) (plan : Plan) (a b : List (List Pt)) (g : Tiling) (segments : List Seg) → AreRingsReady limit plan a b g → AreSegments a b segments → HaveTiles g segments
rings_covered limit plan a b g segments h s =
    have_tiles h.is_grid.bounds g segments (grid_covers h.is_grid.bounds plan.side g (some_side plan.side h.planned.side.0) h.is_grid.is_grid)
    (bounds_hold a b segments s h.is_grid.bounds h.is_grid.are_bounds)

-- ---- two reports on one pair of layers
module _ {M N : Type 0} (limit limit' : ℕ) (plan other : Plan) (a b : List (List Pt)) (cs ds : List Counted) (report : Report M) (report' : Report N)
    (h : ReportsOnRings limit plan a b cs report) (k : ReportsOnRings limit' other a b ds report') where
  one : h.rounded.segments ≡ k.rounded.segments
  one = one_segments a b h.rounded.segments k.rounded.segments h.rounded.are_segments k.rounded.are_segments

  both : AreRounded h.rounded.segments cs → AreRounded k.rounded.segments ds → cs ≡ ds
  both p q = one_rounded k.rounded.segments cs ds (subst (λ (ss : List Seg). AreRounded ss cs) one p) q

  pub rings_counted : {P : Type 0} → IsProp P → (cs ≡ ds → P) → P
  rings_counted prop f = ∥∥₁_elim h.rounded.rounded prop (λ p. ∥∥₁_elim k.rounded.rounded prop (λ q. f (both p q)))

  numbers : AreTileNumbers h.grid k.rounded.segments (tile_count h.grid) h.tiles
  numbers = subst (λ (ss : List Seg). AreTileNumbers h.grid ss (tile_count h.grid) h.tiles) one h.rounded.tiles_are

  covered : AreCovered h.grid k.rounded.segments
  covered = subst (λ (ss : List Seg). AreCovered h.grid ss) one (are_covered h.grid h.rounded.segments (rings_covered limit plan a b h.grid h.rounded.segments h.ready h.rounded.are_segments))

  covered' : AreCovered k.grid k.rounded.segments
  covered' = are_covered k.grid k.rounded.segments (rings_covered limit' other a b k.grid k.rounded.segments k.ready k.rounded.are_segments)

  pub rings_size : HaveOneSize report report'
  rings_size = record {
    segments_a = h.segments_a ∙ sym k.segments_a;
    segments_b = h.segments_b ∙ sym k.segments_b;
    edges = rings_counted (number_prop report.edges report'.edges) (λ e. h.edges ∙ ap length e ∙ sym k.edges);
    hot = h.told.hot_is ∙ one_hot h.grid k.grid k.rounded.segments h.tiles k.tiles numbers k.rounded.tiles_are covered covered' ∙ sym k.told.hot_is;
    records = h.told.records_is ∙ one_records h.grid k.grid k.rounded.segments h.tiles k.tiles numbers k.rounded.tiles_are covered covered' ∙ sym k.told.records_is;
  }

-- ---- the report on two texts is that on the rings that they stand for
module _ {M : Type 0} (limit : ℕ) (plan : Plan) (a b : List ℕ) (counted : List Counted) (report : Report M) (h : ReportsWithin limit plan a b counted report) where
  on_plain : ReportsOnRings limit plan (plain h.rings_a) (plain h.rings_b) counted report
  on_plain =
      let s = h.rounded.are_segments in
      record {
        grid = h.grid;
        ready = record { planned = h.ready.planned; few = h.ready.few; is_grid = record { bounds = h.ready.is_grid.bounds; are_bounds = h.ready.is_grid.are_bounds; is_grid = h.ready.is_grid.is_grid }; few_tiles = h.ready.few_tiles };
        segments_a = h.segments_a;
        segments_b = h.segments_b;
        edges = h.edges;
        tiles = h.tiles;
        rounded = record {
          segments = h.rounded.segments;
          are_segments = subst (λ (p : List (List Pt)). AreSegments p (plain h.rings_b) h.rounded.segments) (one_plain a s.rings_a h.rings_a s.accepted_a h.ready.accepted_a.accepted)
              (subst (λ (p : List (List Pt)). AreSegments (plain s.rings_a) p h.rounded.segments) (one_plain b s.rings_b h.rings_b s.accepted_b h.ready.accepted_b.accepted) s.are_segments);
          rounded = h.rounded.rounded;
          tiles_are = h.rounded.tiles_are;
        };
        told = h.told;
        remade = h.remade;
      }

  pub text_reports : (x y : List (List Pt)) → StandsFor a x → StandsFor b y → ReportsOnRings limit plan x y counted report
  text_reports x y s t =
      subst (λ (p : List (List Pt)). ReportsOnRings limit plan p y counted report) (one_plain a h.rings_a s.0 h.ready.accepted_a.accepted s.1 ∙ s.2)
      (subst (λ (p : List (List Pt)). ReportsOnRings limit plan (plain h.rings_a) p counted report) (one_plain b h.rings_b t.0 h.ready.accepted_b.accepted t.1 ∙ t.2) on_plain)
