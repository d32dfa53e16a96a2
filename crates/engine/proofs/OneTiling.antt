-- Two runs with one tile side on the same two layers have the same tiles, and so the same numbers of each tile.
use Rattle.std.proofs.Common.{◌≡◌, ℕ, List, ◌++◌, sym, ap₂, subst, ◌∙◌}
use Rattle.geom.specs.declared.edge.Counted.{Counted}
use Rattle.geom.specs.declared.point.Pt.{Pt}
use Rattle.geom.specs.declared.segment.Seg.{Seg}
use Rattle.geom.specs.Segments.{layer_steps}
use Rattle.grid.specs.Tiles.{IsGridOf, tile_count}
use Rattle.linking.specs.Gathered.{AreTileNumbers}
use Rattle.wkt.specs.LayerText.{Ring}
use Rattle.wkt.specs.Refusals.{plain}
use Rattle.engine.specs.Determined.{TilesAreOneWithin}
use Rattle.layers.specs.Grids.{AreBoundsOf}
use Rattle.engine.specs.Runs.{ReportsWithin}
use Rattle.layers.specs.declared.plan.Plan.{Plan}
use Rattle.results.specs.declared.text.Report.{Report}
use Rattle.engine.proofs.Determined.{one_layer, one_segments_of}
use Rattle.engine.proofs.OneRefusal.{grid_same, owns_same}
use Rattle.engine.proofs.SumsOfTiles.{one_told}

one_tiling : (M N : Type 0) (limit limit' : ℕ) (a b : List ℕ) (plan other : Plan) (cs ds : List Counted) (report : Report M) (report' : Report N)
    → plan.side ≡ other.side → ReportsWithin limit plan a b cs report → ReportsWithin limit' other a b ds report' → report.tiles.items ≡ report'.tiles.items
one_tiling M N limit limit' a b plan other cs ds report report' e h k = h.told.told_is
    ∙ one_told h.grid k.grid k.rounded.segments h.tiles k.tiles numbers k.rounded.tiles_are
    (grid_same h.ready.is_grid.bounds k.ready.is_grid.bounds plan.side h.grid k.grid taken bounds k.ready.is_grid.are_bounds h.ready.is_grid.is_grid is_grid)
    (owns_same h.ready.is_grid.bounds k.ready.is_grid.bounds plan.side h.grid k.grid taken bounds k.ready.is_grid.are_bounds h.ready.is_grid.is_grid is_grid)
    (owns_same k.ready.is_grid.bounds h.ready.is_grid.bounds plan.side k.grid h.grid taken k.ready.is_grid.are_bounds bounds is_grid h.ready.is_grid.is_grid)
    ∙ sym k.told.told_is
  where
    taken : List (Pt × Pt)
    taken = layer_steps (plain k.rings_a) ++ layer_steps (plain k.rings_b)

    bounds : AreBoundsOf taken h.ready.is_grid.bounds
    bounds = subst (λ (zs : List (Pt × Pt)). AreBoundsOf zs h.ready.is_grid.bounds)
        (ap₂ (λ (i j : List Ring). layer_steps (plain i) ++ layer_steps (plain j)) (one_layer a h.rings_a k.rings_a h.ready.accepted_a.accepted k.ready.accepted_a.accepted) (one_layer b h.rings_b k.rings_b h.ready.accepted_b.accepted k.ready.accepted_b.accepted)) h.ready.is_grid.are_bounds

    is_grid : IsGridOf k.ready.is_grid.bounds plan.side k.grid
    is_grid = subst (λ (side : ℕ). IsGridOf k.ready.is_grid.bounds side k.grid) (sym e) k.ready.is_grid.is_grid

    numbers : AreTileNumbers h.grid k.rounded.segments (tile_count h.grid) h.tiles
    numbers = subst (λ (ss : List Seg). AreTileNumbers h.grid ss (tile_count h.grid) h.tiles) (one_segments_of a b h.rounded.segments k.rounded.segments h.rounded.are_segments k.rounded.are_segments) h.rounded.tiles_are

pub tiles_are_one : (M N : Type 0) → TilesAreOneWithin M N
tiles_are_one M N = one_tiling M N
