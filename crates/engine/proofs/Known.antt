-- What a type keeps of a check, for any reading of the two layers.
use Rattle.std.proofs.Common.{◌≡◌, ◌∙◌, ◌++◌, ◌≤◌, ℕ, List, length, Option, Some, None, refl, ap, subst}
use Rattle.std.proofs.Math.Logic.{∥∥₁_elim}
use Rattle.std.proofs.Math.Path.{path_j}
use Rattle.std.proofs.Props.{props}
use Rattle.geom.specs.declared.edge.Counted.{Counted}
use Rattle.geom.specs.declared.point.Pt.{Pt}
use Rattle.geom.specs.declared.rect.Rect.{Rect}
use Rattle.geom.specs.declared.segment.Seg.{Seg}
use Rattle.geom.specs.Bounds.{IsBox}
use Rattle.geom.specs.Segments.{layer_steps}
use Rattle.geom.proofs.Rects.{same_rect}
use Rattle.grid.specs.Tiles.{IsGridOf, Tiling}
use Rattle.linking.specs.declared.rounded.TileNumbers.{TileNumbers}
use Rattle.wkt.specs.LayerText.{Ring}
use Rattle.wkt.specs.Refusals.{plain}
use Rattle.layers.specs.Grids.{AreBoundsOf, IsGridOver}
use Rattle.engine.specs.Rounds.{AreRoundedOver, IsRemade, TellsTiles}
use Rattle.layers.specs.Segments.{AreSegmentsOf}
use Rattle.layers.specs.Refusals.{IsCheckedWithin, IsPlan, IsReadyWithin, segment_count}
use Rattle.engine.specs.Runs.{ReportsWithin}
use Rattle.layers.specs.declared.plan.Plan.{Plan}
use Rattle.results.specs.declared.text.Report.{Report}
use Rattle.engine.proofs.Determined.{one_layer}
use Rattle.engine.proofs.OneRefusal.{no_box, same_corners}

-- ---- a grid is over two layers in at most one way

pub one_bounds : (taken : List (Pt × Pt)) (x y : Option Rect) → AreBoundsOf taken x → AreBoundsOf taken y → x ≡ y
one_bounds taken None None h k = refl
one_bounds taken None (Some s) h k = absurd (no_box s (subst (λ (zs : List (Pt × Pt)). IsBox zs s) h k))
one_bounds taken (Some r) None h k = absurd (no_box r (subst (λ (zs : List (Pt × Pt)). IsBox zs r) k h))
one_bounds taken (Some r) (Some s) h k =
    let e = same_corners r s taken h k in
    ap (λ (t : Rect). Some t) (same_rect r s (λ i. record { x = e.0 i; y = e.1 i }) (λ i. record { x = e.2 i; y = e.3 i }))

-- bounds that are the box of these steps, with the grid over them
abbrev pub Over : List (Pt × Pt) → ℕ → Tiling → Option Rect → Type 0
Over taken side g bounds = AreBoundsOf taken bounds × IsGridOf bounds side g

pub over_prop : (taken : List (Pt × Pt)) (side : ℕ) (g : Tiling) (bounds : Option Rect) → IsProp (Over taken side g bounds)
over_prop taken side g None = hlevel props
over_prop taken side g (Some r) = hlevel props

abbrev over : (x y : List Ring) (side : ℕ) (g : Tiling) (bounds : Option Rect) → Over (layer_steps (plain x) ++ layer_steps (plain y)) side g bounds → IsGridOver x y side g
over x y side g bounds h = record { bounds = bounds; are_bounds = h.0; is_grid = h.1 }

grid_prop : (x y : List Ring) (side : ℕ) (g : Tiling) → IsProp (IsGridOver x y side g)
grid_prop x y side g h k =
    let taken : List (Pt × Pt) = layer_steps (plain x) ++ layer_steps (plain y) in
    path_j (λ (bounds : Option Rect) _. (o : Over taken side g bounds) → h ≡ over x y side g bounds o)
    (λ o i. over x y side g h.bounds (over_prop taken side g h.bounds (h.are_bounds, h.is_grid) o i))
    (one_bounds taken h.bounds k.bounds h.are_bounds k.are_bounds) (k.are_bounds, k.is_grid)

pub plan_prop : (plan : Plan) → IsProp (IsPlan plan)
plan_prop plan = hlevel props

pub le_prop : (m n : ℕ) → IsProp (m ≤ n)
le_prop m n = hlevel props

pub number_prop : (m n : ℕ) → IsProp (m ≡ n)
number_prop m n = hlevel props

-- ---- what was checked holds of the rings that are read
module _ (limit : ℕ) (plan : Plan) (a b : List ℕ) (m n : ℕ) (g : Tiling) (known : ∥ IsCheckedWithin limit plan a b m n g ∥₁) (segments : List Seg) (s : AreSegmentsOf a b segments) where
  at : IsCheckedWithin limit plan a b m n g → IsReadyWithin limit plan a b s.rings_a s.rings_b g
  at k = subst (λ (x : List Ring). IsReadyWithin limit plan a b x s.rings_b g) (one_layer a k.rings_a s.rings_a k.ready.accepted_a.accepted s.accepted_a)
      (subst (λ (y : List Ring). IsReadyWithin limit plan a b k.rings_a y g) (one_layer b k.rings_b s.rings_b k.ready.accepted_b.accepted s.accepted_b) k.ready)

  pub ready_of : IsReadyWithin limit plan a b s.rings_a s.rings_b g
  ready_of = record {
    planned = ∥∥₁_elim known (plan_prop plan) (λ k. k.ready.planned);
    accepted_a = record { short = ∥∥₁_elim known (le_prop _ _) (λ k. k.ready.accepted_a.short); accepted = s.accepted_a };
    accepted_b = record { short = ∥∥₁_elim known (le_prop _ _) (λ k. k.ready.accepted_b.short); accepted = s.accepted_b };
    few = ∥∥₁_elim known (le_prop _ _) (λ k. (at k).few);
    is_grid = ∥∥₁_elim known (grid_prop s.rings_a s.rings_b plan.side g) (λ k. (at k).is_grid);
    few_tiles = ∥∥₁_elim known (le_prop _ _) (λ k. k.ready.few_tiles);
  }

  pub count_a : m ≡ segment_count s.rings_a
  count_a = ∥∥₁_elim known (number_prop _ _) (λ k. k.count_a ∙ ap segment_count (one_layer a k.rings_a s.rings_a k.ready.accepted_a.accepted s.accepted_a))

  pub count_b : n ≡ segment_count s.rings_b
  count_b = ∥∥₁_elim known (number_prop _ _) (λ k. k.count_b ∙ ap segment_count (one_layer b k.rings_b s.rings_b k.ready.accepted_b.accepted s.accepted_b))

-- the report of a run, from the numbers of its parts
pub reported : {M : Type 0} (limit : ℕ) (plan : Plan) (a b : List ℕ) (m n : ℕ) (grid : Tiling) (counted : List Counted) (tiles : List TileNumbers) (report : Report M)
    → ∥ IsCheckedWithin limit plan a b m n grid ∥₁ → AreRoundedOver a b grid counted tiles → report.segments_a ≡ m → report.segments_b ≡ n → report.edges ≡ length counted
    → TellsTiles tiles report.hot report.records report.tiles.items → IsRemade report.remade → ReportsWithin limit plan a b counted report
reported limit plan a b m n grid counted tiles report known rounded e f edges told remade = record {
  rings_a = rounded.are_segments.rings_a;
  rings_b = rounded.are_segments.rings_b;
  grid = grid;
  ready = ready_of limit plan a b m n grid known rounded.segments rounded.are_segments;
  segments_a = e ∙ count_a limit plan a b m n grid known rounded.segments rounded.are_segments;
  segments_b = f ∙ count_b limit plan a b m n grid known rounded.segments rounded.are_segments;
  edges = edges;
  tiles = tiles;
  rounded = rounded;
  told = told;
  remade = remade;
}
