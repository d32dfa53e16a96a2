-- The edges near a tile, from the bins.
use Rattle.std.proofs.Common.{◌≡◌, ℕ, List, get_or}
use Rattle.std.proofs.Math.Logic.{∥∥₁_elim, ∥∥₁_map}
use Rattle.std.proofs.Props.{props}
use Rattle.std.specs.Prelude.{Option, Some, None}
use Rattle.std.proofs.lemmas.List.Elements.{Contains-get_or}
use Rattle.geom.specs.declared.rect.Rect.{Rect}
use Rattle.geom.specs.declared.edge.Edge.{Edge}
use Rattle.geom.specs.declared.edge.Counted.{Counted}
use Rattle.grid.specs.Tiles.{Tiling, CoversBounds}
use Rattle.tiling.specs.Index.{AreIndexed}
use Rattle.grid.specs.Bins.{IsBin}
use Rattle.tiling.specs.Bins.{Binned}
use Rattle.linking.proofs.Boxes.{below_bin, into_bin}
use Rattle.chain_gather.proofs.Boxes.{bin_over, known_member}
use Rattle.linking.proofs.Covering.{inside}
use Rattle.noding_test.specs.Verdicts.{AreNear}
use Rattle.noding_test.specs.Passes.{AreBinsOfEdges, BoundsHoldEdges, EdgesHaveTiles, edge_corners}

-- ---- a bin has the numbers of the edges near its tile
pub near_by_bin : (g : Tiling) (counted : List Counted) (bins : Binned) (k : ℕ) (numbers list : List ℕ) → AreBinsOfEdges g counted bins → ((boxes : List Rect) → AreIndexed boxes bins.items → IsBin bins.grid k boxes numbers) → list ≡ numbers → AreNear g k counted list
near_by_bin g counted bins k numbers list are found e =
    let bin = bin_over edge_corners g counted bins k numbers are found in
    rw e (record {
      ascending = bin.ascending;
      below = λ i d l. below_bin edge_corners g counted are.boxes k numbers are.are_boxes bin (get_or numbers i d) (Contains-get_or numbers i d l);
      complete = into_bin edge_corners g counted are.boxes k numbers are.are_boxes bin;
    })

-- where it is only known that the bins are those of the edges
pub bin_is_near : (g : Tiling) (counted : List Counted) (bins : Binned) (k : ℕ) (numbers list : List ℕ) → ∥ AreBinsOfEdges g counted bins ∥₁ → ((boxes : List Rect) → AreIndexed boxes bins.items → IsBin bins.grid k boxes numbers) → list ≡ numbers → AreNear g k counted list
bin_is_near g counted bins k numbers list are found e = record {
  ascending = ∥∥₁_elim are (hlevel props) (λ h. (at h).ascending);
  below = ∥∥₁_elim are (hlevel props) (λ h. (at h).below);
  complete = λ n c p is inside owned. known_member list n (∥∥₁_map are (λ h. (at h).complete n c p is inside owned));
}
  where
    at : AreBinsOfEdges g counted bins → AreNear g k counted list
    at h = near_by_bin g counted bins k numbers list h found e

-- ---- the grid

-- a grid over bounds that hold the ends of all edges has a tile for each point of their boxes
pub edges_have_tiles : (bounds : Option Rect) (g : Tiling) (edges : List Edge) → CoversBounds bounds g → BoundsHoldEdges bounds edges → EdgesHaveTiles g edges
edges_have_tiles None g edges h b = λ e p i l. absurd (b e i)
edges_have_tiles (Some r) g edges h b = λ e p i l. let s = b e i in h p (inside r e.p e.q p s.0 s.1 l)
