-- What a type keeps of a check, for any reading of the layers.
use Rattle.std.proofs.Common.{◌≡◌, ℕ, List, [], ◌∷◌, Option, refl, subst}
use Rattle.std.proofs.Math.Logic.{∥∥₁_elim}
use Rattle.std.proofs.Math.Path.{path_j}
use Rattle.geom.specs.declared.point.Pt.{Pt}
use Rattle.geom.specs.declared.rect.Rect.{Rect}
use Rattle.grid.specs.Tiles.{Tiling}
use Rattle.wkt.proofs.Cuts.{same_features}
use Rattle.layers.specs.declared.plan.Plan.{Plan}
use Rattle.layers.specs.FeatureSegments.{all_steps}
use Rattle.layers.specs.FeatureLayers.{AreCheckedLayers, AreReady, IsGridOverLayers, StandForLayers}
use Rattle.engine.proofs.Known.{Over, le_prop, one_bounds, over_prop, plan_prop}

-- texts stand for one list of layers
pub one_list : (texts : List (List ℕ)) (x y : List (List (List (List Pt)))) → StandForLayers texts x → StandForLayers texts y → x ≡ y
one_list [] [] [] h k = refl
one_list [] [] (b ∷ bs) h k = absurd k
one_list [] (a ∷ x) y h k = absurd h
one_list (t ∷ ts) [] y h k = absurd h
one_list (t ∷ ts) (a ∷ x) [] h k = absurd k
one_list (t ∷ ts) (a ∷ x) (b ∷ y) h k = (λ i. same_features t a b h.0 k.0 i ∷ one_list ts x y h.1 k.1 i)

abbrev over : (layers : List (List (List (List Pt)))) (side : ℕ) (g : Tiling) (bounds : Option Rect) → Over (all_steps layers) side g bounds → IsGridOverLayers layers side g
over layers side g bounds h = record { bounds = bounds; are_bounds = h.0; is_grid = h.1 }

grid_prop : (layers : List (List (List (List Pt)))) (side : ℕ) (g : Tiling) → IsProp (IsGridOverLayers layers side g)
grid_prop layers side g h k =
    path_j (λ (bounds : Option Rect) _. (o : Over (all_steps layers) side g bounds) → h ≡ over layers side g bounds o)
    (λ o i. over layers side g h.bounds (over_prop (all_steps layers) side g h.bounds (h.are_bounds, h.is_grid) o i))
    (one_bounds (all_steps layers) h.bounds k.bounds h.are_bounds k.are_bounds) (k.are_bounds, k.is_grid)

module _ (limit : ℕ) (plan : Plan) (texts : List (List ℕ)) (n : ℕ) (g : Tiling) (known : ∥ AreCheckedLayers limit plan texts n g ∥₁) (layers : List (List (List (List Pt)))) (stand : StandForLayers texts layers) where
  at : AreCheckedLayers limit plan texts n g → AreReady limit plan texts layers g
  at k = subst (λ (x : List (List (List (List Pt)))). AreReady limit plan texts x g) (one_list texts k.0 layers k.1.stand stand) k.1

  pub layers_ready : AreReady limit plan texts layers g
  layers_ready = record {
    planned = ∥∥₁_elim known (plan_prop plan) (λ k. k.1.planned);
    short = λ j d below. ∥∥₁_elim known (le_prop _ _) (λ k. k.1.short j d below);
    stand = stand;
    few = ∥∥₁_elim known (le_prop _ _) (λ k. (at k).few);
    is_grid = ∥∥₁_elim known (grid_prop layers plan.side g) (λ k. (at k).is_grid);
    few_tiles = ∥∥₁_elim known (le_prop _ _) (λ k. k.1.few_tiles);
  }
