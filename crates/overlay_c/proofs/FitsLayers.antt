-- A side that is the default over the box of layers of columns is the default over the layers.
use Rattle.std.proofs.Common.{◌≡◌, ◌∙◌, ℕ, ◌+◌, ◌<◌, List, [], ◌∷◌, ◌++◌, ap, arith, get_or, length, refl, subst, sym, take}
use Rattle.std.specs.Prelude.{Option}
use Rattle.std.proofs.lemmas.List.{get_or-map, length-map, map-append, map_more}
use Rattle.geom.specs.declared.point.Pt.{Pt}
use Rattle.geom.specs.declared.rect.Rect.{Rect}
use Rattle.grid.specs.Sides.{IsDefaultSide}
use Rattle.grid.specs.Tiles.{AreBounds}
use Rattle.wkt.specs.Outlines.{IsOutline}
use Rattle.wkt.specs.declared.outline.Outline.{Outline}
use Rattle.columns.specs.declared.fault.ColumnsFault.{ColumnsFault}
use Rattle.columns.specs.declared.layout.Columns.{Columns}
use Rattle.columns.specs.Refusals.{AreAccepted, AreRefused}
use Rattle.layers.specs.ColumnLayers.{AllAccepted, features_in, features_of}
use Rattle.layers.specs.ColumnsRefusals.{rings_of}
use Rattle.layers.specs.FeatureSegments.{all_steps, feature_steps}
use Rattle.layers.specs.Grids.{AreBoundsOf, AreJointBounds}
use Rattle.layers.proofs.ColumnLayers.{accepted_at, accepted_more, steps_of_columns}
use Rattle.engine.proofs.OneColumnsRefusal.{taken}
use Rattle.engine.proofs.OneRefusal.{grid_over_same}
use Rattle.layers.proofs.ReadLaws.{steps_snoc}
use Rattle.overlay_c.specs.declared.columns_layer.OverlayColumns.{OverlayColumns}
use Rattle.overlay_c.specs.Columns.{columns_in}
use Rattle.overlay_c.specs.FacesColumns.{IsFittingSideOfLayers, layers_in}

-- layers that are accepted, with the box of their segments
pub record AreBoxedLayers (layers : List Columns) (bounds : Option Rect) : Type 0 where
  pub accepted : AllAccepted layers
  pub bounds_of : AreBoundsOf (all_steps (features_in layers)) bounds
  pub in_limit : AreBounds bounds

pub boxed_more : (layers : List Columns) (layer : Columns) (old new : Option Rect) (outline : Outline) → AreBoxedLayers layers old → AreAccepted layer → IsOutline (rings_of layer) outline
    → AreJointBounds old outline.bounds new → AreBounds new → AreBoxedLayers (layers ++ layer ∷ []) new
boxed_more layers layer old new outline h accepted is joint inside =
    let whole : all_steps (features_in (layers ++ layer ∷ [])) ≡ all_steps (features_in layers) ++ feature_steps (features_of layer) =
    ap all_steps (map-append features_of layers (layer ∷ [])) ∙ steps_snoc (features_in layers) (features_of layer) in
    let box : AreBoundsOf (feature_steps (features_of layer)) outline.bounds = subst (λ (ss : List (Pt × Pt)). AreBoundsOf ss outline.bounds) (sym (steps_of_columns layer)) is.box in
    record {
      accepted = accepted_more layers layer h.accepted accepted;
      bounds_of = subst (λ (ss : List (Pt × Pt)). AreBoundsOf ss new) (sym whole) (joint (all_steps (features_in layers)) (feature_steps (features_of layer)) h.bounds_of box);
      in_limit = inside;
    }

-- one more of the layers that were passed
pub next_boxed : (layers : List OverlayColumns) (n : ℕ) (d : OverlayColumns) (layer : Columns) (old new : Option Rect) (outline : Outline) → layer ≡ columns_in (get_or layers n d) → n < length layers
    → AreBoxedLayers (layers_in (take n layers)) old → AreAccepted layer → IsOutline (rings_of layer) outline → AreJointBounds old outline.bounds new → AreBounds new → AreBoxedLayers (layers_in (take (n + 1) layers)) new
next_boxed layers n d layer old new outline same below h accepted is joint inside =
    subst (λ (ls : List Columns). AreBoxedLayers ls new) (sym (map_more columns_in layers n d below))
    (subst (λ (x : Columns). AreBoxedLayers (layers_in (take n layers) ++ x ∷ []) new) same
    (boxed_more (layers_in (take n layers)) layer old new outline h accepted is joint inside))

pub fitting_layers : (layers : List Columns) (bounds : Option Rect) (side : ℕ) → AreBoxedLayers layers bounds → IsDefaultSide bounds side → IsFittingSideOfLayers layers side
fitting_layers layers bounds side o h = record {
  exponent = h.exponent;
  from = h.from;
  power = h.power;
  is_side = h.is_side;
  few = λ t. h.few (t.grid, grid_over_same t.is_grid.bounds bounds side t.grid (all_steps (features_in layers)) t.is_grid.are_bounds o.bounds_of t.is_grid.is_grid, t.many);
  least = λ k low high. let t = h.least k low high in
      record { accepted = o.accepted; grid = t.0; is_grid = record { bounds = bounds; are_bounds = o.bounds_of; is_grid = t.1 }; many = t.2 };
}

pub layer_at : (layers : List OverlayColumns) (n : ℕ) (d : OverlayColumns) → n < length layers → get_or (layers_in layers) n (columns_in d) ≡ columns_in (get_or layers n d)
layer_at layers n d below = get_or-map columns_in layers n d (columns_in d) below

-- a layer that is refused
pub fitting_refused : (layers : List OverlayColumns) (n : ℕ) (d : OverlayColumns) (fault : ColumnsFault) → n < length layers → AreRefused (columns_in (get_or layers n d)) fault → IsFittingSideOfLayers (layers_in layers) 262_144
fitting_refused layers n d fault below refused = record {
  exponent = 18;
  from = omega arith;
  power = refl;
  is_side = (omega arith, omega arith);
  few = λ t. never t.accepted;
  least = λ k low high. absurd (omega (arith, low, high));
}
  where
    never : AllAccepted (layers_in layers) → ⊥
    never all =
        let same = length-map layers columns_in in
        taken (columns_in (get_or layers n d)) fault
        (subst (λ (c : Columns). AreAccepted c) (layer_at layers n d below) (accepted_at (layers_in layers) n (columns_in d) (omega (arith, below, same)) all)) refused
