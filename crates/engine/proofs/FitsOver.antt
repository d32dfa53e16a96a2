-- A side that is the default over the box of layers is the default over the layers.
use Rattle.std.proofs.Common.{◌≡◌, ◌≤◌, length, ℕ, zero, suc, List, [], ◌∷◌, refl, subst, arith}
use Rattle.std.specs.Prelude.{Option, Some, slice_get}
use Rattle.geom.specs.declared.fault.Fault.{Fault}
use Rattle.geom.specs.declared.fault.Fault.TheVariants.{TooManyTiles}
use Rattle.geom.specs.declared.point.Pt.{Pt}
use Rattle.geom.specs.declared.rect.Rect.{Rect}
use Rattle.grid.specs.Sides.{IsDefaultSide}
use Rattle.wkt.specs.Features.{all_rings}
use Rattle.wkt.specs.Refusals.{IsRefusedWithin, StandsFor}
use Rattle.wkt.proofs.Cuts.{stands_joined}
use Rattle.wkt.proofs.Exclusive.{not_both}
use Rattle.layers.specs.declared.plan.Plan.{Plan}
use Rattle.layers.specs.declared.faces_fault.FacesPart.{FacesPart}
use Rattle.layers.specs.declared.faces_fault.FacesPart.TheVariants.{Run}
use Rattle.layers.specs.declared.faces_fault.FacesRefusal.{FacesRefusal}
use Rattle.layers.specs.declared.faces_fault.FacesRefusal.TheVariants.{Usual}
use Rattle.layers.specs.declared.faces_limits.FacesLimits.{FacesLimits}
use Rattle.layers.specs.FacesRefusals.{IsFacesRefusedAt, too_many_tiles}
use Rattle.layers.specs.FeatureSegments.{all_steps}
use Rattle.engine.specs.Fitting.{AreTooFineOver, IsFittingSideOver}
use Rattle.layers.specs.FeatureLayers.{AreShort, IsGridOverLayers, StandForLayers}
use Rattle.layers.specs.Grids.{AreBoundsOf}
use Rattle.engine.proofs.LayersKnown.{one_list}
use Rattle.engine.proofs.OneRefusal.{grid_over_same}
use Rattle.layers.specs.Refusals.{greatest_text}
use Rattle.layers.proofs.ReadLaws.{AreBoxed}
use Rattle.layers.proofs.TextLimits.{short_at_most}

pub fitting_over : (texts : List (List ℕ)) (bounds : Option Rect) (side : ℕ) → AreBoxed greatest_text texts bounds → IsDefaultSide bounds side → IsFittingSideOver texts side
fitting_over texts bounds side o h = record {
  exponent = h.exponent;
  from = h.from;
  power = h.power;
  is_side = h.is_side;
  few = λ t. h.few (t.grid, grid_over_same t.is_grid.bounds bounds side t.grid (all_steps o.layers) (moved t) o.bounds_of t.is_grid.is_grid, t.many);
  least = λ k low high. let t = h.least k low high in
      record { layers = o.layers; stand = record { short = o.short; stand = o.stand }; grid = t.0; is_grid = record { bounds = bounds; are_bounds = o.bounds_of; is_grid = t.1 }; many = t.2 };
}
  where
    moved : (t : AreTooFineOver texts side) → AreBoundsOf (all_steps o.layers) t.is_grid.bounds
    moved t = subst (λ (layers : List (List (List (List Pt)))). AreBoundsOf (all_steps layers) t.is_grid.bounds) (one_list texts t.layers o.layers t.stand.stand o.stand) t.is_grid.are_bounds

-- a text that is refused stands for no layer
none_stand : (texts : List (List ℕ)) (layers : List (List (List (List Pt)))) (number : ℕ) (text : List ℕ) (fault : Fault) → slice_get texts number ≡ Some text → IsRefusedWithin greatest_text text fault
    → AreShort greatest_text texts → StandForLayers texts layers → ⊥
none_stand [] layers number text fault e r short h = cc
none_stand (t ∷ ts) [] number text fault e r short h = h
none_stand (t ∷ ts) (a ∷ rest) zero text fault e r short h =
    let same : t ≡ text = cc in
    not_both greatest_text text (all_rings a) fault (subst (λ (u : List ℕ). length u ≤ greatest_text) same (short 0 [] (omega arith))) (subst (λ (u : List ℕ). StandsFor u (all_rings a)) same (stands_joined t a h.0)) r
none_stand (t ∷ ts) (a ∷ rest) (suc n) text fault e r short h = none_stand ts rest n text fault e r (λ k d below. short (suc k) d (omega (arith, below))) h.1

pub fitting_refused : (texts : List (List ℕ)) (number : ℕ) (text : List ℕ) (fault : Fault) → slice_get texts number ≡ Some text → IsRefusedWithin greatest_text text fault → IsFittingSideOver texts 262_144
fitting_refused texts number text fault e r = record {
  exponent = 18;
  from = omega arith;
  power = refl;
  is_side = (omega arith, omega arith);
  few = λ t. none_stand texts t.layers number text fault e r t.stand.short t.stand.stand;
  least = λ k low high. absurd (omega (arith, low, high));
}

-- a plan with a fitting side isn't refused for its tiles
pub never_too_fine_over : (texts : List (List ℕ)) (side : ℕ) → IsFittingSideOver texts side → (limits : FacesLimits) (plan : Plan) → plan.side ≡ side → (count : ℕ)
    → IsFacesRefusedAt limits plan texts Run (Usual (TooManyTiles count)) → ⊥
never_too_fine_over texts side h limits plan e count r = go Run (Usual (TooManyTiles count)) refl refl r
  where
    go : (part : FacesPart) (refusal : FacesRefusal) → part ≡ Run → refusal ≡ Usual (TooManyTiles count) → IsFacesRefusedAt limits plan texts part refusal → ⊥
    go part refusal a s (too_many_tiles p layers stand few grid is_grid many) =
        h.few (record { layers = layers; stand = record { short = short_at_most limits.segments texts stand.short; stand = stand.stand }; grid = grid; is_grid = subst (λ (k : ℕ). IsGridOverLayers layers k grid) e is_grid; many = many })
    go part refusal a s r = cc
