-- A side that is the default over the box of two layers is the default over the layers.
use Rattle.std.proofs.Common.{◌≡◌, ℕ, ◌++◌, List, Option, refl, ap₂, subst, arith}
use Rattle.geom.specs.Segments.{layer_steps}
use Rattle.geom.specs.declared.fault.Fault.{Fault}
use Rattle.geom.specs.declared.fault.Fault.TheVariants.{TooManyTiles}
use Rattle.geom.specs.declared.fault.Part.TheVariants.{Run}
use Rattle.geom.specs.declared.point.Pt.{Pt}
use Rattle.geom.specs.declared.rect.Rect.{Rect}
use Rattle.grid.specs.Sides.{IsDefaultSide}
use Rattle.wkt.specs.LayerText.{Ring}
use Rattle.wkt.specs.Refusals.{IsAcceptedWithin, IsRefusedWithin, plain}
use Rattle.wkt.specs.declared.outline.Outline.{Outline}
use Rattle.wkt.proofs.Exclusive.{not_both}
use Rattle.engine.specs.Fitting.{IsFittingSide, IsTooFineOver}
use Rattle.layers.specs.Grids.{AreBoundsOf, AreJointBounds, IsGridOver}
use Rattle.layers.specs.Refusals.{HasOutlineWithin, IsRefusedAtWithin, greatest_text, too_many_tiles}
use Rattle.layers.proofs.TextLimits.{accepted_at_most}
use Rattle.layers.specs.declared.plan.Plan.{Plan}
use Rattle.engine.proofs.Determined.{one_layer}
use Rattle.engine.proofs.OneRefusal.{grid_over_same}

abbrev taken : List Ring → List Ring → List (Pt × Pt)
taken rings_a rings_b = layer_steps (plain rings_a) ++ layer_steps (plain rings_b)

pub fitting : (a b : List ℕ) (m n : Outline) (both : Option Rect) (side : ℕ) → HasOutlineWithin greatest_text a m → HasOutlineWithin greatest_text b n → AreJointBounds m.bounds n.bounds both
    → IsDefaultSide both side → IsFittingSide a b side
fitting a b m n both side o q joint h = record {
  exponent = h.exponent;
  from = h.from;
  power = h.power;
  is_side = h.is_side;
  few = λ t. h.few (t.grid, grid_over_same t.is_grid.bounds both side t.grid (taken o.0 q.0) (moved t) bounds t.is_grid.is_grid, t.many);
  least = λ k low high. let t = h.least k low high in
      record { rings_a = o.0; rings_b = q.0; accepted_a = o.1; accepted_b = q.1; grid = t.0; is_grid = record { bounds = both; are_bounds = bounds; is_grid = t.1 }; many = t.2 };
}
  where
    bounds : AreBoundsOf (taken o.0 q.0) both
    bounds = joint (layer_steps (plain o.0)) (layer_steps (plain q.0)) o.2.box q.2.box

    moved : (t : IsTooFineOver a b side) → AreBoundsOf (taken o.0 q.0) t.is_grid.bounds
    moved t = subst (λ (zs : List (Pt × Pt)). AreBoundsOf zs t.is_grid.bounds)
        (ap₂ taken (one_layer a t.rings_a o.0 t.accepted_a.accepted o.1.accepted) (one_layer b t.rings_b q.0 t.accepted_b.accepted q.1.accepted)) t.is_grid.are_bounds

never_both : (text : List ℕ) (rings : List Ring) (f : Fault) → IsAcceptedWithin greatest_text text rings → IsRefusedWithin greatest_text text f → ⊥
never_both text rings f h r = not_both greatest_text text (plain rings) f h.short (rings, h.accepted, refl) r

plain_side : (a b : List ℕ) → ((side : ℕ) → ¬ IsTooFineOver a b side) → IsFittingSide a b 262_144
plain_side a b never = record {
  exponent = 18;
  from = omega arith;
  power = refl;
  is_side = (omega arith, omega arith);
  few = never 262_144;
  least = λ k low high. absurd (omega (arith, low, high));
}

pub fitting_refused_a : (a b : List ℕ) (f : Fault) → IsRefusedWithin greatest_text a f → IsFittingSide a b 262_144
fitting_refused_a a b f r = plain_side a b (λ side t. never_both a t.rings_a f t.accepted_a r)

pub fitting_refused_b : (a b : List ℕ) (f : Fault) → IsRefusedWithin greatest_text b f → IsFittingSide a b 262_144
fitting_refused_b a b f r = plain_side a b (λ side t. never_both b t.rings_b f t.accepted_b r)

-- a plan with a fitting side isn't refused for its tiles
pub never_too_fine : (a b : List ℕ) (side : ℕ) → IsFittingSide a b side → (limit : ℕ) (plan : Plan) → plan.side ≡ side → (count : ℕ) → IsRefusedAtWithin limit plan a b Run (TooManyTiles count) → ⊥
never_too_fine a b side h limit plan e count r = go (TooManyTiles count) refl r
  where
    go : (f : Fault) → f ≡ TooManyTiles count → IsRefusedAtWithin limit plan a b Run f → ⊥
    go f s (too_many_tiles p rings_a rings_b acc_a acc_b few grid is_grid many) =
        h.few (record { rings_a = rings_a; rings_b = rings_b; accepted_a = accepted_at_most limit a rings_a acc_a; accepted_b = accepted_at_most limit b rings_b acc_b; grid = grid; is_grid = subst (λ (k : ℕ). IsGridOver rings_a rings_b k grid) e is_grid; many = many })
    go f s r = cc
