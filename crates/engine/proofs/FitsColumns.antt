-- A side that is the default over the box of two layers of columns is the default over the layers.
use Rattle.std.proofs.Common.{◌≡◌, ℕ, ◌++◌, List, Option, refl, subst, arith}
use Rattle.geom.specs.Segments.{layer_steps}
use Rattle.geom.specs.declared.fault.Fault.TheVariants.{TooManyTiles}
use Rattle.geom.specs.declared.point.Pt.{Pt}
use Rattle.geom.specs.declared.rect.Rect.{Rect}
use Rattle.grid.specs.Sides.{IsDefaultSide}
use Rattle.wkt.specs.Outlines.{IsOutline}
use Rattle.wkt.specs.declared.outline.Outline.{Outline}
use Rattle.columns.specs.declared.fault.ColumnsFault.{ColumnsFault}
use Rattle.columns.specs.declared.layout.Columns.{Columns}
use Rattle.columns.specs.Refusals.{AreAccepted, AreRefused}
use Rattle.layers.specs.declared.columns_refused.ColumnsRefused.{ColumnsRefused}
use Rattle.layers.specs.declared.columns_refused.ColumnsRefused.TheVariants.{Run}
use Rattle.layers.specs.declared.plan.Plan.{Plan}
use Rattle.layers.specs.ColumnsRefusals.{AreColumnsRefused, rings_of, too_many_tiles}
use Rattle.engine.specs.Fitting.{AreTooFineColumns, IsFittingSideOfColumns}
use Rattle.layers.specs.Grids.{AreBoundsOf, AreJointBounds, IsGridOverRings}
use Rattle.engine.proofs.OneColumnsRefusal.{taken}
use Rattle.engine.proofs.OneRefusal.{grid_over_same}

pub fitting_columns : (a b : Columns) (m n : Outline) (both : Option Rect) (side : ℕ) → AreAccepted a × IsOutline (rings_of a) m → AreAccepted b × IsOutline (rings_of b) n
    → AreJointBounds m.bounds n.bounds both → IsDefaultSide both side → IsFittingSideOfColumns a b side
fitting_columns a b m n both side o q joint h = record {
  exponent = h.exponent;
  from = h.from;
  power = h.power;
  is_side = h.is_side;
  few = λ t. h.few (t.grid, grid_over_same t.is_grid.bounds both side t.grid steps t.is_grid.are_bounds bounds t.is_grid.is_grid, t.many);
  least = λ k low high. let t = h.least k low high in
      record { accepted = record { first = o.0; second = q.0 }; grid = t.0; is_grid = record { bounds = both; are_bounds = bounds; is_grid = t.1 }; many = t.2 };
}
  where
    steps : List (Pt × Pt)
    steps = layer_steps (rings_of a) ++ layer_steps (rings_of b)

    bounds : AreBoundsOf steps both
    bounds = joint (layer_steps (rings_of a)) (layer_steps (rings_of b)) o.1.box q.1.box

plain_side : (a b : Columns) → ((side : ℕ) → ¬ AreTooFineColumns a b side) → IsFittingSideOfColumns a b 262_144
plain_side a b never = record {
  exponent = 18;
  from = omega arith;
  power = refl;
  is_side = (omega arith, omega arith);
  few = never 262_144;
  least = λ k low high. absurd (omega (arith, low, high));
}

pub fitting_refused_first : (a b : Columns) (f : ColumnsFault) → AreRefused a f → IsFittingSideOfColumns a b 262_144
fitting_refused_first a b f r = plain_side a b (λ side t. taken a f t.accepted.first r)

pub fitting_refused_second : (a b : Columns) (f : ColumnsFault) → AreRefused b f → IsFittingSideOfColumns a b 262_144
fitting_refused_second a b f r = plain_side a b (λ side t. taken b f t.accepted.second r)

-- a plan with a fitting side isn't refused for its tiles
pub never_too_fine_columns : (a b : Columns) (side : ℕ) → IsFittingSideOfColumns a b side → (limit : ℕ) (plan : Plan) → plan.side ≡ side → (count : ℕ)
    → AreColumnsRefused limit plan a b (Run (TooManyTiles count)) → ⊥
never_too_fine_columns a b side h limit plan e count r = go (Run (TooManyTiles count)) refl r
  where
    go : (f : ColumnsRefused) → f ≡ Run (TooManyTiles count) → AreColumnsRefused limit plan a b f → ⊥
    go f s (too_many_tiles p accepted few grid is_grid many) =
        h.few (record { accepted = accepted; grid = grid; is_grid = subst (λ (k : ℕ). IsGridOverRings (rings_of a) (rings_of b) k grid) e is_grid; many = many })
    go f s r = cc
