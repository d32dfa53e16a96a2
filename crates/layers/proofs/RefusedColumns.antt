-- What columns are refused for, from what a part of the check says.
use Rattle.std.proofs.Common.{◌≡◌, inl, inr, ◌∙◌, ◌+◌, ◌<◌, ◌≤◌, ℕ, ap, ap₂, subst, sym}
use Rattle.geom.specs.declared.fault.Fault.{Fault}
use Rattle.geom.specs.declared.fault.Fault.TheVariants.{TooManySegments, BadTile, BadWorkers}
use Rattle.geom.specs.declared.fault.Part.TheVariants.{Run as OfRun}
use Rattle.geom.specs.Segments.{layer_steps}
use Rattle.grid.specs.Tiles.{Tiling}
use Rattle.wkt.specs.declared.outline.Outline.{Outline}
use Rattle.wkt.specs.Outlines.{IsOutline}
use Rattle.columns.specs.declared.layout.Columns.{Columns}
use Rattle.layers.specs.declared.columns_refused.ColumnsRefused.TheVariants.{Run}
use Rattle.layers.specs.declared.plan.Plan.{Plan}
use Rattle.layers.specs.ColumnsRefusals.{AreBothAccepted, AreColumnsRefused, IsManyOver, bad_tile, bad_workers, rings_of, too_many, too_many_tiles}
use Rattle.layers.specs.Grids.{IsGridOverRings, IsJointGrid, IsTooFine, steps_count}
use Rattle.layers.specs.Refusals.{IsPlan, IsPlanFault}

pub plan_refuses : (limit : ℕ) (plan : Plan) (a b : Columns) (fault : Fault) → IsPlanFault plan fault → AreColumnsRefused limit plan a b (Run fault)
plan_refuses limit plan a b BadTile h = bad_tile h
plan_refuses limit plan a b BadWorkers h = bad_workers h.0 h.1
plan_refuses limit plan a b fault h = absurd h

-- the grid over the outlines of two layers is that over their segments
module _ (limit : ℕ) (plan : Plan) (a b : Columns) (m n : Outline) (planned : IsPlan plan) (accepted : AreBothAccepted a b) (o : IsOutline (rings_of a) m) (q : IsOutline (rings_of b) n) where
  over : (g : Tiling) → IsJointGrid m.bounds n.bounds plan.side g → IsGridOverRings (rings_of a) (rings_of b) plan.side g
  over g h = record { bounds = h.bounds; are_bounds = h.joint (layer_steps (rings_of a)) (layer_steps (rings_of b)) o.box q.box; is_grid = h.is_grid }

  same : m.segments + n.segments ≡ steps_count (rings_of a) + steps_count (rings_of b)
  same = ap₂ (λ (i j : ℕ). i + j) o.count q.count

  tiles_refuse : (fault : Fault) → m.segments + n.segments ≤ limit → IsTooFine m.bounds n.bounds plan.side OfRun fault → AreColumnsRefused limit plan a b (Run fault)
  tiles_refuse fault few h = subst (λ (f : Fault). AreColumnsRefused limit plan a b (Run f)) (sym h.fault_is)
      (too_many_tiles planned accepted (subst (λ (k : ℕ). k ≤ limit) same few) h.grid (over h.grid h.over) h.many)

  pub many_refuse : (fault : Fault) → IsManyOver limit m n plan.side fault → AreColumnsRefused limit plan a b (Run fault)
  many_refuse fault (inl (many, is)) =
      subst (λ (f : Fault). AreColumnsRefused limit plan a b (Run f)) (sym (is ∙ ap (λ (k : ℕ). TooManySegments k) same)) (too_many planned accepted (subst (λ (k : ℕ). limit < k) same many))
  many_refuse fault (inr (few, fine)) = tiles_refuse fault few fine
