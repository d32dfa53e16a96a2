use Rattle.std.proofs.Common.{ℕ, ◌≡◌, ◌+◌, ◌*◌}
use Rattle.grid.proofs.Columns.{owner_is}
use Rattle.grid.specs.Tiles.{IsPlaced, Owns, Tiling}
use Rattle.geom.specs.declared.point.Pt.{Pt}
use Rattle.grid.proofs.grid.Grid.tile_of.Goals as goal

owner : (g : Tiling) (p : Pt) (place : ℕ × ℕ) (number : ℕ) → IsPlaced g p place → number ≡ place.1 * g.columns + place.0 → Owns g number p
owner g p place number h e = record { column = place.0; row = place.1; column_is = h.column_is; row_is = h.row_is; in_columns = h.in_columns; in_rows = h.in_rows; number_is = e }

pub returns-clause-owner : goal.returns-clause-owner
returns-clause-owner c = owner c.args.self.now c.args.p c.place_of-column.result _ c.place_of-column.ensures.placed c.tile_at.ensures.value

pub returns-clause-alone : goal.returns-clause-alone
returns-clause-alone c = λ k o. owner_is c.args.self.now c.args.p k _ o (owner c.args.self.now c.args.p c.place_of-column.result _ c.place_of-column.ensures.placed c.tile_at.ensures.value)
