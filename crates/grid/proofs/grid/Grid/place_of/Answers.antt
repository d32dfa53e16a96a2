use Rattle.std.proofs.Common.{◌≡◌, ◌<◌, ◌≤◌, ◌*◌, ℕ, pos, sym, subst, rules, arith, to_z-of_z, FitsSigned, w32, ◌∙◌}
use Rattle.std.proofs.lemmas.Nat.{mul-le}
use Rattle.grid.proofs.Columns.{pos_same, steps_after}
use Rattle.grid.specs.Tiles.{HasTile, IsPlaced, Owns, Tiling, most_cells, steps, tile_count}
use Rattle.geom.specs.declared.point.Pt.{Pt}
use Rattle.grid.proofs.grid.Grid.place_of.Goals as goal

pub steps_to-column-requires-clause-order : goal.steps_to-column-requires-clause-order
steps_to-column-requires-clause-order c =
    let f : FitsSigned w32 c.self.inside.left = search rules in
    let g : FitsSigned w32 c.args.p.x = search rules in
    let o = (subst (λ (g : Tiling). HasTile g c.args.p) (sym c.self.view_is) c.requires).1 in
    rw (to_z-of_z f, to_z-of_z g) (steps_after c.self.inside.left c.args.p.x c.self.inside.side o.column o.column_is)

pub steps_to-row-requires-clause-order : goal.steps_to-row-requires-clause-order
steps_to-row-requires-clause-order c =
    let f : FitsSigned w32 c.self.inside.bottom = search rules in
    let g : FitsSigned w32 c.args.p.y = search rules in
    let o = (subst (λ (g : Tiling). HasTile g c.args.p) (sym c.self.view_is) c.requires).1 in
    rw (to_z-of_z f, to_z-of_z g) (steps_after c.self.inside.bottom c.args.p.y c.self.inside.side o.row o.row_is)

placed : (g h : Tiling) (p : Pt) (column row : ℕ) → h ≡ g → HasTile g p → steps h.left h.side p.x ≡ pos column → steps h.bottom h.side p.y ≡ pos row → IsPlaced g p (column, row)
placed g h p column row e has a b =
    let o : Owns h has.0 p = subst (λ (g : Tiling). Owns g has.0 p) (sym e) has.1 in
    let c = pos_same o.column column (sym o.column_is ∙ a) in
    let r = pos_same o.row row (sym o.row_is ∙ b) in
    subst (λ (g : Tiling). IsPlaced g p (column, row)) e (record { column_is = a; row_is = b; in_columns = omega (arith, c, o.in_columns); in_rows = omega (arith, r, o.in_rows) })

pub returns-clause-placed : goal.returns-clause-placed
returns-clause-placed c =
    let f : FitsSigned w32 c.self.inside.left = search rules in
    let g : FitsSigned w32 c.args.p.x = search rules in
    let f' : FitsSigned w32 c.self.inside.bottom = search rules in
    let g' : FitsSigned w32 c.args.p.y = search rules in
    placed c.args.self.now _ c.args.p c.steps_to-column.result c.steps_to-row.result c.self.view_is c.requires (simp to_z-of_z at c.steps_to-column.ensures) (simp to_z-of_z at c.steps_to-row.ensures)

few : (g : Tiling) (p : Pt) (place : ℕ × ℕ) → tile_count g ≤ most_cells → IsPlaced g p place → (place.0 < 4194304) × (place.1 < 4194304)
few g p place h placed =
    let c = placed.in_columns in
    let r = placed.in_rows in
    let across : 1 * g.columns ≤ g.rows * g.columns = mul-le 1 g.columns g.rows g.columns (omega (arith, r)) (omega arith) in
    let up : g.rows * 1 ≤ g.rows * g.columns = mul-le g.rows 1 g.rows g.columns (omega arith) (omega (arith, c)) in
    (omega (arith, across, h, c), omega (arith, up, h, r))

pub returns-clause-few : goal.returns-clause-few
returns-clause-few c = few c.args.self.now c.args.p (c.steps_to-column.result, c.steps_to-row.result) (subst (λ (g : Tiling). tile_count g ≤ most_cells) c.self.view_is c.self.invariant.few) (returns-clause-placed c)

pub returns-clause-some_side : goal.returns-clause-some_side
returns-clause-some_side c = subst (λ (g : Tiling). 0 < g.side) c.self.view_is c.self.invariant.some_side
