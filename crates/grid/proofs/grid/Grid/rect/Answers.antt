use Rattle.std.proofs.Common.{◌%◌, ◌<◌, rules, sym, subst, FitsSigned, w32, ◌∙◌, ap}
use Rattle.std.proofs.Math.Nat.{mod-lt}
use Rattle.grid.specs.Tiles.{Tiling, tile_count, tile_left, tile_right}
use Rattle.grid.proofs.Columns.{corner, exact, last_near, some_columns}
use Rattle.grid.proofs.grid.Grid.rect.Goals as goal

pub returns-clause-exact : goal.returns-clause-exact
returns-clause-exact c =
    let f : FitsSigned w32 c.self.inside.left = search rules in
    let g : FitsSigned w32 c.self.inside.bottom = search rules in
    let a : FitsSigned w32 c.ends-left.result.0 = search rules in
    let b : FitsSigned w32 c.ends-left.result.1 = search rules in
    let d : FitsSigned w32 c.ends-bottom.result.0 = search rules in
    let e : FitsSigned w32 c.ends-bottom.result.1 = search rules in
    exact c.args.self.now _ c.args.number _ _ c.self.view_is c.self.invariant.some_side c.requires (record {
      left = corner c.ends-left.result.0 c.self.inside.left _ a f c.ends-left.ensures.first;
      right = corner c.ends-left.result.1 c.self.inside.left _ b f c.ends-left.ensures.last;
      bottom = corner c.ends-bottom.result.0 c.self.inside.bottom _ d g c.ends-bottom.ensures.first;
      top = corner c.ends-bottom.result.1 c.self.inside.bottom _ e g c.ends-bottom.ensures.last;
    })

pub returns-clause-near : goal.returns-clause-near
returns-clause-near c =
    let f : FitsSigned w32 c.self.inside.left = search rules in
    let b : FitsSigned w32 c.ends-left.result.1 = search rules in
    let h = c.self.invariant in
    let k = subst (λ (g : Tiling). c.args.number < tile_count g) (sym c.self.view_is) c.requires in
    last_near c.self.inside.left _ (c.args.number % c.self.inside.columns) c.self.inside.columns c.self.inside.side h.left_near (mod-lt c.args.number (some_columns c.args.number c.self.inside.rows c.self.inside.columns k)) h.across
    (corner c.ends-left.result.1 c.self.inside.left _ b f c.ends-left.ensures.last)

pub returns-clause-left : goal.returns-clause-left
returns-clause-left c =
    let f : FitsSigned w32 c.self.inside.left = search rules in
    let a : FitsSigned w32 c.ends-left.result.0 = search rules in
    corner c.ends-left.result.0 c.self.inside.left _ a f c.ends-left.ensures.first ∙ ap (λ (g : Tiling). tile_left g c.args.number) c.self.view_is

pub returns-clause-right : goal.returns-clause-right
returns-clause-right c =
    let f : FitsSigned w32 c.self.inside.left = search rules in
    let b : FitsSigned w32 c.ends-left.result.1 = search rules in
    corner c.ends-left.result.1 c.self.inside.left _ b f c.ends-left.ensures.last ∙ ap (λ (g : Tiling). tile_right g c.args.number) c.self.view_is
