use Rattle.std.proofs.Common.{◌∙◌, ap, rules, to_z-of_z, FitsSigned, w32}
use Rattle.std.specs.Prelude.{max}
use Rattle.tiling.specs.Bins.{Binned}
use Rattle.tiling.specs.Index.{count_begun, first_reaching}
use Rattle.grid.specs.Tiles.{tile_left, tile_right}
use Rattle.tiling.proofs.bins.Bins.places.Goals as goal

pub returns-clause-from : goal.returns-clause-from
returns-clause-from g c =
    let r = c.rect-rect.result in
    let f : FitsSigned w32 r.lo.x = search rules in
    let e = simp to_z-of_z at c.places.ensures.from in
    e ∙ ap (λ low. first_reaching low c.self.inside.index) c.rect-rect.ensures.left ∙ ap (λ (b : Binned). first_reaching (tile_left b.grid c.args.number) b.items) c.self.view_is

pub returns-clause-to : goal.returns-clause-to
returns-clause-to g c =
    let r = c.rect-rect.result in
    let f : FitsSigned w32 r.hi.x = search rules in
    let e = simp to_z-of_z at c.places.ensures.to in
    e ∙ ap (λ high. max c.places.result.0 (count_begun high c.self.inside.index)) c.rect-rect.ensures.right ∙ ap (λ (b : Binned). max c.places.result.0 (count_begun (tile_right b.grid c.args.number) b.items)) c.self.view_is
