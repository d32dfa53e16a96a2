use Rattle.std.proofs.lemmas.Result.{IfOk-weaker}
use Rattle.hot_region.specs.Rects.{IsIn}
use Rattle.grid.specs.Tiles.{Owns}
use Rattle.hot_region.specs.Candidates.{chosen}
use Rattle.hot_region.proofs.CandidateLaws.{owned_by, owned_of_all}
use Rattle.hot_pixel.proofs.hot.sweep.Goals as goal

pub sweep_tile-requires : goal.sweep_tile-requires
sweep_tile-requires g c = record { limits = c.requires.limits; below = c.requires.candidates.below }

pub returns-clause-hot : goal.returns-clause-hot
returns-clause-hot g c =
    let segments = c.args.segments.now in
    let numbers = c.args.numbers.now in
    let owns = Owns c.args.grid.now c.args.tile in
    IfOk-weaker c.sweep_tile.result _ _ (λ v h. owned_of_all owns segments numbers v.items c.requires.candidates (owned_by (IsIn c.rect-rect.result) owns (chosen segments numbers) v.items c.rect-rect.ensures.exact h)) c.sweep_tile.ensures.hot
