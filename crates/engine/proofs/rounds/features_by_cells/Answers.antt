use Rattle.std.proofs.Common.{◌≤◌, arith}
use Rattle.std.proofs.lemmas.Result.{IfOk-weaker}
use Rattle.tile_book.specs.declared.draw.TheConstants.{MOST_NUMBERS}
use Rattle.engine.proofs.rounds.features_by_cells.Goals as goal

pub returns-clause-remade : goal.returns-clause-remade
returns-clause-remade g c =
    let few : c.in_ok-filled.filled.returned ≤ MOST_NUMBERS = omega (arith, c.in_ok-filled.ensures.counted, c.tiles.ensures.few) in
    IfOk-weaker c.gathered_borders.result _ _ (λ r e. omega (arith, e, few)) c.gathered_borders.ensures.remade
