use Rattle.results.proofs.Answering.{if_five}
use Rattle.engine.proofs.rounds.gathered_borders.Goals as goal

pub returns-clause-borders : goal.returns-clause-borders
returns-clause-borders g c =
    let made = c.gather_borders_in_parts.ensures in
    if_five c.gather_borders_in_parts.result _ _ _ _ _ _
    (λ r borders closed ordered inside below. record { borders = borders; closed = closed; ordered = ordered; inside = inside; below = below })
    made.borders made.closed made.ordered made.inside made.below
