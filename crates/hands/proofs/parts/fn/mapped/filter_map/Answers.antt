use Rattle.hands.proofs.Answering.{idle_answer, part_answer}
use Rattle.hands.proofs.parts.fn.mapped.filter_map.Goals as goal

pub returns-in-Some : goal.returns-in-Some
returns-in-Some g c = rw (c.in-Some.is) (part_answer _ _ _ c.f.ensures)

pub returns-in-None : goal.returns-in-None
returns-in-None g c = rw (c.in-None.is) (idle_answer _)
