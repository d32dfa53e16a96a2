use Rattle.std.proofs.Common.{length, ap, ◌∙◌}
use Rattle.std.proofs.lemmas.List.{length-set}
use Rattle.label_sweep.proofs.Slots.{taken_free}
use Rattle.label_sweep.proofs.status.seat_one.Goals as goal

pub returns-clause-taken : goal.returns-clause-taken
returns-clause-taken g c =
    let slots = c.args.slots.now.items in
    taken_free c.args.free.now.items c.pop.new.self.items c.in-Some.number (length slots) (length c.put.new.slots.items) c.in-Some.ensures.items (ap length c.put.ensures ∙ length-set slots c.in-Some.number c.args.one)
