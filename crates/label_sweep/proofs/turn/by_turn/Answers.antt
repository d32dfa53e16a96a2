use Rattle.label_sweep.proofs.Turning.{are_spokes, spokes_inside}
use Rattle.label_sweep.proofs.turn.by_turn.Goals as goal

pub returns-clause-spokes : goal.returns-clause-spokes
returns-clause-spokes g c =
    let s = c.sort_by_steepness.ensures in
    λ all h r. are_spokes all c.args.own.now h c.args.v c.args.from c.args.next r c.list_spokes.new.spokes.items c.in_ok-list_spokes.ensures c.sort_by_steepness.new.spokes.items s.permutation s.sorted

pub returns-clause-inside : goal.returns-clause-inside
returns-clause-inside g c = spokes_inside c.args.own.now c.args.from c.args.next c.list_spokes.new.spokes.items c.sort_by_steepness.new.spokes.items c.in_ok-list_spokes.ensures c.sort_by_steepness.ensures.permutation
