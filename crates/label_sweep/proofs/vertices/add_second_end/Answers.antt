use Rattle.std.specs.List.{Contains}
use Rattle.std.proofs.lemmas.List.Elements.{All-contains}
use Rattle.label_sweep.proofs.vertices.add_second_end.Goals as goal

pub returns-else-not-is_held-clause-added : goal.returns-else-not-is_held-clause-added
returns-else-not-is_held-clause-added g c =
    All-contains (Contains c.args.ends.now.items) c.args.held.now c.args.one.now.edge.q c.requires.held (c.is_held.ensures c.if-not-is_held.false)
