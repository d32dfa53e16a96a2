use Rattle.std.proofs.Common.{ap, ◌+◌}
use Rattle.layers.proofs.ReadLaws.{read_more}
use Rattle.layers.proofs.feature_reading.ReadLayers.and.Goals as goal

pub returns-clause-read : goal.returns-clause-read
returns-clause-read g c = λ texts text limit old own.
    let next = c.args.next.outline in
    read_more limit texts text c.args.self _ next old own.0 (ap (λ n. c.args.self.segments + n) c.from.ensures)
    (c.joint_bounds.ensures.joint) (c.joint_bounds.ensures.in_limit old.in_limit own.1) (c.kept_with.ensures texts text old.kept own.2)
