use Rattle.std.proofs.Common.{map}
use Rattle.edge_lines.specs.Lines.{AreLinesRefused}
use Rattle.edge_lines.proofs.Reading.{limits_of}
use Rattle.edge_lines.proofs.text.read_edges.Goals as goal

pub returns-in-Ok-clause-limits : goal.returns-in-Ok-clause-limits
returns-in-Ok-clause-limits g c =
    let lines = map (λ l. l.now) c.deref.result.now in
    limits_of (AreLinesRefused lines) (λ v. v.items) lines c.edges_of.result c.edges_of.ensures
