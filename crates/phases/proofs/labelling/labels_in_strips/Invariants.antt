use Rattle.std.specs.List.{filter}
use Rattle.label_sweep.specs.Changing.{changes}
use Rattle.phases.specs.Labels.{AreResultEdgesBefore, ComeInto}
use Rattle.phases.proofs.labelling.labels_in_strips.Given as goal

-- the directed edges of the strips so far, and the edges that come into the next one
abbrev pub invariant-loop-strip : goal.invariant-loop-strip
invariant-loop-strip g l = AreResultEdgesBefore l.fn.op l.cuts l.strip (filter changes l.counted) l.edges.items × ComeInto l.cuts l.strip (filter changes l.counted) l.crossing.items
