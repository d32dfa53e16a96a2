use Rattle.std.proofs.Common.{ap, sym}
use Rattle.geom.specs.declared.edge.Counted.{Counted}
use Rattle.noded_tests.proofs.labels.are_told.Goals as goal

pub directions-requires : goal.directions-requires
directions-requires g c = record { counted = c.args.counted.now; are = c.requires; one = c.index-counted-i.result; listed = (c.loop-i.i, c.loop-i-test.true, sym c.index-counted-i.is); is = ap (λ (one : Counted). one.edge) c.index-counted-i.is }
