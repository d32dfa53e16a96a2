use Rattle.hot_region.specs.Rects.{IsIn}
use Rattle.noding_test.specs.Search.{NoneBadTo}
use Rattle.noding_test.proofs.finding.partner.Given as goal

abbrev pub invariant-loop-other : goal.invariant-loop-other
invariant-loop-other l = NoneBadTo (IsIn l.tile) l.edges l.place l.other
