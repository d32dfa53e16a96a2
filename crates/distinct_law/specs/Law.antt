-- What segments with copies give is what all segments give (own).
use Rattle.std.specs.Prelude.{List}
use Rattle.geom.specs.declared.edge.Counted.{Counted}
use Rattle.geom.specs.declared.segment.Seg.{Seg}
use Rattle.geom.specs.Rounded.{AreRounded}
use Rattle.distinct.specs.Copies.{AreCopies, AreCopiesRounded}
use Rattle.distinct.specs.declared.copies.Copies.{Copies}

-- the rounded edges of the kept segments with their copies are those of all segments
abbrev pub CopiesAreRounded : Type 0
CopiesAreRounded = (segments kept : List Seg) (copies : List Copies) (counted : List Counted) → AreCopies segments kept copies → AreCopiesRounded kept copies counted → AreRounded segments counted
