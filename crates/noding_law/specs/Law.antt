-- Hobby's theorem (Hobby 1999, in this project's own statement).
use Rattle.std.specs.Prelude.{List}
use Rattle.geom.specs.declared.edge.Counted.{Counted}
use Rattle.geom.specs.declared.segment.Seg.{Seg}
use Rattle.geom.specs.Rounded.{AreRounded, edges_of}
use Rattle.geom.specs.Noded.{IsNoded}

-- the rounded edges of any segments are noded
abbrev pub RoundedEdgesAreNoded : Type 0
RoundedEdgesAreNoded = (segments : List Seg) (counted : List Counted) → AreRounded segments counted → IsNoded (edges_of counted)
