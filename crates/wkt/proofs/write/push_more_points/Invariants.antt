use Rattle.std.proofs.Common.{◌≡◌, ◌++◌, take}
use Rattle.geom.specs.Words.{pt_words}
use Rattle.std.specs.Prelude.{All}
use Rattle.wkt.specs.Canonical.{more_of}
use Rattle.wkt.specs.Readable.{IsShort}
use Rattle.wkt.proofs.write.push_more_points.Given as goal

abbrev pub invariant-loop-point : goal.invariant-loop-point
invariant-loop-point g l = (l.text.items ≡ l.fn.text.items ++ more_of pt_words (take l.point-index l.points)) × All IsShort (take l.point-index l.points)
