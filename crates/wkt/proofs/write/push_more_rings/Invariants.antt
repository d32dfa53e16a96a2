use Rattle.std.proofs.Common.{◌≡◌, ◌++◌, take}
use Rattle.std.specs.Prelude.{All}
use Rattle.wkt.specs.Canonical.{more_of, ring_text}
use Rattle.wkt.specs.Readable.{IsReadable}
use Rattle.wkt.proofs.write.push_more_rings.Given as goal

abbrev pub invariant-loop-ring : goal.invariant-loop-ring
invariant-loop-ring g l = (l.text.items ≡ l.fn.text.items ++ more_of ring_text (take l.ring-index l.rings)) × All IsReadable (take l.ring-index l.rings)
