use Rattle.std.proofs.Common.{◌≡◌, ◌++◌, take}
use Rattle.std.specs.Prelude.{All}
use Rattle.geom.specs.Canonical.{written_rings}
use Rattle.wkt.specs.Canonical.{more_of, polygon_text}
use Rattle.wkt.specs.Readable.{IsReadable}
use Rattle.wkt.proofs.write.push_more_polygons.Given as goal

abbrev pub invariant-loop-polygon : goal.invariant-loop-polygon
invariant-loop-polygon g l = (l.text.items ≡ l.fn.text.items ++ more_of polygon_text (take l.polygon-index l.polygons)) × All IsReadable (written_rings (take l.polygon-index l.polygons))
