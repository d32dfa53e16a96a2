use Rattle.std.proofs.Common.{◌≡◌, List, ◌∷◌, ◌++◌, map, take}
use Rattle.geom.specs.declared.point.Pt.{Pt}
use Rattle.wkt.specs.Canonical.{closed}
use Rattle.columns.specs.Answers.{HaveRings}
use Rattle.columns.proofs.answer.OwnedColumns.push_polygon.Given as goal

abbrev pub invariant-loop-hole : goal.invariant-loop-hole
invariant-loop-hole g l = record {
  rings : (rings : List (List Pt)) → HaveRings rings l.fn.self → HaveRings (rings ++ map closed (l.polygon.shell ∷ take l.hole-index l.polygon.holes)) l.self;
  polygons : l.self.polygons ≡ l.fn.self.polygons;
}
