use Rattle.std.proofs.Common.{◌≡◌, ◌++◌, take}
use Rattle.columns.specs.Answers.{coordinates_of}
use Rattle.columns.proofs.answer.OwnedColumns.push_ring.Given as goal

abbrev pub invariant-loop-point : goal.invariant-loop-point
invariant-loop-point g l = record {
  added : l.self.coordinates.items ≡ l.fn.self.coordinates.items ++ coordinates_of (take l.point-index l.points);
  rings : l.self.rings ≡ l.fn.self.rings;
  polygons : l.self.polygons ≡ l.fn.self.polygons;
}
