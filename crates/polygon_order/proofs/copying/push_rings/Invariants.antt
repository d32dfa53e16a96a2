use Rattle.std.proofs.Common.{◌≡◌, List, ◌++◌}
use Rattle.std.specs.Prelude.{slice_range}
use Rattle.geom.specs.declared.point.Pt.{Pt}
use Rattle.columns.specs.Answers.{HaveRings}
use Rattle.polygon_order.specs.Order.{rings_of}
use Rattle.polygon_order.proofs.copying.push_rings.Given as goal

abbrev pub invariant-loop-ring : goal.invariant-loop-ring
invariant-loop-ring g l = record {
  rings : (rings : List (List Pt)) → HaveRings rings l.fn.made
      → HaveRings (rings ++ slice_range (rings_of l.columns.coordinates.now l.columns.rings.now) l.first l.ring) l.made;
  polygons : l.made.polygons ≡ l.fn.made.polygons;
}
