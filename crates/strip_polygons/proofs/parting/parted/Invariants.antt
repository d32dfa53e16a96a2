use Rattle.strip_polygons.proofs.PartingPicked.{ArePicked, IsClosedAt, WaitsAt}
use Rattle.strip_polygons.proofs.parting.parted.Given as goal

abbrev pub invariant-loop-place : goal.invariant-loop-place
invariant-loop-place g l = ArePicked l.known (IsClosedAt l.flags.items) l.place l.closed.items × ArePicked l.known
    (WaitsAt l.cuts l.from l.known l.flags.items) l.place l.«open».items
