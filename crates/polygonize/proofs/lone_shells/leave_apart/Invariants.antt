use Rattle.std.proofs.Common.{◌≤◌}
use Rattle.polygonize.proofs.LoneWalk.{LeaveApartBefore}
use Rattle.polygonize.proofs.lone_shells.leave_apart.Given as goal

abbrev pub invariant-loop-place : goal.invariant-loop-place
invariant-loop-place l = (1 ≤ l.place) × LeaveApartBefore l.edges.list.now l.place
