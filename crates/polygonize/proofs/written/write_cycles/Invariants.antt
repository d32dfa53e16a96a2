use Rattle.std.proofs.Common.{◌≡◌, drop, length}
use Rattle.geom.specs.Holes.{AreGrounded}
use Rattle.geom.specs.NodedEdges.{AreNodedEdges}
use Rattle.polygonize.specs.Next.{rings_of}
use Rattle.polygonize.proofs.WrittenRings.CyclesWritten.{AreFilled}
use Rattle.polygonize.specs.Placed.{rings_in}
use Rattle.polygonize.specs.RingNumbers.{kept_by}
use Rattle.polygonize.proofs.WrittenRings.Writing.{Writing}
use Rattle.polygonize.proofs.written.write_cycles.Given as goal

abbrev pub invariant-loop-ring : goal.invariant-loop-ring
invariant-loop-ring g l = (drop l.number l.fn.rings.items ≡ l.ring-iterator.rest.items) × Writing l.edges.list.now l.cycles l.number (rings_in l.written.items) × (length l.shells.items ≡ length l.cycles) × (AreNodedEdges l.edges.list.now → AreGrounded l.edges.list.now (rings_of l.edges.list.now l.cycles) → AreFilled l.edges.list.now l.cycles l.number (kept_by l.ring_at l.shells.items) l.written.items)
