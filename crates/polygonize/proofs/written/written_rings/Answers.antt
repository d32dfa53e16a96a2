use Rattle.std.proofs.lemmas.Result.{IfOk-weaker}
use Rattle.polygonize.specs.Next.{rings_of}
use Rattle.polygonize.specs.Placed.{AreAllWritten, AreWritten}
use Rattle.polygonize.proofs.written.written_rings.Goals as goal

pub returns-clause-written : goal.returns-clause-written
returns-clause-written g c = λ noded grounded.
    let rings = rings_of c.args.edges.list.now c.in_ok-cycles.field-0.cycles in
    IfOk-weaker c.write_cycles.result (λ found. AreWritten c.args.edges.list.now rings found.items) (λ found. AreAllWritten c.args.edges.list.now found.items) (λ found h. (rings, h))
    (c.write_cycles.ensures.written noded (grounded rings c.in_ok-cycles.ensures.rings))

pub returns-clause-edges : goal.returns-clause-edges
returns-clause-edges g c = c.write_cycles.ensures.edges

pub returns-clause-sound : goal.returns-clause-sound
returns-clause-sound g c = c.write_cycles.ensures.sound

pub write_cycles-requires-clause-cycles : goal.write_cycles-requires-clause-cycles
write_cycles-requires-clause-cycles g c = c.in_ok-cycles.ensures.places

pub write_cycles-requires-clause-rings : goal.write_cycles-requires-clause-rings
write_cycles-requires-clause-rings g c = c.in_ok-cycles.ensures.rings

pub write_cycles-requires-clause-cut : goal.write_cycles-requires-clause-cut
write_cycles-requires-clause-cut g c = rw c.count.ensures at c.in_ok-rings.ensures

pub write_cycles-requires-clause-numbers : goal.write_cycles-requires-clause-numbers
write_cycles-requires-clause-numbers g c = rw c.deref-3.ensures.value c.in_ok-cycles.ensures.numbers

pub write_cycles-requires-clause-found : goal.write_cycles-requires-clause-found
write_cycles-requires-clause-found g c = rw c.deref-4.ensures.value c.in_ok-below.ensures

pub write_cycles-requires-clause-its_edges : goal.write_cycles-requires-clause-its_edges
write_cycles-requires-clause-its_edges g c = c.in_ok-cycles.ensures.edges

pub edges_below-requires-clause-cycles : goal.edges_below-requires-clause-cycles
edges_below-requires-clause-cycles g c = c.in_ok-cycles.ensures.places

pub edges_below-requires-clause-cut : goal.edges_below-requires-clause-cut
edges_below-requires-clause-cut g c = rw c.deref-2.ensures.value (rw c.count.ensures at c.in_ok-rings.ensures)
