use Rattle.std.proofs.lemmas.List.{take_all}
use Rattle.wkt.specs.Canonical.{ring_text}
use Rattle.wkt.specs.Readable.{IsReadable}
use Rattle.wkt.proofs.Writing.{text_more, all_more}
use Rattle.wkt.proofs.write.push_more_rings.Goals as goal

pub loop-ring-preserved : goal.loop-ring-preserved
loop-ring-preserved g c = (
  text_more ring_text c.args.rings.now c.loop-ring.ring-index c.ring-item.result c.ring-item.result c.args.text.now.items c.loop-ring.text.items c.extend_from_slice.new.self.items c.push_ring.new.text.items c.loop-ring-test.true c.ring-item.is c.loop-ring.invariant.0 c.in_ok-extend_from_slice.ensures.items c.in_ok-push_ring.ensures.text,
  all_more IsReadable c.args.rings.now c.loop-ring.ring-index c.ring-item.result c.ring-item.result c.loop-ring-test.true c.ring-item.is c.loop-ring.invariant.1 c.in_ok-push_ring.ensures.readable,
)

pub returns-clause-text : goal.returns-clause-text
returns-clause-text g c = rw (take_all c.loop-ring.ring-index c.args.rings.now c.loop-ring-test.false) at c.loop-ring.invariant.0

pub returns-clause-readable : goal.returns-clause-readable
returns-clause-readable g c = rw (take_all c.loop-ring.ring-index c.args.rings.now c.loop-ring-test.false) at c.loop-ring.invariant.1
