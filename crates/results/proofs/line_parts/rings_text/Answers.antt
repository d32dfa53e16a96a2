use Rattle.std.proofs.Common.{arith}
use Rattle.results.proofs.LineParts.{no_part, part_more}
use Rattle.results.proofs.line_parts.rings_text.Goals as goal

pub loop-number-init : goal.loop-number-init
loop-number-init g c = no_part c.args.rings.now c.args.from c.in_ok-text.text.items c.in_ok-text.ensures.items

pub loop-number-preserved : goal.loop-number-preserved
loop-number-preserved g c = part_more c.args.rings.now c.args.from c.loop-number.number c.loop-number.text.items c.push_next_ring.new.text.items c.is_hole.result c.in_ok-ring.ring
    c.loop-number.auto.number (omega (arith, c.loop-number-test.true, c.requires.inside)) c.is_hole.ensures c.in_ok-ring.ensures c.loop-number.invariant c.in_ok-push_next_ring.ensures.text c.in_ok-push_next_ring.ensures.readable
