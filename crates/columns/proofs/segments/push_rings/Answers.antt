use Rattle.std.proofs.Common.{◌+◌, refl, arith}
use Rattle.columns.proofs.Reached.{points_known}
use Rattle.columns.proofs.RingWalks.{ring_walked}
use Rattle.columns.proofs.Sound.{sound_between}
use Rattle.columns.proofs.segments.push_rings.Goals as goal

pub push_ring-requires-clause-inside : goal.push_ring-requires-clause-inside
push_ring-requires-clause-inside g c = omega (arith, points_known c.args.columns.now c.requires.well (c.loop-ring.ring + 1), c.offset_at-past.ensures.value)

pub push_ring-requires-clause-sound : goal.push_ring-requires-clause-sound
push_ring-requires-clause-sound g c =
    sound_between c.args.columns.now c.offset_at-from.result c.offset_at-past.result c.loop-ring.ring c.offset_at-from.ensures.value c.offset_at-past.ensures.value (c.requires.sound c.loop-ring.ring (omega arith) (omega arith))

pub loop-ring-preserved : goal.loop-ring-preserved
loop-ring-preserved g c =
    let sound = sound_between c.args.columns.now c.offset_at-from.result c.offset_at-past.result c.loop-ring.ring c.offset_at-from.ensures.value c.offset_at-past.ensures.value (c.requires.sound c.loop-ring.ring (omega arith) (omega arith)) in
    record {
      added = ring_walked c.args.layer c.args.columns.now c.args.rings.first c.loop-ring.ring (c.loop-ring.ring + 1) c.offset_at-from.result c.offset_at-past.result c.args.segments.now.items c.loop-ring.segments.items c.push_ring.new.segments.items
          (omega arith) refl c.offset_at-from.ensures.value c.offset_at-past.ensures.value sound c.loop-ring.invariant.added c.in_ok-push_ring.ensures.added;
      in_limit = c.in_ok-push_ring.ensures.in_limit;
    }
