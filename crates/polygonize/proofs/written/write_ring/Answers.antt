use Rattle.std.proofs.Common.{◌<◌, ◌≤◌, arith, length, ℕ, List}
use Rattle.std.proofs.lemmas.List.Elements.{All-weaker}
use Rattle.polygonize.specs.Written.{IsSound}
use Rattle.polygonize.proofs.RingNumbers.{keeps_shell}
use Rattle.polygonize.proofs.WrittenRings.Writing.{below_inside, ring_placed, ring_written}
use Rattle.polygonize.proofs.written.write_ring.Goals as goal

pub owner_of-owner-requires : goal.owner_of-owner-requires
owner_of-owner-requires g c = below_inside c.args.edges.now c.args.cycle.now c.args.ring c.args.below _ c.requires.one_each c.requires.cycle c.requires.ring c.requires.below

pub write_pieces-requires-clause-long : goal.write_pieces-requires-clause-long
write_pieces-requires-clause-long g c = All-weaker (IsSound c.args.edges.now) (λ (p : List ℕ). 3 ≤ length p) (λ p s. s.long) c.args.ring.pieces.items c.requires.ring.sound

pub returns-clause-written : goal.returns-clause-written
returns-clause-written g c = ring_written c.args.edges.now c.args.cycle.now c.args.ring _ _ c.requires.ring c.in_ok-shell.ensures.added

pub returns-clause-placed : goal.returns-clause-placed
returns-clause-placed g c = ring_placed c.args.edges.now c.args.cycle.now c.args.ring c.args.below c.owner_of-owner.result c.in_ok-shell.shell _ _ _ _ c.requires.cycle c.requires.ring c.requires.below
    c.owner_of-owner.ensures.shell c.owner_of-owner.ensures.hole c.in_ok-shell.ensures.pieces
    (keeps_shell c.args.cycle.now c.args.ring_at.now c.args.number c.args.shells.now c.in_ok-shell.shell c.requires.number c.requires.numbered
    (All-weaker (λ (k : ℕ). k < length c.args.edges.now) (λ k. k < length c.args.ring_at.now) (λ k h. let e = c.requires.one_each in omega (arith, h, e)) c.args.cycle.now c.requires.cycle.inside))
