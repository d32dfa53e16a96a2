use Rattle.std.proofs.Common.{◌≡◌, take}
use Rattle.routing.specs.Pieces.{candidates_of}
use Rattle.chain_gather.proofs.own.are_candidates.Given as goal

abbrev pub invariant-loop-i : goal.invariant-loop-i
invariant-loop-i l = take l.i l.candidates ≡ candidates_of l.segments (take l.i l.numbers)
