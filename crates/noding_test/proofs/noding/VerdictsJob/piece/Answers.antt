use Rattle.noding_test.proofs.EdgeBins.{bin_is_near}
use Rattle.noding_test.proofs.Least.{ascends}
use Rattle.noding_test.proofs.noding.VerdictsJob.piece.Goals as goal

pub verdict-requires-clause-ascending : goal.verdict-requires-clause-ascending
verdict-requires-clause-ascending g c = ascends c.args.self.now.counted.now c.args.self.now.ascending

pub verdict-requires-clause-near : goal.verdict-requires-clause-near
verdict-requires-clause-near g c =
    let job = c.args.self.now in
    bin_is_near job.grid.now job.counted.now job.bins.now c.args.number c.bin.new.out.items c.deref.result.now job.are_bins c.in_ok-bin.ensures.ok c.deref.ensures.value
