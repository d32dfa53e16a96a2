use Rattle.std.proofs.Common.{map}
use Rattle.program.specs.CommandLine.{faults, held}
use Rattle.program.proofs.cli.request.Goals as goal

pub returns-in-Err : goal.returns-in-Err
returns-in-Err g c = c.fault_from.ensures (faults (map g.S.AsStr.text c.args.words.now)) c.in-Err.ensures.faults (held (map g.S.AsStr.text c.args.words.now))
