use Rattle.std.proofs.Common.{List, map}
use Rattle.clap.specs.Words.{Row}
use Rattle.program.specs.NodedLine.{noded_faults}
use Rattle.program.proofs.NodedRefused.{not_taken}
use Rattle.program.proofs.noded_cli.noded_request.Goals as goal

pub returns-in-Err : goal.returns-in-Err
returns-in-Err g c =
    not_taken (map g.S.AsStr.text c.args.words.now) c.fault_from.result
    (λ (rows : List Row). c.fault_from.ensures (noded_faults (map g.S.AsStr.text c.args.words.now)) c.in-Err.ensures.faults rows)
