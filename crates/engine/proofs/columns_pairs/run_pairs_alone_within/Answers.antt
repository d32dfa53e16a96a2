use Rattle.engine.proofs.PairsRunning.{pairs_end, refused_pairs}
use Rattle.engine.proofs.columns_pairs.run_pairs_alone_within.Goals as goal

pub returns-in-Ok : goal.returns-in-Ok
returns-in-Ok g c =
    let limit = c.args.limits.segments in
    pairs_end limit c.args.op c.args.a.now c.args.b.now c.pairs_by_one.result c.pairs_or_refused.result c.in-Ok.ensures (c.pairs_by_one.ensures limit c.in-Ok.ensures) c.pairs_or_refused.ensures

pub returns-in-Err : goal.returns-in-Err
returns-in-Err g c = refused_pairs c.args.limits.segments c.args.a.now c.args.b.now c.in-Err.refused c.in-Err.ensures
