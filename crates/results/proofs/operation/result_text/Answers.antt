use Rattle.points_law.proofs.RoundVertex.{closes}
use Rattle.results.proofs.Results.{directed_in}
use Rattle.results.proofs.Answering.{if_both}
use Rattle.results.proofs.operation.result_text.Goals as goal

pub line_along-requires : goal.line_along-requires
line_along-requires g c = record {
  closes = closes c.args.op c.args.counted.now c.requires c.in_ok-directed.directed c.in_ok-directed.ensures;
  in_limit = directed_in c.args.op c.args.counted.now c.in_ok-directed.directed c.requires.in_limit c.in_ok-directed.ensures;
}

pub returns : goal.returns
returns g c = if_both c.line_along.result _ _ _ (λ text h u. h c.args.op c.args.counted.now c.requires c.in_ok-directed.ensures) c.line_along.ensures c.line_along.ensures
