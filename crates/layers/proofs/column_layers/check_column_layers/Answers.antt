use Rattle.std.proofs.Common.{rules}
use Rattle.layers.specs.Refusals.{IsPlan}
use Rattle.layers.proofs.ColumnLayers.{layer_refuses, plan_refuses, segments_refuse, tiles_refuse}
use Rattle.layers.proofs.column_layers.check_column_layers.Goals as goal

pub returns-in-Some-clause-answer : goal.returns-in-Some-clause-answer
returns-in-Some-clause-answer c = plan_refuses c.args.limits c.args.plan c.args.layers.now c.in-Some.fault c.in-Some.ensures

pub returns-in-Err-clause-answer : goal.returns-in-Err-clause-answer
returns-in-Err-clause-answer c =
    let planned : IsPlan c.args.plan = search rules in
    layer_refuses c.args.limits c.args.plan c.args.layers.now planned c.in-Err.refused c.in-Err.ensures

pub returns-in-Err-few_segments-clause-answer : goal.returns-in-Err-few_segments-clause-answer
returns-in-Err-few_segments-clause-answer c =
    let planned : IsPlan c.args.plan = search rules in
    let h = c.in-Err-few_segments.ensures in
    segments_refuse c.args.limits c.args.plan c.args.layers.now planned c.in-Ok.all c.in-Ok.ensures c.in-Err-few_segments.fault.refusal h.1 h.2

pub returns-in-Err-grid_over_all-clause-answer : goal.returns-in-Err-grid_over_all-clause-answer
returns-in-Err-grid_over_all-clause-answer c =
    let planned : IsPlan c.args.plan = search rules in
    tiles_refuse c.args.limits c.args.plan c.args.layers.now planned c.in-Ok.all c.in-Ok.ensures c.in-Err-grid_over_all.fault c.in-Ok-few_segments.ensures.1 c.in-Err-grid_over_all.ensures
