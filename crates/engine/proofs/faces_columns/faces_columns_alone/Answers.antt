use Rattle.engine.specs.Runs.{alone}
use Rattle.layers.specs.declared.columns_refused.FacesColumnsRefused.TheVariants.{Run}
use Rattle.engine.proofs.FaceColumns.{declined_as_given, made_as_given, refused_declines}
use Rattle.engine.proofs.faces_columns.faces_columns_alone.Goals as goal

pub returns-in-Err-clause-answer : goal.returns-in-Err-clause-answer
returns-in-Err-clause-answer g c = refused_declines c.args.limits (alone c.args.side) c.args.layers.now c.in-Err.refused c.in-Err.ensures.answer

pub returns-in-Ok-columns_by_segments-clause-answer : goal.returns-in-Ok-columns_by_segments-clause-answer
returns-in-Ok-columns_by_segments-clause-answer g c =
    let same = c.in-Ok.ensures.same in
    made_as_given c.args.limits c.in-Ok.checked.limits (alone c.args.side) c.in-Ok.checked.plan c.args.layers.now same.0 same.1 c.in-Ok-columns_by_segments.made c.in-Ok-columns_by_segments.ensures.answer

pub returns-in-Err-columns_by_segments-clause-answer : goal.returns-in-Err-columns_by_segments-clause-answer
returns-in-Err-columns_by_segments-clause-answer g c =
    let same = c.in-Ok.ensures.same in
    declined_as_given c.args.limits c.in-Ok.checked.limits (alone c.args.side) c.in-Ok.checked.plan c.args.layers.now (Run c.in-Err-columns_by_segments.fault.refusal) same.0 same.1 c.in-Err-columns_by_segments.ensures.answer
