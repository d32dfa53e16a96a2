use Rattle.std.proofs.Common.{List, arith, refl, subst, sym}
use Rattle.std.proofs.lemmas.List.{take_more}
use Rattle.std.proofs.lemmas.Option.{slice_get-get_or}
use Rattle.columns.specs.declared.layout.Columns.{Columns}
use Rattle.layers.specs.ColumnLayers.{AreSurveyed}
use Rattle.layers.proofs.column_layers.survey_layers.Goals as goal

pub returns-in-Err : goal.returns-in-Err
returns-in-Err c = (
  c.loop-number.number,
  c.in-Err.fault,
  refl,
  record {
    layer = _;
    is_at = slice_get-get_or c.args.layers.now c.loop-number.number _ c.loop-number-test.true;
    refused = c.in-Err.ensures.answer;
    accepted = c.loop-number.invariant.all.accepted;
  },
)

pub loop-number-preserved : goal.loop-number-preserved
loop-number-preserved c = record {
  all = subst (λ (ls : List Columns). AreSurveyed ls c.and-all.result) (sym (take_more c.args.layers.now c.loop-number.number _ c.loop-number-test.true))
      (c.and-all.ensures.surveyed _ _ c.loop-number.invariant.all c.in-Ok.ensures.answer.0 c.in-Ok.ensures.answer.1);
  few = omega (arith, c.and-all.ensures.few, c.loop-number.invariant.few);
}
