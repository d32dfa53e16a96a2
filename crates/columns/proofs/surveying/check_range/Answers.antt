use Rattle.std.proofs.Common.{◌∙◌, ap, arith}
use Rattle.std.specs.Prelude.{option_map}
use Rattle.columns.specs.declared.fault.ColumnsFault.TheVariants.{PointRange}
use Rattle.columns.proofs.Reached.{points_known}
use Rattle.columns.proofs.Sound.{range_is}
use Rattle.columns.proofs.surveying.check_range.Goals as goal

pub first_outside-requires : goal.first_outside-requires
first_outside-requires c = omega (arith, points_known c.args.columns.now c.requires.well c.args.rings.past, c.offset_at-past.ensures.value)

pub returns-in-Some : goal.returns-in-Some
returns-in-Some c =
    range_is c.args.columns.now c.requires.well c.args.rings c.requires.rings c.offset_at-from.result c.offset_at-past.result c.offset_at-from.ensures.value c.offset_at-past.ensures.value c.first_outside.result c.first_outside.ensures
    ∙ ap (option_map (λ at. PointRange at)) c.in-Some.is

pub returns-in-None : goal.returns-in-None
returns-in-None c =
    range_is c.args.columns.now c.requires.well c.args.rings c.requires.rings c.offset_at-from.result c.offset_at-past.result c.offset_at-from.ensures.value c.offset_at-past.ensures.value c.first_outside.result c.first_outside.ensures
    ∙ ap (option_map (λ at. PointRange at)) c.in-None.is
