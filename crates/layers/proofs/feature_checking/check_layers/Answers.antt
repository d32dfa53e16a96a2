use Rattle.std.proofs.Common.{map}
use Rattle.std.proofs.lemmas.Result.{err_from_is_err_and}
use Rattle.layers.proofs.LayersRefused.{segments_refused, tiles_refused}
use Rattle.layers.proofs.feature_checking.check_layers.Goals as goal

pub returns-in_err-segments-clause-answer : goal.returns-in_err-segments-clause-answer
returns-in_err-segments-clause-answer g c =
    let p = err_from_is_err_and c.from_residual.result c.from_residual.ensures.1 in
    let h = c.in_err-segments.ensures in
    rw (p.1, p.2) (segments_refused c.args.limits c.args.plan (map (λ t. t.now) c.args.layers.now) c.requires.plan c.args.read.now c.requires.read c.in_err-segments.field-0.0 h.0 h.1 h.2)

pub returns-in_err-grid-clause-answer : goal.returns-in_err-grid-clause-answer
returns-in_err-grid-clause-answer g c =
    let p = err_from_is_err_and c.from_residual-in_err-grid.result c.from_residual-in_err-grid.ensures.1 in
    rw (p.1, p.2) (tiles_refused c.args.limits c.args.plan (map (λ t. t.now) c.args.layers.now) c.requires.plan c.args.read.now c.requires.read c.in_err-grid.field-0.0 c.in_ok-segments.ensures.1 c.in_err-grid.ensures)
