use Rattle.std.proofs.Common.{refl}
use Rattle.geom.proofs.Doubling.{difference_back, left_is_double, sum_back}
use Rattle.face_label.proofs.odd.left_probe.Goals as goal

pub returns-clause-value : goal.returns-clause-value
returns-clause-value c =
    let u = c.requires.a_in in
    let v = c.requires.b_in in
    let d = left_is_double c.args.u c.args.v _ _ _ _ (sum_back c.args.u.x c.args.v.x u.x_in v.x_in) (sum_back c.args.u.y c.args.v.y u.y_in v.y_in) (difference_back c.args.u.y c.args.v.y u.y_in v.y_in) (difference_back c.args.v.x c.args.u.x v.x_in u.x_in) in
    record { x_is = d.0; y_is = d.1; n_is = refl }
