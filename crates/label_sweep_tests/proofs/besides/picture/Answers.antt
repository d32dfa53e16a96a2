use Rattle.std.proofs.Common.{refl}
use Rattle.label_sweep_tests.proofs.ThreeEdges.{are_layers}
use Rattle.label_sweep_tests.proofs.besides.picture.Goals as goal

pub returns : goal.returns
returns g c = rw (c.in_ok-push-3.ensures.items, c.in_ok-push-2.ensures.items, c.in_ok-push.ensures.items, c.new-counted.ensures.items)
    (are_layers _ _ _ (record { p_x = refl; p_y = refl; q_x = refl; q_y = refl }) (record { p_x = refl; p_y = refl; q_x = refl; q_y = refl }) (record { p_x = refl; p_y = refl; q_x = refl; q_y = refl }))
