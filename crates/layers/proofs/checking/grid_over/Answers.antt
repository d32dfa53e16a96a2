use Rattle.layers.proofs.checking.grid_over.Goals as goal

pub returns-in-Ok : goal.returns-in-Ok
returns-in-Ok c = record {
  over = record { bounds = c.joint_bounds.result; joint = c.joint_bounds.ensures.joint; is_grid = c.in-Ok.ensures.exact.1 };
  few = c.in-Ok.ensures.exact.2;
}
