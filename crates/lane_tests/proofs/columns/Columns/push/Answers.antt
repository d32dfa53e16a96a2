use Rattle.std.proofs.Common.{◌++◌, ◌∷◌, [], ap, ◌∙◌}
use Rattle.lane_tests.proofs.PairLists.{pushed}
use Rattle.lane_tests.proofs.columns.Columns.push.Goals as goal

pub returns-in-Ok-clause-ok : goal.returns-in-Ok-clause-ok
returns-in-Ok-clause-ok g c =
    let e = c.in-Ok.ensures in
    pushed _ _ _ _ _ _ _ _ c.args.p.x c.args.p.y c.args.q.x c.args.q.y c.self.invariant e.px e.py e.qx e.qy ∙ ap (λ xs. xs ++ (c.args.p, c.args.q) ∷ []) c.self.view_is
