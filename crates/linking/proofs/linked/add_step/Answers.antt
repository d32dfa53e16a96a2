use Rattle.std.proofs.Common.{◌∙◌, ◌++◌, ◌∷◌, [], ap}
use Rattle.std.proofs.lemmas.Result.{on_ok_weaker}
use Rattle.linking.proofs.linked.add_step.Goals as goal

pub returns-clause-link : goal.returns-clause-link
returns-clause-link g c = on_ok_weaker c.add.result (λ k. (c.edge_between.result, c.edge_between.ensures, c.in_ok-push.ensures.items ∙ ap (λ l. c.args.linking.now.links.items ++ l ∷ []) c.link.ensures)) c.add.ensures.counted
