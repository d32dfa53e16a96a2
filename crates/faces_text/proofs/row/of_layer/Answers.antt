use Rattle.std.proofs.Common.{◌<◌, ◌≤◌, ◌∙◌, List, ap, drop, subst, sym, take, ℕ}
use Rattle.std.specs.Prelude.{All}
use Rattle.faces_text.proofs.Fields.{of_layer_is}
use Rattle.faces_text.proofs.row.of_layer.Goals as goal

pub returns : goal.returns
returns c =
    let xs = c.args.features.now in
    let a = c.count_below.result in
    let b = c.count_below-2.result in
    let rest = c.split_at.ensures.back in
    c.split_at-2.ensures.front ∙ ap (take b) rest
    ∙ sym (of_layer_is xs c.args.first c.args.past a b c.count_below.ensures.below c.count_below.ensures.above
    (subst (λ (ys : List ℕ). All (λ f. f < c.args.past) (take b ys)) rest c.count_below-2.ensures.below)
    (subst (λ (ys : List ℕ). All (λ f. c.args.past ≤ f) (drop b ys)) rest c.count_below-2.ensures.above))
