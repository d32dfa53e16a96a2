use Rattle.std.proofs.lemmas.List.Sorted.{Contains-permutation, IsPermutation-sym}
use Rattle.label_sweep.proofs.directed.sorted_once.Goals as goal

pub returns-clause-same : goal.returns-clause-same
returns-clause-same g c = λ d.
    let given = c.args.edges.items in
    let placed = c.sorted-edges.result.items in
    let moved = c.sorted-edges.ensures.permutation in
    let once = c.in_order.ensures.same d in
    (λ h. Contains-permutation placed given d (IsPermutation-sym given placed moved) (once.0 h), λ h. once.1 (Contains-permutation given placed d moved h))
