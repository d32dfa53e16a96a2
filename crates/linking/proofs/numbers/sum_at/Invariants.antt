use Rattle.std.proofs.Common.{◌≡◌, get_or, take}
use Rattle.std.specs.Prelude.{sum_by}
use Rattle.linking.proofs.numbers.sum_at.Given as goal

abbrev pub invariant-loop-list : goal.invariant-loop-list
invariant-loop-list g l = l.sum ≡ sum_by (λ v. get_or v.items l.tile 0) (take l.list-index l.lists)
