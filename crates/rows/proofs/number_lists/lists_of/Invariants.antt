use Rattle.std.proofs.Common.{◌≡◌, ◌+◌, drop, map}
use Rattle.std.specs.Prelude.{sum_by}
use Rattle.rows.specs.Made.{row_of}
use Rattle.rows.proofs.Behind.{AreListedTo}
use Rattle.rows.proofs.number_lists.lists_of.Given as goal

abbrev pub invariant-loop-count : goal.invariant-loop-count
invariant-loop-count g l = record {
  listed : AreListedTo l.counts (map row_of l.rows) l.count-index l.first l.lists;
  counted : l.first + sum_by (λ c. c) (drop l.count-index l.counts) ≡ sum_by (λ c. c) l.counts;
}
