use Rattle.std.proofs.Common.{◌<◌, arith, length, rules}
use Rattle.std.proofs.Math.IntN.{pos}
use Rattle.std.proofs.lemmas.Bool.{cases_from_iff, eq-eqb}
use Rattle.std.proofs.lemmas.List.Sorted.{IsPartitionPoint-from_clause}
use Rattle.overlay_c.specs.declared.strip_items.OverlayCounted.{OverlayCounted}
use Rattle.overlay_c.specs.Strips.{IsCounted, IsCountedBefore, IsOther}
use Rattle.overlay_c.proofs.StripLists.{all_pairs}
use Rattle.overlay_c.proofs.StripSearch.{SameEnds, apart, counted_answer, counted_test, counted_told, counted_trans, counted_yes, found_at, other_or_not, parted, same_moves, same_unlike}
use Rattle.overlay_c.proofs.strip_contradictions.is_other.Goals as goal

pub returns-then-place-edges : goal.returns-then-place-edges
returns-then-place-edges c =
    let edges = c.args.edges.now in
    let t = c.args.item in
    let place = c.partition_point-place.result in
    let up = all_pairs IsCounted IsCountedBefore edges c.requires counted_trans in
    let point = IsPartitionPoint-from_clause (λ (x : OverlayCounted). counted_test x t) edges place c.partition_point-place.ensures.partitioned
    (parted IsCountedBefore counted_trans counted_test counted_yes counted_told edges up t) (λ a r f k. (counted_answer a.0.now t r (search rules), search rules)) in
    let at = found_at IsCountedBefore counted_trans counted_test counted_yes counted_told edges up t place point.0 point.1 (λ (x : OverlayCounted). SameEnds x t) (same_unlike t) (same_moves t) in
    let past = c.if-place-edges.true in
    cases_from_iff {P = IsOther edges t} (
      λ e k d inside same. let q = at k d inside same in omega (arith, q, inside, past),
      λ _. eq-eqb place (length edges) past,
    )

pub returns-else-place-edges : goal.returns-else-place-edges
returns-else-place-edges c =
    let edges = c.args.edges.now in
    let t = c.args.item in
    let none : OverlayCounted = record { px = pos 0; py = pos 0; qx = pos 0; qy = pos 0; in_a = 0; in_b = 0 } in
    let place = c.partition_point-place.result in
    let up = all_pairs IsCounted IsCountedBefore edges c.requires counted_trans in
    let point = IsPartitionPoint-from_clause (λ (x : OverlayCounted). counted_test x t) edges place c.partition_point-place.ensures.partitioned
    (parted IsCountedBefore counted_trans counted_test counted_yes counted_told edges up t) (λ a r f k. (counted_answer a.0.now t r (search rules), search rules)) in
    let at = found_at IsCountedBefore counted_trans counted_test counted_yes counted_told edges up t place point.0 point.1 (λ (x : OverlayCounted). SameEnds x t) (same_unlike t) (same_moves t) in
    let inside : place < length edges = apart place (length edges) c.partition_point-place.ensures.bound c.if-place-edges.false in
    other_or_not edges t place none inside at c.has_same_ends.result c.has_same_ends.ensures
