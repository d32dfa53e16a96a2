use Rattle.std.proofs.Common.{ap, sym}
use Rattle.routing.specs.declared.on_line.OnLine.{OnLine}
use Rattle.routing.proofs.CuttingLaws.{marks_none, marks_sorted}
use Rattle.routing.proofs.cutting.marks_of.Goals as goal
use Rattle.routing.proofs.cutting.marks_of.Goals.{then-not-is_again+in_ok-push_ends, else-not-is_again}

pub loop-place-init : goal.loop-place-init
loop-place-init g c = rw c.new-marks.ensures.items (marks_none c.args.table.now)

pub loop-place-preserved : goal.loop-place-preserved
loop-place-preserved g c =
    let table = c.args.table.now in
    elim c.if-not-is_again.branch [
      | then-not-is_again+in_ok-push_ends w ↦ rw w.marks-is (w.in_ok-push_ends.ensures table w.index-table-place.result (c.loop-place.place, c.loop-place-test.true, sym w.index-table-place.is) (ap (λ (x : OnLine). x.edge) w.index-table-place.is) c.loop-place.invariant)
      | else-not-is_again w ↦ rw w.marks-is c.loop-place.invariant
    ]

pub returns : goal.returns
returns g c = marks_sorted c.args.table.now c.loop-place.marks.items c.sorted-marks.result.items c.dedup.new.self.items c.sorted-marks.ensures.permutation c.dedup.ensures.filtered c.loop-place.invariant
