use Rattle.std.proofs.Common.{rules, ◌≡◌, ◌∙◌, of_z, subst, sym, to_z}
use Rattle.std.specs.Int.{w128}
use Rattle.cover_law.specs.Areas.{row_area}
use Rattle.rows.specs.declared.parts.Row.{Row}
use Rattle.rows.specs.Made.{row_of}
use Rattle.engine.proofs.RowLines.{row_more}
use Rattle.engine.proofs.face_text.part_text.Goals as goal

pub loop-row-preserved : goal.loop-row-preserved
loop-row-preserved g c =
    let row = c.row-item.result in
    let area : row.twice_area ≡ row_area (row_of row) = subst (λ (r : Row _). r.twice_area ≡ row_area (row_of r)) (sym c.row-item.is) (c.requires.areas c.loop-row.row-index row c.loop-row-test.true) in
    let same : to_z w128 (of_z w128 row.twice_area) ≡ row.twice_area = search rules in
    row_more c.args.counts.now c.args.rows.now c.loop-row.row-index row c.loop-row.text.items c.push_row.new.text.items c.loop-row-test.true c.row-item.is c.loop-row.invariant
    (c.in_ok-push_row.ensures (row_of row) (sym c.deref.ensures.value) (sym c.deref-in-loop-row.ensures.value) (same ∙ area))
