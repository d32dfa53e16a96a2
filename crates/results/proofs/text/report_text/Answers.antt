use Rattle.std.proofs.Common.{ℕ, List, ap, arith, get_or}
use Rattle.results.specs.Texts.{totals_of}
use Rattle.results.proofs.Lines.{lines_more}
use Rattle.results.proofs.text.report_text.Goals as goal

pub loop-number-preserved : goal.loop-number-preserved
loop-number-preserved g c =
    let same = c.deref-tile-items.ensures.value in
    lines_more (totals_of c.args.report.now) _ _ c.args.report.now.tiles.items c.loop-number.number (get_or c.deref-tile-items.result.now c.loop-number.number (0, 0)) (omega (arith, c.deref-tile-items.ensures.len, c.args.report.now.tiles.ok.0))
    (ap (λ (l : List (ℕ × ℕ)). get_or l c.loop-number.number (0, 0)) same) c.loop-number.invariant c.in_ok-push_tile.ensures
