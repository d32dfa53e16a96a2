use Rattle.std.proofs.Common.{◌≡◌, ◌++◌, take}
use Rattle.results.specs.Texts.{totals_of, tile_lines}
use Rattle.results.proofs.text.report_text.Given as goal

abbrev pub invariant-loop-number : goal.invariant-loop-number
invariant-loop-number g l = l.text.items ≡ totals_of l.report ++ tile_lines 0 (take l.number l.report.tiles.items)
