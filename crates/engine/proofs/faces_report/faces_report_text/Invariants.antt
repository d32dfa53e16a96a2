use Rattle.std.proofs.Common.{◌≡◌, ◌++◌, take}
use Rattle.engine.specs.FaceWords.{faces_totals_of}
use Rattle.results.specs.Texts.{tile_lines}
use Rattle.engine.proofs.faces_report.faces_report_text.Given as goal

abbrev pub invariant-loop-number : goal.invariant-loop-number
invariant-loop-number g l = l.text.items ≡ faces_totals_of l.report ++ tile_lines 0 (take l.number l.report.tiles.items)
