use Rattle.std.proofs.Common.{rules}
use Rattle.std.proofs.Math.IntN.{pos}
use Rattle.overlay_c.specs.Strips.{IsLineBefore, IsStripLine}
use Rattle.overlay_c.proofs.StripSearch.{told_bad}
use Rattle.overlay_c.proofs.strip_checks.bad_line.Goals as goal

pub returns : goal.returns
returns c = told_bad (IsStripLine c.args.cuts.now c.args.strip) _ _ IsLineBefore _ _ (λ x p. search rules) (λ x p q. search rules) (λ x y p. search rules) (λ x y p q. search rules) c.args.items.now (record { number = 0; layer = 0; ax = pos 0; ay = pos 0; bx = pos 0; by = pos 0 }) c.first_bad.result c.first_bad.ensures
