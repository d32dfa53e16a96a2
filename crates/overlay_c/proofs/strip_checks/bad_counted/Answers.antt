use Rattle.std.proofs.Math.IntN.{pos}
use Rattle.overlay_c.specs.Strips.{IsCounted, IsCountedBefore}
use Rattle.overlay_c.proofs.StripSearch.{told_bad}
use Rattle.overlay_c.proofs.strip_checks.bad_counted.Goals as goal

pub returns : goal.returns
returns c = told_bad IsCounted _ _ IsCountedBefore _ _ (λ x p. p) (λ x p. p) (λ x y p. p) (λ x y p. p) c.args.items.now (record { px = pos 0; py = pos 0; qx = pos 0; qy = pos 0; in_a = 0; in_b = 0 }) c.first_bad.result c.first_bad.ensures
