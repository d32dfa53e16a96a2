use Rattle.std.proofs.Common.{rules}
use Rattle.std.proofs.Math.IntN.{pos}
use Rattle.overlay_c.specs.Strips.{AnyOrder}
use Rattle.overlay_c.specs.StripLabels.{BeginsLeft}
use Rattle.overlay_c.proofs.StripSearch.{told_bad}
use Rattle.overlay_c.proofs.strip_labels_checks.late.Goals as goal

pub returns : goal.returns
returns c = told_bad (BeginsLeft c.args.own.now) _ _ AnyOrder _ _ (λ x p. search rules) (λ x p q. search rules) (λ x y p. search rules) (λ x y p q. search rules) c.args.crossing.now (record { px = pos 0; py = pos 0; qx = pos 0; qy = pos 0; in_a = 0; in_b = 0 }) c.first_bad.result c.first_bad.ensures
