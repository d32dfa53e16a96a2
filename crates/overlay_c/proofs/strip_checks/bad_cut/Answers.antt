use Rattle.std.proofs.Common.{rules}
use Rattle.std.proofs.Math.IntN.{pos}
use Rattle.overlay_c.specs.Strips.{IsCut, IsCutBefore}
use Rattle.overlay_c.proofs.StripSearch.{told_bad}
use Rattle.overlay_c.proofs.strip_checks.bad_cut.Goals as goal

pub returns : goal.returns
returns c = told_bad IsCut _ _ IsCutBefore _ _ (λ x p. search rules) (λ x p q. search rules) (λ x y p. search rules) (λ x y p q. search rules) c.args.cuts.now (pos 0) c.first_bad.result c.first_bad.ensures
