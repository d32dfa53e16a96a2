use Rattle.std.proofs.Common.{rules}
use Rattle.std.proofs.Math.IntN.{pos}
use Rattle.overlay_c.specs.Strips.{AnyOrder, IsKnown}
use Rattle.overlay_c.proofs.StripSearch.{told_bad}
use Rattle.overlay_c.proofs.strip_contradictions.lost.Goals as goal

pub returns : goal.returns
returns c = told_bad (IsKnown c.args.carried.now) _ _ AnyOrder _ _ (λ x p. search rules) (λ x p q. search rules) (λ x y p. search rules) (λ x y p q. search rules) c.args.left.now (record { number = 0; layer = 0; has_pixel = 0; x = pos 0; y = pos 0 }) c.first_bad.result c.first_bad.ensures
