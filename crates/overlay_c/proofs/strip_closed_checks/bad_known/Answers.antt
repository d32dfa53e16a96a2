use Rattle.std.proofs.Common.{rules}
use Rattle.std.proofs.Math.IntN.{pos}
use Rattle.overlay_c.specs.Polygons.{IsDirectedItemBefore}
use Rattle.overlay_c.specs.StripClosed.{IsKnownItem}
use Rattle.overlay_c.proofs.StripSearch.{told_bad}
use Rattle.overlay_c.proofs.strip_closed_checks.bad_known.Goals as goal

pub returns : goal.returns
returns c = told_bad (IsKnownItem c.args.cuts.now c.args.first c.args.past) _ _ IsDirectedItemBefore _ _ (λ x p. search rules) (λ x p q. search rules) (λ x y p. p) (λ x y p. p) c.args.items.now (record { ax = pos 0; ay = pos 0; bx = pos 0; by = pos 0 }) c.first_bad.result c.first_bad.ensures
