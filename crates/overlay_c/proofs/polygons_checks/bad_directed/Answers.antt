use Rattle.std.proofs.Math.IntN.{pos}
use Rattle.overlay_c.specs.Polygons.{IsDirectedItem, IsDirectedItemBefore}
use Rattle.overlay_c.proofs.StripSearch.{told_bad}
use Rattle.overlay_c.proofs.polygons_checks.bad_directed.Goals as goal

pub returns : goal.returns
returns c = told_bad IsDirectedItem _ _ IsDirectedItemBefore _ _ (λ x p. p) (λ x p. p) (λ x y p. p) (λ x y p. p) c.args.items.now (record { ax = pos 0; ay = pos 0; bx = pos 0; by = pos 0 }) c.first_bad.result c.first_bad.ensures
