use Rattle.std.proofs.Common.{subst, sym, ◌∙◌}
use Rattle.geom.specs.declared.rect.Rect.{Rect}
use Rattle.box_lanes.specs.Sides.{LiesWithin}
use Rattle.box_lanes.proofs.HullLaws.{same_hull, widened_by, widened_keeps}
use Rattle.box_lanes.proofs.boxes.widened.Goals as goal

pub returns-in-Some-clause-added : goal.returns-in-Some-clause-added
returns-in-Some-clause-added c =
    let f = c.with.ensures in
    let s = c.with-in-Some.ensures in
    widened_by c.in-Some.hull c.with.result c.with-in-Some.result c.args.rect.now f.left f.below f.right f.above s.left s.below s.right s.above

pub returns-in-Some-clause-held : goal.returns-in-Some-clause-held
returns-in-Some-clause-held c = λ h b e w.
    let f = c.with.ensures in
    let s = c.with-in-Some.ensures in
    widened_keeps c.in-Some.hull c.with.result c.with-in-Some.result c.args.rect.now f.left f.below f.right f.above s.left s.below s.right s.above b
    (subst (λ (r : Rect). LiesWithin r b) (same_hull h c.in-Some.hull (sym e ∙ c.in-Some.is)) w)
