use Rattle.std.proofs.Common.{◌≡◌, ◌∙◌, ◌++◌, ◌∷◌, [], ◌+◌, List, refl, sym, ap, subst, arith}
use Rattle.std.specs.Prelude.{slice_range}
use Rattle.geom.specs.declared.point.Pt.{Pt}
use Rattle.columns.specs.Layout.{points_of}
use Rattle.columns.specs.Reach.{IsPointBox}
use Rattle.columns.proofs.Lists.{point_more, single}
use Rattle.columns.proofs.RingBoxes.{one_more, one_point}
use Rattle.columns.proofs.outline.box_of.Goals as goal

pub loop-number-init : goal.loop-number-init
loop-number-init c =
    let ps = points_of c.args.points.now in
    let p = c.at-first.result in
    subst (λ (s : List Pt). IsPointBox s c.spanned_by-bounds.result) (sym (single ps c.args.from (c.args.from + 1) p (omega arith) refl ∙ ap (λ (q : Pt). q ∷ []) (sym (c.at-first.ensures p))))
    (one_point p c.spanned_by-bounds.result c.spanned_by-bounds.ensures.lo c.spanned_by-bounds.ensures.hi)

pub loop-number-preserved : goal.loop-number-preserved
loop-number-preserved c =
    let ps = points_of c.args.points.now in
    let n = c.loop-number.number in
    let p = c.at.result in
    subst (λ (s : List Pt). IsPointBox s c.with-bounds.result) (sym (point_more ps c.args.from n (n + 1) p (omega arith) (omega arith) refl ∙ ap (λ (q : Pt). slice_range ps c.args.from n ++ q ∷ []) (sym (c.at.ensures p))))
    (one_more (slice_range ps c.args.from n) c.loop-number.bounds c.with-bounds.result p c.loop-number.invariant
    (record { left = c.with-bounds.ensures.left; below = c.with-bounds.ensures.below; right = c.with-bounds.ensures.right; above = c.with-bounds.ensures.above }))

pub returns : goal.returns
returns c =
    let last : c.loop-number.number ≡ c.args.past = omega arith in
    subst (λ n. IsPointBox (slice_range (points_of c.args.points.now) c.args.from n) c.loop-number.bounds) last c.loop-number.invariant
