use Rattle.polygonize.proofs.EdgesBelow.GapsBelow.{by_rise, less_by_side, not_both}
use Rattle.polygonize.proofs.below.is_nearer.Goals as goal

pub returns-then-first-second : goal.returns-then-first-second
returns-then-first-second c = (λ h. less_by_side c.args.e c.args.f c.requires.e_room c.requires.f_room _ _ c.wide_product-first.ensures c.wide_product-second.ensures c.if-first-second.true, λ h. cc)

pub returns-then-second-first : goal.returns-then-second-first
returns-then-second-first c = (λ h. absurd (cc), λ h. absurd (not_both c.args.e c.args.f h (less_by_side c.args.f c.args.e c.requires.f_room c.requires.e_room _ _ c.wide_product-second.ensures c.wide_product-first.ensures c.if-second-first.true)))

pub returns : goal.returns
returns c = by_rise c.args.e c.args.f c.requires.e_room c.requires.f_room _ _ _ _ c.wide_product-first.ensures c.wide_product-second.ensures c.if-first-second.false c.if-second-first.false c.wide_product.ensures c.wide_product-2.ensures
