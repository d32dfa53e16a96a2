use Rattle.std.proofs.Common.{◌^◌, ℤ, sym, subst}
use Rattle.geom.specs.Limit.{IsWithin}
use Rattle.geom.proofs.Doubling.{back}
use Rattle.polygonize.proofs.EdgesBelow.GapsBelow.{small_distance}
use Rattle.polygonize.proofs.EdgesBelow.Ladders.{under_test}
use Rattle.polygonize.proofs.ladder.is_under.Goals as goal

pub returns : goal.returns
returns c = under_test c.args.e.now c.args.f.now c.args.column _ c.wide_product-first.result c.wide_product-second.result c.side.result c.side-2.result c.vector_to.result.dx c.vector_to-2.result.dx (back c.args.column c.requires.column_in)
    c.side.ensures.value c.side-2.ensures.value c.vector_to.ensures.dx c.vector_to-2.ensures.dx c.side.ensures.small c.side-2.ensures.small
    (subst (λ (t : ℤ). IsWithin (2 ^ 29) t) (sym c.vector_to.ensures.dx) (small_distance c.args.e.now.q.x c.args.e.now.p.x c.requires.e_in.b_in.x_in c.requires.e_in.a_in.x_in))
    (subst (λ (t : ℤ). IsWithin (2 ^ 29) t) (sym c.vector_to-2.ensures.dx) (small_distance c.args.f.now.q.x c.args.f.now.p.x c.requires.f_in.b_in.x_in c.requires.f_in.a_in.x_in))
    c.wide_product-first.ensures c.wide_product-second.ensures
