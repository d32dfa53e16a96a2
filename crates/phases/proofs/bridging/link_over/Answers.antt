use Rattle.std.proofs.Common.{ap, subst}
use Rattle.std.specs.Prelude.{Some}
use Rattle.geom.proofs.Lists.{some_same}
use Rattle.geom.specs.declared.point.Pt.{Pt}
use Rattle.distinct.specs.declared.copies.Copies.{Copies}
use Rattle.linking.specs.Links.{IsBetween}
use Rattle.linking.specs.declared.link.Link.{Link}
use Rattle.linking.proofs.CopyLinks.{one_is}
use Rattle.phases.proofs.bridging.link_over.Goals as goal

pub returns-clause-some : goal.returns-clause-some
returns-clause-some c p is apart =
    let w = c.in_ok-pixel.was in
    let edge = c.in_ok-edge.edge in
    let made : Copies → Link = λ d. record { edge = edge; copies = d } in (
      edge,
      subst (λ (q : Pt). IsBetween edge q c.args.there.pixel) (some_same w is) c.in_ok-edge.ensures,
      ap (λ (d : Copies). Some (made d)) (one_is c.args.line.layer c.one.result c.one.ensures.in_a c.one.ensures.in_b),
    )
