use Rattle.std.proofs.Common.{ap}
use Rattle.distinct.specs.declared.copies.Copies.{Copies}
use Rattle.linking.specs.Links.{copies_link}
use Rattle.linking.proofs.CopyLinks.{one_is}
use Rattle.linking.proofs.link.SegMakesLinksLink.link.Goals as goal

pub returns : goal.returns
returns c = ap (λ (d : Copies). copies_link d c.args.edge) (one_is c.args.self.now.layer c.one.result c.one.ensures.in_a c.one.ensures.in_b)
