-- The next link is of the edge too.
use Rattle.std.proofs.Common.{◌≡◌, arith, sym, subst, get_or, ◌∙◌}
use Rattle.std.proofs.lemmas.List.Elements.{AllWithin-more, at_read}
use Rattle.feature_links.specs.declared.link.FeatureLink.{FeatureLink}
use Rattle.feature_links.proofs.GroupSteps.{ends_true}
use Rattle.feature_links.proofs.borders.end_of_run.Goals as goal

pub loop-to-preserved : goal.loop-to-preserved
loop-to-preserved c = (
  omega arith,
  omega arith,
  AllWithin-more (λ (x : FeatureLink). x.edge ≡ c.args.edge) c.args.links.now c.args.from c.loop-to.to c.loop-to.invariant.2
      (at_read c.args.links.now (λ (x : FeatureLink). x.edge ≡ c.args.edge) c.loop-to.to c.index-links-to.result c.loop-to-test.true c.index-links-to.is
      (subst (λ (x : FeatureLink). x.edge ≡ c.args.edge) (sym c.index-links-to.is) (ends_true (get_or c.args.links.now c.loop-to.to c.index-links-to.result).edge c.args.edge (sym c.is_edge.ensures ∙ c.if-is_edge.true)))),
)
