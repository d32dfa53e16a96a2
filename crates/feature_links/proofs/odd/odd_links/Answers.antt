-- Each link toggles itself.
use Rattle.std.proofs.Common.{◌++◌, ◌∷◌, [], List, sym, ap, ◌∙◌, subst, take}
use Rattle.std.proofs.lemmas.List.{take_more}
use Rattle.feature_links.specs.declared.link.FeatureLink.{FeatureLink}
use Rattle.feature_links.specs.Odd.{AreOdd}
use Rattle.feature_links.proofs.OddLaws.{toggled, upto_next}
use Rattle.feature_links.proofs.odd.odd_links.Goals as goal

pub loop-link-preserved : goal.loop-link-preserved
loop-link-preserved g c =
    let links = c.args.links.now in
    let i = c.loop-link.link-index in
    let x = c.link-item.result in
    let next = c.add_or_cancel.new.odd.items in
    let t = toggled (take i links) c.loop-link.odd.items next x c.loop-link.invariant (upto_next links i x c.requires c.loop-link-test.true c.link-item.is) c.in_ok-add_or_cancel.ensures in
    subst (λ (ys : List FeatureLink). AreOdd ys next) (sym (take_more links i x c.loop-link-test.true ∙ ap (λ (w : FeatureLink). take i links ++ w ∷ []) (sym c.link-item.is))) t
