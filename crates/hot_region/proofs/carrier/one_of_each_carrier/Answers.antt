use Rattle.std.proofs.Common.{List, subst}
use Rattle.std.proofs.lemmas.Result.{IfOk-weaker}
use Rattle.hot_region.specs.declared.lines.Line.{Line}
use Rattle.hot_region.specs.Carriers.{KeepsCrossings}
use Rattle.hot_region.proofs.CarrierLaws.{keeps_on}
use Rattle.hot_region.proofs.carrier.one_of_each_carrier.Goals as goal

pub returns : goal.returns
returns g c =
    let rect = c.args.rect.now in
    let lines = c.args.lines.now in
    IfOk-weaker c.one_of_each-2.result (λ v. KeepsCrossings rect c.deref.result.now v.items) (λ v. KeepsCrossings rect lines v.items)
    (λ v h. keeps_on rect lines c.in_ok-part.part.items v.items c.in_ok-part.ensures (subst (λ (ls : List Line). KeepsCrossings rect ls v.items) c.deref.ensures.value h)) c.one_of_each-2.ensures
