use Rattle.std.proofs.Math.Logic.{∥∥₁_elim, ∥∥₁_map}
use Rattle.std.proofs.Props.{props}
use Rattle.std.proofs.lemmas.Result.{IfOk-weaker}
use Rattle.strips_law.proofs.Edges.{edges_of, not_both}
use Rattle.phases.proofs.merging.edges.Goals as goal

pub returns : goal.returns
returns g c = IfOk-weaker c.merged.result _ _ (λ v h cuts strip lines left right ordered rounded across_are.
    let inner = c.args.inner.now in
    let across = c.args.across.now in
    ∥∥₁_elim rounded (hlevel props) (λ r. ∥∥₁_map across_are (λ k.
    let m = h r.inner_is.ascending k.ascending (not_both cuts strip lines inner across left right r k) in
    edges_of cuts strip lines inner across v.items left right ordered r k m.ascending m.exact))) c.merged.ensures
