use Rattle.std.proofs.Math.Logic.{∥∥₁_elim, ∥∥₁_map}
use Rattle.std.proofs.Props.{props}
use Rattle.phases.proofs.Messages.{bridged_by}
use Rattle.phases.proofs.bridging.bridge.Goals as goal

pub returns : goal.returns
returns g c cuts strip lines inner ordered rounded carried =
    ∥∥₁_elim rounded (hlevel props) (λ r. ∥∥₁_map carried (λ k.
    bridged_by cuts strip lines inner c.args.left.now c.args.right.now c.args.carried.now ordered r k c.in_ok-links.links.items c.in_ok-links.ensures c.in_ok-across.across.items c.in_ok-across.ensures c.in_ok-carried.carried.items c.in_ok-carried.ensures))
