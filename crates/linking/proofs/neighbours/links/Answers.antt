use Rattle.std.proofs.Common.{refl}
use Rattle.std.proofs.Math.Logic.{∥∥₁_elim, ∥∥₁_map}
use Rattle.std.proofs.Props.{props}
use Rattle.std.proofs.lemmas.Result.{IfOk-weaker}
use Rattle.linking.specs.Links.{layer_link}
use Rattle.linking.proofs.Walk.{links_are, records_apart, records_below, route_links}
use Rattle.linking.proofs.neighbours.links.Goals as goal

pub links_between-requires : goal.links_between-requires
links_between-requires g c =
    let segments = c.args.segments.now in
    let records = c.args.records.now in
    record {
      below = ∥∥₁_elim c.requires (hlevel props) (λ r. records_below segments records r);
      apart = ∥∥₁_elim c.requires (hlevel props) (λ r. records_apart segments records r);
    }

pub returns : goal.returns
returns g c =
    let segments = c.args.segments.now in
    let records = c.args.records.now in
    IfOk-weaker c.links_between.result _ _ (λ v h. ∥∥₁_map c.requires (λ r. links_are segments v.items (route_links layer_link segments segments records v.items refl r h.0) h.1)) c.links_between.ensures
