use Rattle.std.proofs.Math.Logic.{∥∥₁_elim, ∥∥₁_map}
use Rattle.std.proofs.Props.{props}
use Rattle.std.proofs.lemmas.List.Elements.{Contains-get_or}
use Rattle.linking.proofs.made.rounded_of_copies.Goals as goal

pub invariant_of-result : goal.invariant_of-result
invariant_of-result g c = record {
  ascending = ∥∥₁_map c.requires (λ r. r.ascending);
  counted = ∥∥₁_elim c.requires (hlevel props) (λ r k d l. ((r.exact _).0 (Contains-get_or c.args.edges.items k d l)).2);
}
