use Rattle.std.proofs.Math.Logic.{∥∥₁_elim, ∥∥₁_map}
use Rattle.std.proofs.Props.{props}
use Rattle.std.proofs.lemmas.List.Elements.{Contains-get_or}
use Rattle.noding_law.proofs.Rounding.{rounded_noded}
use Rattle.points_law.proofs.Degrees.{closed_even}
use Rattle.linking.proofs.made.rounded_of.Goals as goal

pub invariant_of-result : goal.invariant_of-result
invariant_of-result g c = record {
  ascending = ∥∥₁_map c.requires (λ r. r.ascending);
  counted = ∥∥₁_elim c.requires (hlevel props) (λ r k d l. ((r.exact _).0 (Contains-get_or c.args.edges.items k d l)).2);
}

pub returns-clause-noded : goal.returns-clause-noded
returns-clause-noded g c = ∥∥₁_elim c.requires (hlevel props) (λ r. rounded_noded c.args.segments.now c.args.edges.items r)

pub returns-clause-even : goal.returns-clause-even
returns-clause-even g c = λ layer closed. ∥∥₁_elim c.requires (hlevel props) (λ r. closed_even c.args.segments.now c.args.edges.items r layer closed)
