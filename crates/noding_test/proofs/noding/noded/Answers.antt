use Rattle.std.proofs.Common.{List, inr, refl, subst, sym}
use Rattle.std.specs.Prelude.{AllPairs}
use Rattle.geom.specs.declared.edge.Counted.{Counted}
use Rattle.geom.specs.EdgeOrder.{IsEdgeBefore}
use Rattle.geom.specs.Noded.{IsLeastBad, IsNoded}
use Rattle.geom.specs.Rounded.{edges_of}
use Rattle.noding_test.proofs.noding.noded.Goals as goal

pub least_bad_of-requires-clause-ascending : goal.least_bad_of-requires-clause-ascending
least_bad_of-requires-clause-ascending g c κs within = subst (λ (cs : List Counted). ∥ AllPairs (λ c d. IsEdgeBefore c.edge d.edge) cs ∥₁) (sym c.deref.ensures.value) c.args.rounded.ascending

pub settled-requires : goal.settled-requires
settled-requires g c =
    let h = rw c.in-Ok-None.field-0-is at c.in-Ok-None.ensures in
    subst (λ (cs : List Counted). IsNoded (edges_of cs)) c.deref.ensures.value h

pub returns-in-Ok-Some : goal.returns-in-Ok-Some
returns-in-Ok-Some g c =
    let e = c.in-Ok-Some.e in
    let f = c.in-Ok-Some.f in
    let h = rw c.in-Ok-Some.field-0-is at c.in-Ok-Some.ensures in
    inr (e, f, refl, subst (λ (cs : List Counted). IsLeastBad (edges_of cs) e f) c.deref.ensures.value h)
