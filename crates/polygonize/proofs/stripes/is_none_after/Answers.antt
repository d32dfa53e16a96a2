use Rattle.std.proofs.Common.{arith, false, ◌≡◌, ◌∙◌, sym}
use Rattle.polygonize.proofs.ClosesOnce.{closes_of}
use Rattle.polygonize.proofs.NextEdge.Looking.{none_after}
use Rattle.polygonize.proofs.stripes.is_none_after.Goals as goal

pub returns-else-place-edges : goal.returns-else-place-edges
returns-else-place-edges c = λ no.
    let test : c.is_at_lesser.result ≡ false = grind arith in
    let some = c.if-place-edges.false in
    none_after c.args.edges.list.now c.args.v c.args.place (closes_of c.args.edges.closes).are_directed (omega (arith, some, c.requires)) (sym c.is_at_lesser.ensures ∙ test)
