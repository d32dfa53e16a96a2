use Rattle.std.proofs.Common.{arith, true, ◌-◌, ◌≡◌, ◌∙◌, sym}
use Rattle.polygonize.proofs.ClosesOnce.{closes_of}
use Rattle.polygonize.proofs.NextEdge.Looking.{none_before}
use Rattle.polygonize.proofs.stripes.is_none_before.Goals as goal

pub returns-else-place-eq0 : goal.returns-else-place-eq0
returns-else-place-eq0 c = λ yes.
    let test : c.is_at_lesser.result ≡ true = grind arith in
    let some = c.if-place-eq0.false in
    let before = none_before c.args.edges.list.now c.args.v (c.args.place - 1) (closes_of c.args.edges.closes).are_directed (omega (arith, some, c.requires)) (sym c.is_at_lesser.ensures ∙ test) in
    λ k d l. before k d (omega (arith, l))
