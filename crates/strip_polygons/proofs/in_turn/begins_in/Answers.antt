use Rattle.std.proofs.Common.{◌≡◌, ◌⊎◌, inl, inr, sym, ◌∙◌, ap}
use Rattle.std.proofs.lemmas.Bool.{eq-eqb, eqb-true}
use Rattle.geom.specs.declared.edge.Edge.{Edge}
use Rattle.geom.specs.declared.directed.DirectedEdge.{DirectedEdge}
use Rattle.geom.specs.Directed.{RunsAlong}
use Rattle.geom.proofs.Edges.{one_run}
use Rattle.strips_law.specs.Strips.{strip_at}
use Rattle.strip_polygons.proofs.in_turn.begins_in.Goals as goal

runs_along : (d : DirectedEdge) (e : Edge) → ((e.p ≡ d.from) × (e.q ≡ d.to)) ⊎ ((e.p ≡ d.to) × (e.q ≡ d.from)) → RunsAlong d e
runs_along d e (inl h) = inl (λ i. record { from = (sym h.0) i; to = (sym h.1) i })
runs_along d e (inr h) = inr (λ i. record { from = (sym h.1) i; to = (sym h.0) i })

pub returns-in-Some : goal.returns-in-Some
returns-in-Some c =
    let d = c.args.d in
    let e = c.in-Some.edge in
    let runs = runs_along d e c.in-Some.ensures in (
      (λ t. record { edge = e; runs = runs; begins = sym c.strip_at.ensures.value ∙ eqb-true c.strip_at.result c.args.strip t }),
      (λ b. let q = ap (λ (f : Edge). strip_at c.args.cuts.now f.p) (one_run d b.edge e b.runs runs) in eq-eqb c.strip_at.result c.args.strip (c.strip_at.ensures.value ∙ sym q ∙ b.begins)),
    )
