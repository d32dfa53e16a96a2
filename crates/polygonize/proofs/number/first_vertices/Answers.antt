use Rattle.std.proofs.Common.{ℕ, [], ◌∷◌, ◌++◌, ◌∙◌, ap, get_or, map, take}
use Rattle.std.proofs.lemmas.List.{get_or_default, map_more, take_all}
use Rattle.geom.specs.declared.directed.DirectedEdge.{DirectedEdge}
use Rattle.polygonize.specs.Next.{first_vertex, nothing}
use Rattle.polygonize.proofs.number.first_vertices.Goals as goal

pub loop-number-preserved : goal.loop-number-preserved
loop-number-preserved g c =
    let numbers = c.args.numbers.now in
    let i = c.loop-number.number-index in
    let r : ℕ = get_or numbers i 0 in
    let inside = c.requires.inside i 0 c.loop-number-test.true in
    let begins = c.requires.edges_inside r [] inside 0 0 (c.requires.some r [] inside) in
    rw (c.in_ok-push.ensures.items, c.loop-number.invariant, map_more (first_vertex c.args.edges.now c.args.cycles.now) numbers i 0 c.loop-number-test.true, c.numbers.ensures)
    (ap (λ (d : DirectedEdge). map (first_vertex c.args.edges.now c.args.cycles.now) (take i numbers) ++ d.from ∷ []) (get_or_default c.args.edges.now _ _ nothing begins))

pub returns : goal.returns
returns g c = c.loop-number.invariant ∙ ap (map (first_vertex c.args.edges.now c.args.cycles.now)) (take_all c.loop-number.number-index c.args.numbers.now c.loop-number-test.false)
