use Rattle.std.proofs.Common.{◌≡◌, List, length, sym, ap, ◌∙◌, subst, arith}
use Rattle.std.specs.Prelude.{All}
use Rattle.std.proofs.lemmas.List.{length-map}
use Rattle.std.proofs.lemmas.Result.{IfOk-weaker}
use Rattle.geom.specs.declared.point.Pt.{Pt}
use Rattle.geom.specs.Limit.{InLimit}
use Rattle.polygonize.specs.Below.{AreFoundBelow, StandAt}
use Rattle.polygonize.specs.Column.{StandFromLeft}
use Rattle.polygonize.proofs.ClosesOnce.{closes_of}
use Rattle.polygonize.proofs.EdgesBelow.Searching.{begin_in_limit, below_all}
use Rattle.polygonize.proofs.EdgesBelow.Short.{begin_from_left}
use Rattle.polygonize.proofs.WrittenRings.Cuts.{holes_known}
use Rattle.polygonize.proofs.written.edges_below_in_parts.Goals as goal

pub gaps_below_in_parts-requires-clause-vertices_in : goal.gaps_below_in_parts-requires-clause-vertices_in
gaps_below_in_parts-requires-clause-vertices_in g c κs within =
    let holes = c.in_ok-holes.holes.items in
    let begins = rw c.deref.ensures.value at c.in_ok-vertices.ensures in
    subst (λ (vs : List Pt). All InLimit vs) (sym (c.deref-2.ensures.value ∙ begins)) (begin_in_limit c.args.edges.list.now c.args.cycles.now holes c.args.edges.in_limit c.requires.cycles (λ k d h. let i = c.in_ok-holes.ensures.inside k d h in let r = c.requires.cut.reaches in omega (arith, i, r)))

pub gaps_below_in_parts-requires-clause-from_left : goal.gaps_below_in_parts-requires-clause-from_left
gaps_below_in_parts-requires-clause-from_left g c κs within =
    let holes = c.in_ok-holes.holes.items in
    let begins = rw c.deref.ensures.value at c.in_ok-vertices.ensures in
    subst StandFromLeft (sym (c.deref-2.ensures.value ∙ begins)) (begin_from_left c.args.edges.list.now c.args.cycles.now holes (closes_of c.args.edges.closes).are_directed c.requires.cycles c.requires.ascending c.in_ok-holes.ensures.ascend (λ k d h. let i = c.in_ok-holes.ensures.inside k d h in let r = c.requires.cut.reaches in omega (arith, i, r)))

pub first_vertices-requires-clause-some : goal.first_vertices-requires-clause-some
first_vertices-requires-clause-some g c = λ k d h. (c.requires.cycles k d h).some

pub first_vertices-requires-clause-edges_inside : goal.first_vertices-requires-clause-edges_inside
first_vertices-requires-clause-edges_inside g c = λ k d h. (c.requires.cycles k d h).inside

pub first_vertices-requires-clause-inside : goal.first_vertices-requires-clause-inside
first_vertices-requires-clause-inside g c = rw c.deref.ensures.value (λ k d h. let i = c.in_ok-holes.ensures.inside k d h in let r = c.requires.cut.reaches in omega (arith, i, r))

pub gaps_of_rings-requires-clause-ascend : goal.gaps_of_rings-requires-clause-ascend
gaps_of_rings-requires-clause-ascend g c = rw c.deref-3.ensures.value c.in_ok-holes.ensures.ascend

pub gaps_of_rings-requires-clause-inside : goal.gaps_of_rings-requires-clause-inside
gaps_of_rings-requires-clause-inside g c = rw c.deref-3.ensures.value c.in_ok-holes.ensures.inside

pub gaps_of_rings-requires-clause-same_length : goal.gaps_of_rings-requires-clause-same_length
gaps_of_rings-requires-clause-same_length g c =
    let begins = rw c.deref.ensures.value at c.in_ok-vertices.ensures in
    let found = rw (c.limited.ensures, c.deref-2.ensures.value) at c.in_ok-gaps.ensures in
    rw (c.deref-3.ensures.value, c.deref-4.ensures.value) (found.same_length ∙ ap length begins ∙ length-map _ _)

pub returns : goal.returns
returns g c =
    let edges = c.args.edges.list.now in
    let cycles = c.args.cycles.now in
    let rings = c.args.rings.now in
    let holes = c.in_ok-holes.holes.items in
    let gaps = c.in_ok-gaps.gaps.items in
    let begins = rw c.deref.ensures.value at c.in_ok-vertices.ensures in
    let found = rw (c.limited.ensures, c.deref-2.ensures.value) at c.in_ok-gaps.ensures in
    IfOk-weaker c.gaps_of_rings.result (λ below. (length below.items ≡ length rings) × StandAt holes gaps below.items) (λ below. AreFoundBelow edges cycles below.items)
    (λ below h. below_all edges cycles c.in_ok-vertices.vertices.items holes gaps below.items begins (holes_known edges cycles rings holes c.requires.cut c.in_ok-holes.ensures) found (let l = h.0 in let r = c.requires.cut.reaches in omega (arith, l, r)) h.1)
    (rw (c.deref-3.ensures.value, c.deref-4.ensures.value) at c.gaps_of_rings.ensures)
