use Rattle.std.proofs.Common.{◌∙◌, subst, sym, ℕ}
use Rattle.std.proofs.lemmas.List.{get_or_default}
use Rattle.polygonize.specs.Piece.{IsFirstAmong}
use Rattle.polygonize.proofs.ClosesOnce.{closes_of}
use Rattle.polygonize.proofs.WrittenRings.Writing.{cut_some, cycle_cut, ring_least, ring_some, ring_sound, ring_vertices, vertices_inside}
use Rattle.polygonize.proofs.cut_ring.cut_ring.Goals as goal

pub is_hole-is_hole-requires-clause-vertices : goal.is_hole-is_hole-requires-clause-vertices
is_hole-is_hole-requires-clause-vertices g c = rw c.deref.ensures.value (ring_vertices c.args.edges.list.now c.args.numbers.now c.args.cycle.now c.list_vertices.new.ring.items c.requires.numbers c.requires.cycle c.in_ok-list_vertices.ensures)

pub is_hole-is_hole-requires-clause-least : goal.is_hole-is_hole-requires-clause-least
is_hole-is_hole-requires-clause-least g c = rw c.deref.ensures.value (ring_least c.args.edges.list.now c.args.numbers.now c.args.cycle.now c.list_vertices.new.ring.items (closes_of c.args.edges.closes).are_directed c.requires.numbers c.requires.cycle c.in_ok-list_vertices.ensures)

pub cut-requires : goal.cut-requires
cut-requires g c = rw c.deref-2.ensures.value (vertices_inside c.args.edges.list.now c.list_vertices.new.ring.items _ c.requires.places (ring_vertices c.args.edges.list.now c.args.numbers.now c.args.cycle.now c.list_vertices.new.ring.items c.requires.numbers c.requires.cycle c.in_ok-list_vertices.ensures))

pub first_piece-first-requires-clause-least : goal.first_piece-first-requires-clause-least
first_piece-first-requires-clause-least g c = rw c.index.ensures (ring_vertices c.args.edges.list.now c.args.numbers.now c.args.cycle.now c.list_vertices.new.ring.items c.requires.numbers c.requires.cycle c.in_ok-list_vertices.ensures 0 c.index.result.now (ring_some c.args.numbers.now c.args.cycle.now c.list_vertices.new.ring.items c.requires.cycle.some c.in_ok-list_vertices.ensures))

pub first_piece-first-requires-clause-some : goal.first_piece-first-requires-clause-some
first_piece-first-requires-clause-some g c = rw c.deref-3.ensures.value (cut_some c.in_ok-pieces.ensures)

pub first_piece-first-requires-clause-sound : goal.first_piece-first-requires-clause-sound
first_piece-first-requires-clause-sound g c = rw c.deref-3.ensures.value (ring_sound c.args.edges.list.now c.args.numbers.now c.args.cycle.now c.list_vertices.new.ring.items _ c.requires.numbers c.requires.cycle c.in_ok-list_vertices.ensures (rw c.deref-2.ensures.value at c.in_ok-pieces.ensures))

pub returns : goal.returns
returns g c =
    let ring = c.list_vertices.new.ring.items in
    let pieces = c.in_ok-pieces.pieces.items in
    let some = ring_some c.args.numbers.now c.args.cycle.now ring c.requires.cycle.some c.in_ok-list_vertices.ensures in
    let least = c.index.ensures ∙ sym (get_or_default ring 0 0 c.index.result.now some) in
    cycle_cut c.args.edges.list.now c.args.numbers.now c.args.cycle.now ring _ (closes_of c.args.edges.closes).are_directed c.requires.numbers c.requires.cycle c.in_ok-list_vertices.ensures (rw c.deref-2.ensures.value at c.in_ok-pieces.ensures) (rw c.deref.ensures.value at c.is_hole-is_hole.ensures)
    (rw c.deref-3.ensures.value at c.first_piece-first.ensures.inside)
    (subst (λ (n : ℕ). IsFirstAmong c.args.edges.list.now n pieces c.first_piece-first.result) least (rw c.deref-3.ensures.value at c.first_piece-first.ensures.first))
