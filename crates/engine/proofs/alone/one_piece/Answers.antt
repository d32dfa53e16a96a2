use Rattle.std.proofs.Common.{List, subst}
use Rattle.geom.specs.declared.segment.Seg.{Seg}
use Rattle.grid.specs.Tiles.{Owns, Tiling}
use Rattle.hot_region.specs.Candidates.{AreCandidates}
use Rattle.routing.specs.Pieces.{IsPartOf}
use Rattle.routing.proofs.PieceLaws.{all_candidates, part_found}
use Rattle.engine.proofs.alone.one_piece.Goals as goal

pub found_in-requires : goal.found_in-requires
found_in-requires g c =
    let cells = c.args.cells.now in
    let segments = c.args.limited.list.now in
    let numbers = c.in_ok-numbers.numbers.items in
    rw c.deref.ensures.value (all_candidates segments numbers c.in_ok-numbers.ensures (Owns cells 0)).below

pub of_part-requires : goal.of_part-requires
of_part-requires g c =
    let cells = c.args.cells.now in
    let segments = c.args.limited.list.now in
    let numbers = c.in_ok-numbers.numbers.items in
    let found = c.in_ok-found.found in
    let candidates : AreCandidates (Owns cells 0) segments c.deref.result.now = rw c.deref.ensures.value (all_candidates segments numbers c.in_ok-numbers.ensures (Owns cells 0)) in
    let part = part_found (Owns cells 0) segments c.deref.result.now c.rect.result found.pixels.items found.records.items c.rect.ensures.exact candidates c.in_ok-found.ensures.pixels c.in_ok-found.ensures.records in
    subst (λ (t : Tiling × List Seg). ∥ IsPartOf (Owns t.0 0) t.1 found.pixels.items found.records.items ∥₁) (λ i. (c.requires.tiled.0 i, c.requires.tiled.1 i)) ∣ part ∣₁
