use Rattle.std.proofs.Common.{List, subst}
use Rattle.geom.specs.declared.segment.Seg.{Seg}
use Rattle.grid.specs.Tiles.{Owns, Tiling}
use Rattle.routing.specs.Pieces.{IsPartOf}
use Rattle.routing.proofs.PieceLaws.{part_found}
use Rattle.engine.proofs.Binned.{cell_candidates}
use Rattle.engine.proofs.rounds.PiecesJob.piece.Goals as goal

pub found_in-requires : goal.found_in-requires
found_in-requires g c =
    let job = c.args.self.now in
    (cell_candidates job.grid.now job.limited.list.now job.bins.now c.args.number c.bin-numbers.result.now job.are_bins c.requires c.bin-numbers.ensures).below

pub of_part-requires : goal.of_part-requires
of_part-requires g c =
    let job = c.args.self.now in
    let number = c.args.number in
    let numbers = c.bin-numbers.result.now in
    let found = c.in_ok-found.found in
    let candidates = cell_candidates job.grid.now job.limited.list.now job.bins.now number numbers job.are_bins c.requires c.bin-numbers.ensures in
    let part = part_found (Owns job.grid.now number) job.limited.list.now numbers c.rect.result found.pixels.items found.records.items c.rect.ensures.exact candidates c.in_ok-found.ensures.pixels c.in_ok-found.ensures.records in
    subst (λ (t : Tiling × List Seg). ∥ IsPartOf (Owns t.0 number) t.1 found.pixels.items found.records.items ∥₁) (λ i. (job.are_tiled.0 i, job.are_tiled.1 i)) ∣ part ∣₁
