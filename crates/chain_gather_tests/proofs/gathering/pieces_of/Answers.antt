use Rattle.std.proofs.Common.{◌≡◌, ◌∙◌, ℕ, List, arith, length, subst, sym}
use Rattle.std.proofs.lemmas.List.{length_push}
use Rattle.geom.specs.declared.segment.Seg.{Seg}
use Rattle.grid.specs.Tiles.{Owns, Tiling}
use Rattle.routing.specs.Pieces.{IsPartOf}
use Rattle.routing.proofs.PieceLaws.{part_found}
use Rattle.tile_book.proofs.Completed.{in_order_push}
use Rattle.linking.specs.declared.tile_piece.TilePiece.{TilePiece}
use Rattle.chain_gather.proofs.Near.{near_by_bin}
use Rattle.chain_gather_tests.proofs.gathering.pieces_of.Goals as goal

pub found_in-requires : goal.found_in-requires
found_in-requires g c = (near_by_bin c.args.grid.now c.args.limited.list.now c.in_ok-bins.bins c.loop-tile.tile c.bin.new.out.items c.deref.result.now c.in_ok-bins.ensures c.in_ok-bin.ensures.ok c.deref.ensures.value).0.below

pub of_part-requires : goal.of_part-requires
of_part-requires g c =
    let tile = c.loop-tile.tile in
    let found = c.in_ok-found.found in
    let candidates = (near_by_bin c.args.grid.now c.args.limited.list.now c.in_ok-bins.bins c.loop-tile.tile c.bin.new.out.items c.deref.result.now c.in_ok-bins.ensures c.in_ok-bin.ensures.ok c.deref.ensures.value).0 in
    let part = part_found (Owns c.args.grid.now tile) c.args.limited.list.now c.deref.result.now c.rect.result found.pixels.items found.records.items c.rect.ensures.exact candidates c.in_ok-found.ensures.pixels c.in_ok-found.ensures.records in
    subst (λ (t : Tiling × List Seg). ∥ IsPartOf (Owns t.0 tile) t.1 found.pixels.items found.records.items ∥₁) (λ i. (c.requires.tiled.0 i, c.requires.tiled.1 i)) ∣ part ∣₁

pub loop-tile-preserved : goal.loop-tile-preserved
loop-tile-preserved g c =
    let number : TilePiece g.row.T.Denot g.row.A.Denot g.T.Tiled → ℕ = λ p. p.number in
    let inv = c.loop-tile.invariant in
    let pieces = c.loop-tile.pieces.items in
    let piece = c.of_part.result in
    let is : piece.number ≡ length pieces = c.of_part.ensures ∙ sym inv.0 in
    let l = length_push pieces piece in
    rw c.in_ok-push.ensures.items (omega arith, in_order_push number pieces piece inv.1 is)
