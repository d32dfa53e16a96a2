use Rattle.std.proofs.Common.{◌+◌, arith}
use Rattle.chain_gather.proofs.Adding.{gathered_held, gathered_made, gathered_as, on_ok_all}
use Rattle.linking.proofs.RouteLinks.{on_ok_both}
use Rattle.chain_gather.proofs.OwnLaws.{own_piece_is}
use Rattle.chain_gather.proofs.tiles.add_tile.Goals as goal

pub returns-in-Some : goal.returns-in-Some
returns-in-Some g c =
    let grid = c.args.grid.now in
    let segments = c.args.segments.now in
    let held = c.args.book.now.held in
    let tile = c.args.tile in
    let found = c.args.found.now in
    let piece = c.in-Some.held.now in
    let own = c.in-Some.ensures in
    let is = own_piece_is grid segments tile c.args.numbers.now piece c.requires.candidates c.requires.near own.1 in
    let next = gathered_held grid segments held tile piece.hot found.records.items piece.records.items found.tiles.items found.remade c.requires.before is (record { piece = piece; is_at = own.0; own = own.1 }) in
    on_ok_both c.add.result _ _ _ c.add.ensures.records c.add.ensures.tiles (λ e f. gathered_as grid segments held (tile + 1) _ _ _ _ _ _ (rw c.deref.ensures.value at e) (rw c.deref.ensures.value at f) c.add.ensures.remade next)

pub add_anew-requires : goal.add_anew-requires
add_anew-requires g c = let e = c.requires.before.few in let k = c.requires.few in omega arith

pub returns : goal.returns
returns g c =
    let grid = c.args.grid.now in
    let segments = c.args.segments.now in
    let held = c.args.book.now.held in
    let tile = c.args.tile in
    let found = c.args.found.now in
    let made = c.in_ok-made.made in
    let next = gathered_made grid segments held tile made.hot found.records.items made.records.items found.tiles.items found.remade c.requires.before ∣ c.in_ok-made.ensures.exact ∣₁ c.in_default.ensures in
    on_ok_all c.add_anew.result _ _ _ _ c.add_anew.ensures.records c.add_anew.ensures.tiles c.add_anew.ensures.remade (λ e f n. gathered_as grid segments held (tile + 1) _ _ _ _ _ _ e f n next)
