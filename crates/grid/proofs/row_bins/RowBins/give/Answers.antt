use Rattle.std.proofs.Common.{ℕ, ◌*◌, ◌≤◌, ◌∙◌, ap, arith, length, sym}
use Rattle.std.proofs.lemmas.List.{with_items_is}
use Rattle.std.proofs.lemmas.Nat.{mul-le}
use Rattle.std.proofs.lemmas.Result.{on_ok_weaker}
use Rattle.grid.proofs.Giving.{columns_up}
use Rattle.grid.proofs.Rows.{given_at_once, given_block, given_kept, one_place_told, row_from_on, tile_within}
use Rattle.grid.proofs.row_bins.RowBins.give.Goals as goal

pub overflow_sub-lo : goal.overflow_sub-lo
overflow_sub-lo g c =
    let low = c.place_of-lo.ensures in
    let s = c.self.inside in
    row_from_on s.grid s.from s.past c.args.rect.now c.place_of-lo.result
    (one_place_told s.grid s.from s.past s.count _ c.args.self.now c.args.rect.now c.place_of-lo.result c.place_of-hi.result c.self.view_is low.some_side low.placed c.place_of-hi.ensures.placed c.if-eq.ensures c.requires.not_below c.requires.not_above)

pub index_mut-requires : goal.index_mut-requires
index_mut-requires g c =
    let low = c.place_of-lo.ensures in
    let s = c.self.inside in
    let within = tile_within s.grid s.from s.past c.args.rect.now c.place_of-lo.result
    (one_place_told s.grid s.from s.past s.count _ c.args.self.now c.args.rect.now c.place_of-lo.result c.place_of-hi.result c.self.view_is low.some_side low.placed c.place_of-hi.ensures.placed c.if-eq.ensures c.requires.not_below c.requires.not_above) in
    let tile = c.tile_at-tile.ensures.value in
    let tiles = c.self.invariant.2 in
    let len = s.bins.ok.0 in
    omega (arith, within, tile, tiles, len)

pub returns-then-eq-clause-given : goal.returns-then-eq-clause-given
returns-then-eq-clause-given g c =
    let low = c.place_of-lo.ensures in
    let s = c.self.inside in
    let pushed = c.in_ok-push.ensures.items in
    given_kept s.grid s.from s.past s.count c.args.number _ _ c.args.rect.now c.args.self.now c.self.view_is
    (given_at_once s.grid s.from s.past c.args.rect.now c.place_of-lo.result
    (one_place_told s.grid s.from s.past s.count _ c.args.self.now c.args.rect.now c.place_of-lo.result c.place_of-hi.result c.self.view_is low.some_side low.placed c.place_of-hi.ensures.placed c.if-eq.ensures c.requires.not_below c.requires.not_above)
    c.args.number c.tile_at-tile.result s.bins.items c.index_mut.result.now c.push.new.self c.tile_at-tile.ensures.value c.self.invariant.2
    (let e = c.index_mut.ensures.value in rw e at pushed))

fewer_tiles : (m rows columns : ℕ) → m ≤ rows → m * columns ≤ rows * columns
fewer_tiles m rows columns h = mul-le m columns rows columns h (omega arith)

pub add_rows-requires-clause-columns : goal.add_rows-requires-clause-columns
add_rows-requires-clause-columns g c =
    let low = c.place_of-lo.ensures in
    let high = c.place_of-hi.ensures in
    (columns_up c.self.inside.grid c.args.rect.now c.place_of-lo.result c.place_of-hi.result low.some_side low.placed high.placed, high.placed.in_columns)

pub returns-clause-given : goal.returns-clause-given
returns-clause-given g c =
    let low = c.place_of-lo.ensures in
    let s = c.self.inside in
    let length_is = c.add_rows.auto.bins ∙ ap length c.deref_mut.ensures.value in
    on_ok_weaker c.add_rows.result
    (λ given. rw (with_items_is s.bins c.add_rows.new.bins (length_is ∙ sym s.bins.ok.0)) (given_kept s.grid s.from s.past s.count c.args.number _ _ c.args.rect.now c.args.self.now c.self.view_is
    (given_block s.grid s.from s.past c.args.number s.bins.items c.deref_mut.result.now c.add_rows.new.bins c.args.rect.now c.place_of-lo.result c.place_of-hi.result low.some_side low.placed c.place_of-hi.ensures.placed c.self.invariant.2
    c.deref_mut.ensures.value (rw (← c.saturating_sub-first.ensures, ← c.saturating_sub.ensures, ← c.min-past.ensures) given))))
    c.add_rows.ensures.given
