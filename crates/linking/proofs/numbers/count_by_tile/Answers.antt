use Rattle.std.proofs.Common.{◌≡◌, ◌++◌, ◌+◌, List, [], ap, flat_map, subst, sym, take, ◌∙◌}
use Rattle.std.proofs.lemmas.List.{take_all}
use Rattle.std.specs.Prelude.{All, AllPairs}
use Rattle.geom.specs.declared.point.Pt.{Pt}
use Rattle.grid.specs.Tiles.{HasTile}
use Rattle.linking.specs.Numbers.{AreTileCounts}
use Rattle.linking.proofs.Counted.{counted_none}
use Rattle.linking.proofs.ShareLaws.{flat_more}
use Rattle.linking.proofs.Slices.{flat_all, flat_front_pairs}
use Rattle.linking.proofs.numbers.count_by_tile.Goals as goal

pub loop-piece-init : goal.loop-piece-init
loop-piece-init g c = (counted_none c.args.grid.now (λ p. p) (λ p. 1) [] _ c.in_ok-counts.ensures.counts, c.in_ok-counts.ensures.last)

pub count_pixels-requires-clause-tiles : goal.count_pixels-requires-clause-tiles
count_pixels-requires-clause-tiles g c =
    let pieces = c.args.pieces.now in
    let piece = c.piece-item.result in
    subst (λ (ps : List Pt). All (λ p. HasTile c.args.grid.now p) ps) (sym c.deref.ensures.value)
    (flat_all (λ p. p.pixels.items) pieces (λ p. HasTile c.args.grid.now p) piece (c.loop-piece.piece-index, c.loop-piece-test.true, sym c.piece-item.is) c.requires.tiles)

pub count_pixels-requires-clause-size : goal.count_pixels-requires-clause-size
count_pixels-requires-clause-size g c = c.loop-piece.invariant.0.one_each

pub count_pixels-requires-clause-last : goal.count_pixels-requires-clause-last
count_pixels-requires-clause-last g c = c.loop-piece.invariant.1

pub loop-piece-preserved : goal.loop-piece-preserved
loop-piece-preserved g c =
    let pieces = c.args.pieces.now in
    let i = c.loop-piece.piece-index in
    let piece = c.piece-item.result in
    let done = flat_map (λ p. p.pixels.items) (take i pieces) in
    let more = ap (λ (ps : List Pt). done ++ ps) c.deref.ensures.value ∙ sym (flat_more (λ p. p.pixels.items) pieces i piece c.loop-piece-test.true c.piece-item.is) in
    let once = subst (λ (ps : List Pt). AllPairs (λ p q. p ≡ q → ⊥) ps) (sym more) (flat_front_pairs (λ p. p.pixels.items) (λ p q. p ≡ q → ⊥) (i + 1) pieces c.requires.once) in
    (subst (λ (ps : List Pt). AreTileCounts c.args.grid.now (λ p. p) (λ p. 1) ps c.count_pixels.new.counts.counts.items) more (c.in_ok-count_pixels.ensures.counted done once c.loop-piece.invariant.0), c.in_ok-count_pixels.ensures.last)

pub returns : goal.returns
returns g c =
    let whole = ap (flat_map (λ p. p.pixels.items)) (take_all c.loop-piece.piece-index c.args.pieces.now c.loop-piece-test.false) in
    rw c.into_counts.ensures (subst (λ (ps : List Pt). AreTileCounts c.args.grid.now (λ p. p) (λ p. 1) ps c.loop-piece.counts.counts.items) whole c.loop-piece.invariant.0)
