use Rattle.std.proofs.Common.{◌≡◌, ◌≤◌, ℕ, List, ap, flat_map, length, map, subst, sym}
use Rattle.std.proofs.lemmas.Result.{IfOk-weaker}
use Rattle.std.specs.Prelude.{All, AllPairs, slice_range}
use Rattle.geom.specs.declared.point.Pt.{Pt}
use Rattle.grid.specs.Tiles.{HasTile, tile_count}
use Rattle.hands.specs.declared.part.Part.{Part}
use Rattle.hands.specs.Consecutive.{ArePartsOf}
use Rattle.hands.proofs.Consecutive.{each_part}
use Rattle.linking.specs.Numbers.{AreTileCounts}
use Rattle.linking.specs.Shares.{AreSums}
use Rattle.linking.proofs.LinkedLaws.{sums_are}
use Rattle.linking.proofs.ShareLaws.{zip_all, zip_mapped, zip_weaker}
use Rattle.linking.proofs.Slices.{flat_slices_whole}
use Rattle.linking.proofs.numbers.hot_in_parts.Goals as goal

pub map_parts-requires-after_bounds : goal.map_parts-requires-after_bounds
map_parts-requires-after_bounds g c κs within =
    let grid = c.args.grid.now in
    let pieces = c.args.pieces.now in
    let hot = flat_map (λ p. p.pixels.items) pieces in
    rw c.deref.ensures.value (each_part (λ (p : Part). (p.from ≤ p.past) × (p.past ≤ length pieces) × All (λ q. HasTile grid q) hot × AllPairs (λ q r. q ≡ r → ⊥) hot) 0 (length pieces) c.in_ok-cuts.cuts.items c.in_ok-cuts.ensures
    (λ p low order high. (order, high, c.requires.tiles, c.requires.once)))

pub summed-requires : goal.summed-requires
summed-requires g c = rw (c.deref-2.ensures.value, c.tiles.ensures.value) (zip_all (λ l. length l.items ≡ tile_count c.args.grid.now) c.deref.result.now c.in_ok-lists.lists.items (zip_weaker _ _ (λ p l h. h.one_each) c.deref.result.now c.in_ok-lists.lists.items c.in_ok-lists.ensures))

pub returns : goal.returns
returns g c =
    let grid = c.args.grid.now in
    let pieces = c.args.pieces.now in
    let cuts = c.deref.result.now in
    let lists = c.in_ok-lists.lists.items in
    let hot_of = λ (p : Part). flat_map (λ p. p.pixels.items) (slice_range pieces p.from p.past) in
    let whole = flat_slices_whole (λ p. p.pixels.items) pieces cuts (subst (λ (ps : List Part). ArePartsOf 0 (length pieces) ps) (sym c.deref.ensures.value) c.in_ok-cuts.ensures) in
    let once = subst (λ (ps : List Pt). AllPairs (λ p q. p ≡ q → ⊥) ps) (sym whole) c.requires.once in
    let zip = zip_mapped (λ (p : Part) counts. AreTileCounts grid (λ p. p) (λ p. 1) (hot_of p) counts) (λ l. l.items) cuts lists c.in_ok-lists.ensures in
    IfOk-weaker c.summed.result _ _ (λ v h. subst (λ (ps : List Pt). AreTileCounts grid (λ p. p) (λ p. 1) ps v.items) whole
    (sums_are grid (λ p. p) (λ p. 1) hot_of cuts (map (λ l. l.items) lists) v.items once zip
    (subst (λ (x : ℕ × List (List ℕ)). AreSums x.0 x.1 v.items) (λ i. (c.tiles.ensures.value i, ap (map (λ l. l.items)) c.deref-2.ensures.value i)) h))) c.summed.ensures
