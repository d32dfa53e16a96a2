use Rattle.std.proofs.Common.{ℕ, List, refl, subst, sym}
use Rattle.std.proofs.lemmas.Result.{IfOk-weaker}
use Rattle.grid.specs.Tiles.{tile_count}
use Rattle.linking.specs.Gathered.{AreTileNumbersBy}
use Rattle.linking.specs.declared.rounded.TileNumbers.{TileNumbers}
use Rattle.linking.proofs.Counted.{numbers_once}
use Rattle.linking.proofs.bordering.gather_borders.Goals as goal

pub borders_by_links-requires : goal.borders_by_links-requires
borders_by_links-requires g c = record { owners = c.requires.owners; odd = (c.in_ok-found.found.links.items.items, c.in_ok-found.ensures.links, rw c.deref.ensures.value c.in_ok-odd.ensures) }

pub returns-clause-tiles : goal.returns-clause-tiles
returns-clause-tiles g c =
    let grid = c.args.grid.now in
    let segments = c.args.segments.now in
    let owners = c.args.owners.now in
    IfOk-weaker c.borders_by_links.result _ _ (λ r same. numbers_once (λ (f : ℕ). 1) (λ f. refl) grid segments owners (tile_count grid) r.tiles.items c.requires.owners
    (subst (λ (ts : List TileNumbers). AreTileNumbersBy (λ (f : ℕ). 1) grid segments owners (tile_count grid) ts) (sym same) c.in_ok-found.ensures.tiles)) c.borders_by_links.ensures.tiles
