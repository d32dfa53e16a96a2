use Rattle.std.proofs.Common.{◌≡◌, ◌∙◌, ◌++◌, ℕ, List, ap, flat_map, length, map, subst, sym}
use Rattle.std.specs.Prelude.{All, None}
use Rattle.grid.specs.Tiles.{tile_count}
use Rattle.linking.specs.Ends.{ends_from}
use Rattle.linking.specs.Shares.{AreSharesFrom, AreSums}
use Rattle.linking.specs.declared.span.Share.{Share}
use Rattle.linking.proofs.LinkedLaws.{all_unmapped, share_sizes, shares_joined, shares_linked}
use Rattle.linking.proofs.linked.link_in_parts.Goals as goal

pub summed-requires : goal.summed-requires
summed-requires g c =
    let grid = c.args.grid.now in
    let makers = c.args.makers.now in
    let link_of = g.M.MakesLinks.link_of in
    let times_of = g.M.MakesLinks.times_of in
    let all = flat_map (λ p. p.records.items) c.args.pieces.now ++ ends_from 0 c.args.segments.now in
    let found = c.in_ok-found.found.items in
    let shares = subst (λ (ss : List Share). AreSharesFrom None ss) (sym c.deref.ensures.value) c.in_ok-shares.ensures in
    let apart = shares_linked grid link_of times_of makers (λ f. f.links.items.items) (λ f. f.records.items) all c.deref.result.now found shares c.in_ok-found.ensures in
    let sizes = share_sizes grid link_of times_of makers (λ f. f.links.items.items) (λ f. f.records.items) all found apart in
    rw (c.deref-2.ensures.value, c.tiles.ensures.value) (all_unmapped (λ counts. length counts ≡ tile_count grid) (λ l. l.items) c.in_ok-links.counts.items
    (subst (λ (ls : List (List ℕ)). All (λ counts. length counts ≡ tile_count grid) ls) (sym c.in_ok-links.ensures.records) sizes))

pub returns : goal.returns
returns g c =
    let grid = c.args.grid.now in
    let makers = c.args.makers.now in
    let link_of = g.M.MakesLinks.link_of in
    let times_of = g.M.MakesLinks.times_of in
    let all = flat_map (λ p. p.records.items) c.args.pieces.now ++ ends_from 0 c.args.segments.now in
    let found = c.in_ok-found.found.items in
    let records = c.in_ok-records.records.items in
    let shares = subst (λ (ss : List Share). AreSharesFrom None ss) (sym c.deref.ensures.value) c.in_ok-shares.ensures in
    let apart = shares_linked grid link_of times_of makers (λ f. f.links.items.items) (λ f. f.records.items) all c.deref.result.now found shares c.in_ok-found.ensures in
    let lists = ap (map (λ l. l.items)) c.deref-2.ensures.value ∙ c.in_ok-links.ensures.records in
    let sums = subst (λ (x : ℕ × List (List ℕ)). AreSums x.0 x.1 records) (λ i. (c.tiles.ensures.value i, lists i)) c.in_ok-records.ensures in
    shares_joined grid link_of times_of makers (λ f. f.links.items.items) (λ f. f.records.items) all found apart (flat_map (λ l. l.items.items) c.in_ok-links.links.items) records c.in_ok-links.ensures.links sums
