use Rattle.std.proofs.Common.{◌≤◌, length, subst, sym}
use Rattle.hands.specs.Consecutive.{ArePartsOf}
use Rattle.hands.proofs.Consecutive.{behind_one_another, each_part}
use Rattle.polygonize.specs.Leaving.{AreListed, AreNextPlaces}
use Rattle.polygonize.proofs.NextEdge.Linking.{both_linked, none_linked}
use Rattle.polygonize.proofs.successor.next_places_in_parts.Goals as goal

pub map_parts-requires-after_bounds : goal.map_parts-requires-after_bounds
map_parts-requires-after_bounds g c κs within =
    let edges = c.args.edges.list.now in
    let are = subst (ArePartsOf 0 (length edges)) (sym c.deref.ensures.value) c.in_ok-all.ensures in
    each_part (λ p. AreListed edges c.args.found.now × (p.from ≤ p.past) × (p.past ≤ length edges)) 0 (length edges) c.deref.result.now are
    (λ p low order inside. (c.requires, order, inside))

pub returns : goal.returns
returns g c =
    let edges = c.args.edges.list.now in
    let are = subst (ArePartsOf 0 (length edges)) (sym c.deref.ensures.value) c.in_ok-all.ensures in
    rw c.in_ok-joined.ensures (behind_one_another (λ l. l.items) (AreNextPlaces edges) (none_linked edges) (λ a b d next more p q. both_linked edges a b d next more) 0 (length edges) c.deref.result.now c.in_ok-lists.lists.items are c.in_ok-lists.ensures)
