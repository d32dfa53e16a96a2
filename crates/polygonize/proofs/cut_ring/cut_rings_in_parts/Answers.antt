use Rattle.std.proofs.Common.{◌≤◌, length, subst, sym}
use Rattle.hands.specs.Consecutive.{ArePartsOf}
use Rattle.hands.proofs.Consecutive.{behind_one_another, each_part}
use Rattle.polygonize.specs.CutRing.{AreCyclesCut, AreCyclesOf}
use Rattle.polygonize.proofs.WrittenRings.Cuts.{both_cut, none_cut}
use Rattle.polygonize.proofs.cut_ring.cut_rings_in_parts.Goals as goal

pub map_parts-requires-after_bounds : goal.map_parts-requires-after_bounds
map_parts-requires-after_bounds g c κs within =
    let n = length c.args.cycles.now in
    let are = subst (ArePartsOf 0 n) (sym c.deref.ensures.value) (rw c.count.ensures at c.in_ok-all.ensures) in
    each_part (λ p. AreCyclesOf c.args.edges.list.now c.args.numbers.now c.args.cycles.now × (p.from ≤ p.past) × (p.past ≤ n)) 0 n c.deref.result.now are (λ p low order inside. (c.requires, order, inside))

pub returns : goal.returns
returns g c =
    let edges = c.args.edges.list.now in
    let cycles = c.args.cycles.now in
    let are = subst (ArePartsOf 0 (length cycles)) (sym c.deref.ensures.value) (rw c.count.ensures at c.in_ok-all.ensures) in
    rw c.in_ok-joined.ensures (behind_one_another (λ l. l.items) (AreCyclesCut edges cycles) (none_cut edges cycles) (λ a b d rings more p q. both_cut edges cycles a b d rings more) 0 (length cycles) c.deref.result.now c.in_ok-lists.lists.items are c.in_ok-lists.ensures)
