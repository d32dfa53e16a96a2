use Rattle.std.proofs.Common.{◌≤◌, length}
use Rattle.std.specs.Prelude.{All}
use Rattle.hands.specs.declared.part.Part.{Part}
use Rattle.hands.specs.Consecutive.{ArePartsOf}
use Rattle.hands.proofs.Consecutive.{each_part}
use Rattle.rows.specs.Made.{IsBound, IsRowOf}
use Rattle.rows.proofs.Zips.{all_parts}
use Rattle.rows.proofs.parts.made_in_parts.Goals as goal

pub map_parts-requires-after_bounds : goal.map_parts-requires-after_bounds
map_parts-requires-after_bounds g c κs within =
    let all = c.args.row_sets.now in
    let ps = c.deref.result.now in
    let parts : ArePartsOf 0 (length all) ps = rw c.deref.ensures.value c.in_ok-parts.ensures in
    each_part (λ (p : Part). (p.from ≤ p.past) × (p.past ≤ length all) × All (IsBound c.args.sets.now c.args.edges.now) all) 0 (length all) ps parts (λ p low order high. (order, high, c.requires))

pub returns : goal.returns
returns g c =
    let all = c.args.row_sets.now in
    let ps = c.deref.result.now in
    let parts : ArePartsOf 0 (length all) ps = rw c.deref.ensures.value c.in_ok-parts.ensures in
    rw c.in_ok-joined.ensures (all_parts (IsRowOf c.args.sets.now c.args.edges.now) (λ l. l.items) all ps c.in_ok-lists.lists.items parts c.in_ok-lists.ensures)
