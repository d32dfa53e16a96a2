use Rattle.std.proofs.Common.{◌≡◌, ◌≤◌, IfSome, Some, flat_map, length, map}
use Rattle.std.proofs.lemmas.Option.{IfSome_then}
use Rattle.std.proofs.lemmas.Result.{IfOk-weaker}
use Rattle.hands.specs.declared.part.Part.{Part}
use Rattle.hands.proofs.Consecutive.{each_part}
use Rattle.distinct.specs.Copies.{AreCopies}
use Rattle.distinct.proofs.KeptLaws.{copies_alone}
use Rattle.distinct.proofs.in_parts.copies_in_parts.Goals as goal

pub map_parts-requires-after_bounds : goal.map_parts-requires-after_bounds
map_parts-requires-after_bounds g c κs within =
    let past = length c.args.segments.now in
    each_part (λ (p : Part). (p.from ≤ p.past) × (p.past ≤ past)) 0 past c.args.cuts.now c.requires (λ p low order high. (order, high))

pub returns : goal.returns
returns g c =
    let all = c.args.segments.now in
    IfOk-weaker c.all_there.result (λ there. IfSome there (λ lists. map Some lists.items ≡ c.in_ok-found.found.items)) (λ there. IfSome there (λ lists. AreCopies all all (flat_map (λ l. l.items) lists.items)))
    (λ there h. IfSome_then there h (λ lists e. copies_alone all (λ l. l.items) c.args.cuts.now lists.items c.in_ok-found.found.items c.requires c.in_ok-found.ensures e)) c.all_there.ensures
