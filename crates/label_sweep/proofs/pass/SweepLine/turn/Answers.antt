use Rattle.std.proofs.Common.{◌≡◌, ◌≤◌, ◌++◌, ◌∙◌, List, ap, drop, reverse, subst, sym, take}
use Rattle.label_sweep.specs.declared.standing.StandingEdge.{StandingEdge}
use Rattle.label_sweep.specs.Chunks.{number_of}
use Rattle.label_sweep.specs.Labels.{AreEnded, edge_beside, parities_beside, stands_from}
use Rattle.label_sweep.specs.Slots.{all_standing}
use Rattle.label_sweep.proofs.Beside.{besides_here}
use Rattle.label_sweep.proofs.Passing.{ended, have_ended, labels_here, low_first, of_range, parted, swept}
use Rattle.label_sweep.proofs.Places.{places_in_order}
use Rattle.label_sweep.proofs.pass.SweepLine.turn.Goals as goal

pub returns-clause-kept : goal.returns-clause-kept
returns-clause-kept g c all a =
    let h = a.at in
    let status = c.args.self.now.standing in
    let s = all_standing status in
    let chunks = status.chunks.items in
    let both = parted all h.layers c.args.v s h.swept in
    let l = c.first_not_below-low.ensures.between a.kept both.0 in
    let k = c.first_above-high.ensures.between a.kept both.1 l in
    let low = number_of chunks c.first_not_below-low.result in
    let high = number_of chunks c.first_above-high.result in
    let order : low ≤ high = low_first c.args.v s low high l.within l.before k.behind in
    let in_order = places_in_order chunks a.kept.chunked c.first_not_below-low.result c.first_above-high.result l.place k.place order in
    c.in_ok-replace.ensures.kept a.kept l.place in_order order

pub returns-clause-swept : goal.returns-clause-swept
returns-clause-swept g c all a =
    let h = a.at in
    let status = c.args.self.now.standing in
    let s = all_standing status in
    let chunks = status.chunks.items in
    let both = parted all h.layers c.args.v s h.swept in
    let l = c.first_not_below-low.ensures.between a.kept both.0 in
    let k = c.first_above-high.ensures.between a.kept both.1 l in
    let low = number_of chunks c.first_not_below-low.result in
    let high = number_of chunks c.first_above-high.result in
    let order : low ≤ high = low_first c.args.v s low high l.within l.before k.behind in
    let in_order = places_in_order chunks a.kept.chunked c.first_not_below-low.result c.first_above-high.result l.place k.place order in
    let left = c.parities_beside-left.result in
    let spokes = c.by_turn.new.spokes.items in
    let fresh : c.deref-2.result.now ≡ reverse (stands_from left spokes) = c.deref-2.ensures.value ∙ c.in_ok-stand.ensures ∙ ap (λ t. reverse (stands_from left t)) c.deref.ensures.value in
    let now : all_standing c.replace.new.self ≡ take low s ++ reverse (stands_from left spokes) ++ drop high s = c.in_ok-replace.ensures.all a.kept in_order order ∙ ap (λ t. take low s ++ t ++ drop high s) fresh in
    rw now (swept all h.layers c.args.v h.vertex s h.swept low high order
    l.before l.behind k.before k.behind k.within
    spokes (c.in_ok-by_turn.ensures.spokes all h.layers h.begin) (of_range all c.args.own.now c.args.v c.args.from c.args.next h.begin spokes c.in_ok-by_turn.ensures.inside)
    left (c.parities_beside-left.ensures ∙ ap parities_beside (c.lowest_from-lowest.ensures a.kept)))

pub returns-clause-ended : goal.returns-clause-ended
returns-clause-ended g c all a =
    let h = a.at in
    let status = c.args.self.now.standing in
    let s = all_standing status in
    let chunks = status.chunks.items in
    let both = parted all h.layers c.args.v s h.swept in
    let l = c.first_not_below-low.ensures.between a.kept both.0 in
    let k = c.first_above-high.ensures.between a.kept both.1 l in
    let low = number_of chunks c.first_not_below-low.result in
    let high = number_of chunks c.first_above-high.result in
    let order : low ≤ high = low_first c.args.v s low high l.within l.before k.behind in
    let in_order = places_in_order chunks a.kept.chunked c.first_not_below-low.result c.first_above-high.result l.place k.place order in
    let P : List StandingEdge → Type 0 = λ ts. AreEnded all c.args.v ts in
    subst P (sym (c.in_ok-replace.ensures.ended a.kept in_order order)) (ended all h.layers c.args.v h.vertex s h.swept low high order l.before l.behind k.before k.behind k.within)

pub returns-clause-free : goal.returns-clause-free
returns-clause-free g c all a old =
    let h = a.at in
    let status = c.args.self.now.standing in
    let s = all_standing status in
    let chunks = status.chunks.items in
    let both = parted all h.layers c.args.v s h.swept in
    let l = c.first_not_below-low.ensures.between a.kept both.0 in
    let k = c.first_above-high.ensures.between a.kept both.1 l in
    let low = number_of chunks c.first_not_below-low.result in
    let high = number_of chunks c.first_above-high.result in
    let order : low ≤ high = low_first c.args.v s low high l.within l.before k.behind in
    let in_order = places_in_order chunks a.kept.chunked c.first_not_below-low.result c.first_above-high.result l.place k.place order in
    c.in_ok-replace.ensures.free c.args.v a.kept in_order order old (have_ended all h.layers c.args.v h.vertex s h.swept low high order l.before l.behind k.before k.behind k.within)

pub returns-clause-spokes : goal.returns-clause-spokes
returns-clause-spokes g c all a = c.in_ok-by_turn.ensures.spokes all a.at.layers a.at.begin

pub returns-clause-labels : goal.returns-clause-labels
returns-clause-labels g c all a =
    let h = a.at in
    let status = c.args.self.now.standing in
    let s = all_standing status in
    let chunks = status.chunks.items in
    let both = parted all h.layers c.args.v s h.swept in
    let l = c.first_not_below-low.ensures.between a.kept both.0 in
    let k = c.first_above-high.ensures.between a.kept both.1 l in
    let low = number_of chunks c.first_not_below-low.result in
    let high = number_of chunks c.first_above-high.result in
    let order : low ≤ high = low_first c.args.v s low high l.within l.before k.behind in
    let lowest = c.lowest_from-lowest.result in
    let spokes = c.by_turn.new.spokes.items in
    labels_here all h.layers c.args.v h.vertex s h.swept low high order
    l.before l.behind k.before k.behind k.within
    spokes (c.in_ok-by_turn.ensures.spokes all h.layers h.begin) (of_range all c.args.own.now c.args.v c.args.from c.args.next h.begin spokes c.in_ok-by_turn.ensures.inside)
    (parities_beside lowest) (ap parities_beside (c.lowest_from-lowest.ensures a.kept))

pub returns-clause-besides : goal.returns-clause-besides
returns-clause-besides g c all a =
    let h = a.at in
    let status = c.args.self.now.standing in
    let s = all_standing status in
    let chunks = status.chunks.items in
    let both = parted all h.layers c.args.v s h.swept in
    let l = c.first_not_below-low.ensures.between a.kept both.0 in
    let k = c.first_above-high.ensures.between a.kept both.1 l in
    let low = number_of chunks c.first_not_below-low.result in
    let high = number_of chunks c.first_above-high.result in
    let order : low ≤ high = low_first c.args.v s low high l.within l.before k.behind in
    let lowest = c.lowest_from-lowest.result in
    besides_here all h.layers c.args.v h.vertex s h.swept low high order
    l.before l.behind k.before k.behind k.within
    c.by_turn.new.spokes.items (c.in_ok-by_turn.ensures.spokes all h.layers h.begin) (edge_beside lowest) (ap edge_beside (c.lowest_from-lowest.ensures a.kept))
