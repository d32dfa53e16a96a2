use Rattle.std.proofs.Common.{refl, ◌-◌, arith, ◌≡◌, ◌≤◌, get_or, take, length, List, [], ◌∷◌}
use Rattle.std.proofs.Math.IntN.{pos}
use Rattle.std.proofs.lemmas.Grind.{common_steps}
use Rattle.std.proofs.lemmas.Option.{slice_get_read}
use Rattle.std.proofs.lemmas.List.{get_or_default, take_all}
use Rattle.routing.specs.declared.record.Record.{Record}
use Rattle.linking.specs.Links.{record_pairs}
use Rattle.linking.proofs.Walk.{walk_skip, walk_push}
use Rattle.linking.proofs.neighbours.neighbour_links.Goals as goal
use Rattle.linking.proofs.neighbours.neighbour_links.Goals.{then-start-end+in_ok-push, else-start-end}

no_pairs : (records : List Record) → record_pairs (take 1 records) ≡ []
no_pairs [] = refl
no_pairs (r ∷ rs) = refl

pub loop-i-init : goal.loop-i-init
loop-i-init g c = rw c.in_ok-list.ensures.items (omega arith, omega arith, λ e wanted test pass. rw (no_pairs c.args.records.now) refl)

pub loop-i-preserved : goal.loop-i-preserved
loop-i-preserved g c =
    let makers = c.args.makers.now in
    let records = c.args.records.now in
    let i = c.loop-i.i in
    let blank : Record = record { segment = 0; steps = 0; pixel = record { x = pos 0; y = pos 0 } } in
    let low : 1 ≤ i = c.loop-i.auto.i in
    let high = c.loop-i-test.true in
    let start = get_or records (i - 1) blank in
    let end = get_or records i blank in
    let start_is = get_or_default records (i - 1) blank start (omega arith) in
    let end_is = get_or_default records i blank end high in
    elim c.if-start-end.branch [
      | then-start-end+in_ok-push w ↦ rw (w.list-is, w.in_ok-push.ensures.items) (
        grind (arith, common_steps, c.loop-i.invariant.0),
        grind (arith, common_steps, c.loop-i.invariant.0),
        λ e wanted test pass. walk_push g.M.MakesLinks.link_of makers records c.loop-i.list.items i start end low high start_is end_is e wanted test pass (c.loop-i.invariant.2 e wanted test pass) w.if-start-end.true w.index-makers-start.result
            (slice_get_read makers (length makers) start.segment w.index-makers-start.result refl (c.requires.below (i - 1) blank (omega arith)) w.index-makers-start.is)
            w.edge_between-edge.result w.edge_between-edge.ensures w.link.result w.link.ensures,
      )
      | else-start-end w ↦ rw w.list-is (let h = c.loop-i.invariant.0 in omega arith, c.loop-i.invariant.1, λ e wanted test pass. walk_skip g.M.MakesLinks.link_of makers records c.loop-i.list.items i start end low high start_is end_is e wanted test pass (c.loop-i.invariant.2 e wanted test pass) w.if-start-end.false)
    ]

pub returns : goal.returns
returns g c = record {
  few = c.loop-i.invariant.1;
  count_is = λ e wanted test pass. rw (← take_all c.loop-i.i c.args.records.now c.loop-i-test.false) (c.loop-i.invariant.2 e wanted test pass);
}
