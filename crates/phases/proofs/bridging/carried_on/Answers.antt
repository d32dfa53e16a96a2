use Rattle.std.proofs.Common.{get_or}
use Rattle.std.proofs.lemmas.List.{get_or_default}
use Rattle.std.specs.Prelude.{None}
use Rattle.geom.specs.declared.segment.Source.TheVariants.{A}
use Rattle.strips_law.specs.declared.line.Open.{Open}
use Rattle.phases.proofs.Over.{carried_more, never_lost}
use Rattle.phases.proofs.bridging.carried_on.Goals as goal
use Rattle.phases.proofs.bridging.carried_on.Goals.{in-Some+in_ok-push, in_default}

pub loop-i-preserved : goal.loop-i-preserved
loop-i-preserved g c passing =
    let left = c.args.left.now in
    let carried = c.args.carried.now in
    let blank : Open = record { number = 0; layer = A; near = None } in
    let o = get_or left c.loop-i.i blank in
    let inside = c.loop-i-test.true in
    let o_is = get_or_default left c.loop-i.i blank o inside in
    elim c.match-carried_by.branch [
      | in-Some+in_ok-push w ↦ rw (w.list-is, w.in_ok-push.ensures.items) (carried_more left carried c.loop-i.i o inside o_is c.carried_by.result c.carried_by.ensures.near c.carried_by.ensures.passing passing w.in-Some.pixel w.in-Some.is c.loop-i.list.items (c.loop-i.invariant passing))
      | in_default w ↦ absurd (never_lost left carried c.loop-i.i o inside o_is c.carried_by.result c.carried_by.ensures.near c.carried_by.ensures.passing passing w.in_default.is)
    ]
