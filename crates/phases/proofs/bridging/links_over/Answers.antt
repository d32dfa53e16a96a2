use Rattle.std.proofs.Common.{◌<◌, ◌∙◌, ap, arith, get_or, length}
use Rattle.std.proofs.Math.IntN.{pos}
use Rattle.std.proofs.lemmas.List.{get_or_default}
use Rattle.std.specs.Prelude.{None, count_by}
use Rattle.geom.specs.declared.segment.Source.TheVariants.{A}
use Rattle.geom.specs.Rounded.{joins}
use Rattle.strips_law.specs.declared.line.Open.{Open}
use Rattle.strips_law.specs.declared.line.Carried.{Carried}
use Rattle.phases.proofs.Over.{linked_more, steps_end, zip_size}
use Rattle.phases.proofs.bridging.links_over.Goals as goal
use Rattle.phases.proofs.bridging.links_over.Goals.{in-Some+in_ok-push, in_default}

pub loop-i-preserved : goal.loop-i-preserved
loop-i-preserved g c apart e layer =
    let right = c.args.right.now in
    let carried = c.args.carried.now in
    let i = c.loop-i.i in
    let no_open : Open = record { number = 0; layer = A; near = None } in
    let no_carried : Carried = record { number = 0; pixel = record { x = pos 0; y = pos 0 } } in
    let o = get_or right i no_open in
    let d = get_or carried i no_carried in
    let m = c.min-i-end.ensures in
    let t = c.loop-i-test.true in
    let first : i < length right = omega (arith, m, t) in
    let second : i < length carried = omega (arith, m, t) in
    let more = linked_more right carried i o d first second (get_or_default right i no_open o first) (get_or_default carried i no_carried d second) e layer c.loop-i.links.items (c.loop-i.invariant apart e layer) apart c.link_over.result c.link_over.ensures.none c.link_over.ensures.some in
    elim c.match-link_over.branch [
      | in-Some+in_ok-push w ↦ rw (w.links-is, w.in_ok-push.ensures.items) (more.0 w.in-Some.link w.in-Some.is)
      | in_default w ↦ rw w.links-is (more.1 w.in_default.is)
    ]

pub returns : goal.returns
returns g c apart e layer =
    let m = c.min-i-end.ensures in
    let t = c.loop-i-test.false in
    let s = zip_size _ c.args.right.now c.args.carried.now apart in
    c.loop-i.invariant apart e layer ∙ ap (count_by (joins e)) (steps_end layer c.args.right.now c.args.carried.now c.loop-i.i (omega (arith, m, t, s)) (omega (arith, m, t, s)))
