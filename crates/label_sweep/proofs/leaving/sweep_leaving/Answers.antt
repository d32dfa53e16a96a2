use Rattle.std.proofs.Common.{[], arith, rules, subst}
use Rattle.std.proofs.Math.Logic.{∥∥₁_elim, ∥∥₁_map}
use Rattle.std.proofs.Props.{props}
use Rattle.std.proofs.lemmas.List.{get_or_default}
use Rattle.geom.specs.Rounded.{edges_of}
use Rattle.label_sweep.specs.declared.second_ends.Ending.TheVariants.{One}
use Rattle.label_sweep.specs.Labels.{IsSweptUpTo}
use Rattle.label_sweep.specs.Leaving.{AreLeaving}
use Rattle.label_sweep.specs.Slots.{all_standing}
use Rattle.label_sweep.proofs.EndingsTold.{ending_told}
use Rattle.label_sweep.proofs.Ends.{some_are}
use Rattle.label_sweep.proofs.LeavingEdges.{leaving_one, no_leaving, ready_at, ready_first, ready_next}
use Rattle.label_sweep.proofs.Parts.{all_sliced}
use Rattle.label_sweep.proofs.Sweeping.{before_in_limit, origin}
use Rattle.label_sweep.proofs.leaving.sweep_leaving.Goals as goal

pub before-requires : goal.before-requires
before-requires g c = ∥∥₁_elim c.requires (hlevel props) (λ h. before_in_limit h.0 c.args.before.now c.args.own.now c.args.vertices.now h.1 (some_are _ c.if-is_empty.ensures))

pub loop-number-init : goal.loop-number-init
loop-number-init g c = (
  (λ all h t. (
    ready_first all c.args.before.now c.args.own.now c.args.vertices.now h c.in_ok-sweep.sweep.line.standing
        (λ u l. subst (λ v. IsSweptUpTo all v (all_standing c.in_ok-sweep.sweep.line.standing)) (get_or_default c.args.vertices.now 0 origin u l) (c.in_ok-sweep.ensures.swept all (h.first origin l)))
        c.in_ok-sweep.ensures.kept c.in_ok-sweep.ensures.free c.in_ok-sweep.sweep.began.items c.in_ok-sweep.ensures.upright,
    rw c.in_ok-edges.ensures.items (no_leaving c.args.op all),
  )),
  omega arith,
)

pub bounds-endings-number : goal.bounds-endings-number
bounds-endings-number g c = ∥∥₁_elim c.requires (hlevel props) (λ h. let t = h.2.long in omega (arith, t, c.loop-number-test.true))

pub last_of-next-requires : goal.last_of-next-requires
last_of-next-requires g c = c.loop-number.invariant.1

pub pass-requires : goal.pass-requires
pass-requires g c =
    let l = c.last_of-next.ensures in
    record {
      here = ∥∥₁_map c.requires (λ h. (
        h.0,
        ready_at h.0 c.args.before.now c.args.own.now c.args.vertices.now h.1 c.loop-number.number c.loop-number.next c.last_of-next.result c.loop-number.sweep.line.standing c.loop-number.sweep.began.items
            (c.loop-number.invariant.0 h.0 h.1 h.2).0 c.loop-number-test.true l.from l.within l.begun (l.past h.1.own_ascends),
      ));
    }

pub loop-number-preserved : goal.loop-number-preserved
loop-number-preserved g c =
    let l = c.last_of-next.ensures in
    let vs = c.args.vertices.now in
    let n = c.loop-number.number in (
      (λ all h t.
          let before = c.loop-number.invariant.0 all h t in
          let at = ready_at all c.args.before.now c.args.own.now vs h n c.loop-number.next c.last_of-next.result c.loop-number.sweep.line.standing c.loop-number.sweep.began.items
          before.0 c.loop-number-test.true l.from l.within l.begun (l.past h.own_ascends) in
          let ending = ending_told (edges_of all) vs c.args.endings.now t n origin One c.loop-number-test.true in (
            ready_next all c.args.before.now c.args.own.now vs h n c.loop-number.next c.last_of-next.result c.loop-number.sweep.line.standing c.loop-number.sweep.began.items
                before.0 c.loop-number-test.true l.from l.within l.begun (l.past h.own_ascends) c.pass.new.self.line.standing c.pass.new.self.began.items (c.in_ok-pass.ensures.past all at ending),
            leaving_one c.args.op all vs h.ascending n origin c.loop-number-test.true c.loop-number.edges.items c.leave.new.edges.items
                (c.in_ok-leave.ensures all h.layers (rw c.deref.ensures.value (c.in_ok-pass.ensures.around all at ending))) before.1,
          )),
      l.within,
    )

pub returns-then-is_empty : goal.returns-then-is_empty
returns-then-is_empty g c = λ all h t. rw c.new.ensures.items (subst (λ ps. AreLeaving c.args.op all ps []) (all_sliced c.args.vertices.now 0 (search rules)) (no_leaving c.args.op all))

pub returns : goal.returns
returns g c = λ all h t.
    let vs = c.args.vertices.now in
    subst (λ ps. AreLeaving c.args.op all ps c.loop-number.edges.items) (all_sliced vs c.loop-number.number (omega arith)) (c.loop-number.invariant.0 all h t).1
