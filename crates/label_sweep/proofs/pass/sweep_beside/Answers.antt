use Rattle.std.proofs.Common.{arith, get_or, List, [], rules, subst, sym}
use Rattle.std.proofs.Math.Logic.{∥∥₁_elim, ∥∥₁_map}
use Rattle.std.proofs.Props.{props}
use Rattle.std.proofs.lemmas.List.{get_or_default}
use Rattle.geom.specs.Rounded.{edges_of}
use Rattle.label_sweep.specs.declared.swept.SweptEdge.{SweptEdge}
use Rattle.label_sweep.specs.Labels.{IsSweptUpTo}
use Rattle.label_sweep.specs.Slots.{all_standing}
use Rattle.label_sweep.specs.Swept.{AreSweptFrom}
use Rattle.label_sweep.proofs.Beside.{before_first, past_one}
use Rattle.label_sweep.proofs.Ends.{some_are}
use Rattle.label_sweep.proofs.Parts.{all_sliced}
use Rattle.label_sweep.proofs.Sweeping.{before_in_limit, begins, here_at, next_one, origin}
use Rattle.label_sweep.proofs.pass.sweep_beside.Goals as goal

pub before-requires : goal.before-requires
before-requires g c = ∥∥₁_elim c.requires (hlevel props) (λ h. before_in_limit h.0 c.args.before.now c.args.own.now c.args.vertices.now h.1 (some_are _ c.if-is_empty.ensures))

pub loop-number-init : goal.loop-number-init
loop-number-init g c = (
  (λ all h. (
    begins all c.args.before.now c.args.own.now c.args.vertices.now h (all_standing c.in_ok-line.line.standing)
        (λ u l. subst (λ v. IsSweptUpTo all v (all_standing c.in_ok-line.line.standing)) (get_or_default c.args.vertices.now 0 origin u l) (c.in_ok-line.ensures.swept all (h.first origin l))),
    rw c.in_ok-swept.ensures.items (before_first (edges_of all) c.args.vertices.now h.ascending 0),
  )),
  c.in_ok-line.ensures.kept,
  omega arith,
)

pub last_of-next-requires : goal.last_of-next-requires
last_of-next-requires g c = c.loop-number.invariant.2

pub pass_beside-requires-clause-here : goal.pass_beside-requires-clause-here
pass_beside-requires-clause-here g c =
    let l = c.last_of-next.ensures in
    ∥∥₁_map c.requires (λ h. (
      h.0,
      here_at h.0 c.args.before.now c.args.own.now c.args.vertices.now h.1 c.loop-number.number c.loop-number.next c.last_of-next.result (all_standing c.loop-number.line.standing)
          (c.loop-number.invariant.0 h.0 h.1).0 (get_or c.args.vertices.now c.loop-number.number origin) (omega (arith, c.loop-number-test.true)) (get_or_default c.args.vertices.now c.loop-number.number origin _ (omega (arith, c.loop-number-test.true)))
          l.from l.within l.begun (l.past h.1.own_ascends),
    ))

pub pass_beside-requires-clause-kept : goal.pass_beside-requires-clause-kept
pass_beside-requires-clause-kept g c = c.loop-number.invariant.1

pub loop-number-preserved : goal.loop-number-preserved
loop-number-preserved g c =
    let l = c.last_of-next.ensures in
    let k = c.in_ok-pass_beside.ensures in (
      (λ all h.
          let at = here_at all c.args.before.now c.args.own.now c.args.vertices.now h c.loop-number.number c.loop-number.next c.last_of-next.result (all_standing c.loop-number.line.standing)
          (c.loop-number.invariant.0 all h).0 (get_or c.args.vertices.now c.loop-number.number origin) (omega (arith, c.loop-number-test.true)) (get_or_default c.args.vertices.now c.loop-number.number origin _ (omega (arith, c.loop-number-test.true)))
          l.from l.within l.begun (l.past h.own_ascends) in (
            next_one all c.args.before.now c.args.own.now c.args.vertices.now h c.loop-number.number c.loop-number.next c.last_of-next.result (all_standing c.loop-number.line.standing)
                (c.loop-number.invariant.0 all h).0 (get_or c.args.vertices.now c.loop-number.number origin) (omega (arith, c.loop-number-test.true)) (get_or_default c.args.vertices.now c.loop-number.number origin _ (omega (arith, c.loop-number-test.true)))
                l.from l.within l.begun (l.past h.own_ascends) (all_standing c.pass_beside.new.self.standing) (k.swept all at),
            past_one (edges_of all) c.args.vertices.now h.ascending 0 c.loop-number.number origin (omega arith) (omega (arith, c.loop-number-test.true)) c.loop-number.swept.items c.pass_beside.new.swept.items (k.besides all at) (c.loop-number.invariant.0 all h).1,
          )),
      k.kept,
      l.within,
    )

pub returns-then-is_empty : goal.returns-then-is_empty
returns-then-is_empty g c = λ all h.
    let P : List SweptEdge → Type 0 = AreSweptFrom (edges_of all) c.args.vertices.now in
    subst P (sym c.new.ensures.items) (subst (λ ps. AreSweptFrom (edges_of all) ps []) (all_sliced c.args.vertices.now 0 (search rules)) (before_first (edges_of all) c.args.vertices.now h.ascending 0))

pub returns : goal.returns
returns g c = λ all h. subst (λ ps. AreSweptFrom (edges_of all) ps c.loop-number.swept.items) (all_sliced c.args.vertices.now c.loop-number.number (omega (arith, c.loop-number.auto.number-end, c.loop-number-test.false))) (c.loop-number.invariant.0 all h).1
