use Rattle.std.proofs.Common.{arith, get_or, rules, subst}
use Rattle.std.proofs.lemmas.List.{get_or_default}
use Rattle.geom.specs.declared.point.Pt.{Pt}
use Rattle.geom.specs.Limit.{InLimit}
use Rattle.label_sweep.specs.Labels.{IsSweptUpTo}
use Rattle.label_sweep.specs.Slots.{all_standing}
use Rattle.label_sweep.proofs.Limits.{slice_in_limit}
use Rattle.label_sweep.proofs.Sweeping.{all_labelled, begins, here_at, next_one, none_labelled, origin, up_to_none}
use Rattle.label_sweep.proofs.pass.sweep.Goals as goal

pub loop-number-init : goal.loop-number-init
loop-number-init g c = (
  (λ all h. (
    begins all c.args.before.now c.args.own.now c.args.vertices.now h (all_standing c.in_ok-line.line.standing)
        (λ u l. subst (λ v. IsSweptUpTo all v (all_standing c.in_ok-line.line.standing)) (get_or_default c.args.vertices.now 0 origin u l) (c.in_ok-line.ensures.swept all (h.first origin l))),
    rw c.in_ok-labelled.ensures.items (up_to_none all c.args.own.now),
    c.in_ok-line.ensures.kept,
  )),
  c.in_ok-line.ensures.kept.chunked.some,
  omega arith,
)

pub last_of-next-requires : goal.last_of-next-requires
last_of-next-requires g c = c.loop-number.invariant.2

pub pass-requires-clause-v_in : goal.pass-requires-clause-v_in
pass-requires-clause-v_in g c = let n = c.loop-number.number in let inside = c.loop-number-test.true in
    let P : Pt → Type 0 = InLimit in
    subst P (get_or_default c.args.vertices.now n origin _ (omega (arith, inside))) (c.requires.vertices_in n origin (omega (arith, inside)))

pub pass-requires-clause-own_in : goal.pass-requires-clause-own_in
pass-requires-clause-own_in g c = slice_in_limit c.args.own.now c.requires.own_in c.loop-number.next c.last_of-next.result

pub loop-number-preserved : goal.loop-number-preserved
loop-number-preserved g c =
    let l = c.last_of-next.ensures in
    let k = c.in_ok-pass.ensures in (
      (λ all h.
          let at = here_at all c.args.before.now c.args.own.now c.args.vertices.now h c.loop-number.number c.loop-number.next c.last_of-next.result (all_standing c.loop-number.line.standing)
          (c.loop-number.invariant.0 all h).0 (get_or c.args.vertices.now c.loop-number.number origin) (omega (arith, c.loop-number-test.true)) (get_or_default c.args.vertices.now c.loop-number.number origin _ (omega (arith, c.loop-number-test.true)))
          l.from l.within l.begun (l.past h.own_ascends) in (
            next_one all c.args.before.now c.args.own.now c.args.vertices.now h c.loop-number.number c.loop-number.next c.last_of-next.result (all_standing c.loop-number.line.standing)
                (c.loop-number.invariant.0 all h).0 (get_or c.args.vertices.now c.loop-number.number origin) (omega (arith, c.loop-number-test.true)) (get_or_default c.args.vertices.now c.loop-number.number origin _ (omega (arith, c.loop-number-test.true)))
                l.from l.within l.begun (l.past h.own_ascends) (all_standing c.pass.new.self.standing) (k.swept all (record { at = at; kept = (c.loop-number.invariant.0 all h).2 })),
            k.labelled all (record { at = at; kept = (c.loop-number.invariant.0 all h).2 }) (c.loop-number.invariant.0 all h).1,
            k.kept all (record { at = at; kept = (c.loop-number.invariant.0 all h).2 }),
          )),
      k.some,
      l.within,
    )

pub returns-then-is_empty : goal.returns-then-is_empty
returns-then-is_empty g c = λ all h. rw c.new.ensures.items (none_labelled all c.args.before.now c.args.own.now c.args.vertices.now h (search rules))

pub returns : goal.returns
returns g c = λ all h.
    let i = c.loop-number.invariant.0 all h in
    all_labelled all c.args.before.now c.args.own.now c.args.vertices.now h c.loop-number.number c.loop-number.next (all_standing c.loop-number.line.standing) (omega (arith, c.loop-number-test.false)) i.0 c.loop-number.labelled.items i.1
