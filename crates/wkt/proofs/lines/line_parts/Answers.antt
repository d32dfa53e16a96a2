use Rattle.std.proofs.Common.{◌≤◌, arith, get_or, length, refl}
use Rattle.std.proofs.lemmas.Int.{clamps}
use Rattle.std.proofs.lemmas.List.Elements.{All-nil}
use Rattle.hands.specs.declared.part.Part.{Part}
use Rattle.hands.proofs.Consecutive.{each_part, no_parts}
use Rattle.wkt.specs.WholeLines.{AreWholeLines}
use Rattle.wkt.proofs.WholeLines.{last_line, line_more}
use Rattle.wkt.proofs.lines.line_parts.Goals as goal
use Rattle.wkt.proofs.lines.line_parts.Goals.{in-Some+in_ok-push, in_default}

pub loop-even-init : goal.loop-even-init
loop-even-init g c = rw c.in_ok-all.ensures.items (no_parts 0, All-nil (AreWholeLines c.args.text.now), omega arith)

pub line_from-requires : goal.line_from-requires
line_from-requires g c =
    let evens = c.deref-even-items.result.now in
    let inside : (get_or evens c.loop-even.even-index (record { from = 0; past = 0 })).past ≤ length c.args.text.now =
    each_part (λ (p : Part). p.past ≤ length c.args.text.now) 0 (length c.args.text.now) evens (rw c.deref-even-items.ensures.value c.in_ok-even_parts.ensures) (λ p low order high. high) c.loop-even.even-index _ c.loop-even-test.true in
    omega (arith, clamps, inside, c.loop-even.invariant.2)

pub loop-even-preserved : goal.loop-even-preserved
loop-even-preserved g c = elim c.match-line_from.branch [
  | in-Some+in_ok-push w ↦
      let found = w.in-Some.ensures in
      let more = line_more c.args.text.now c.loop-even.from w.in-Some.past _ c.loop-even.all.items c.loop-even.invariant.0 c.loop-even.invariant.1 refl refl (omega (arith, clamps, found.0)) (λ short. found.2) in
      rw (w.all-is, w.from-is, w.in_ok-push.ensures.items) (more.0, more.1, found.1)
  | in_default w ↦ rw (w.all-is, w.from-is) c.loop-even.invariant
]

pub returns-clause-parts : goal.returns-clause-parts
returns-clause-parts g c = rw c.in_ok-push-2.ensures.items (last_line c.args.text.now c.loop-even.from _ c.loop-even.all.items c.loop-even.invariant.0 c.loop-even.invariant.1 refl refl c.loop-even.invariant.2).0

pub returns-clause-lines : goal.returns-clause-lines
returns-clause-lines g c = rw c.in_ok-push-2.ensures.items (last_line c.args.text.now c.loop-even.from _ c.loop-even.all.items c.loop-even.invariant.0 c.loop-even.invariant.1 refl refl c.loop-even.invariant.2).1
