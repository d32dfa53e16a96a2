use Rattle.std.proofs.Common.{arith, ◌≡◌, ℕ, ◌+◌, ◌<◌, ◌++◌, ◌∷◌, [], List, Bool, true, false, Vec, sym, ap, ◌∙◌}
use Rattle.lane_tests.proofs.Hits.{HasFound, found_none, found_part, found_one, found_other, found_all}
use Rattle.lane_tests.proofs.boxes.push_touching.Goals.{then-touches_at+in_ok-push, else-touches_at}
use Rattle.lane_tests.proofs.boxes.push_touching.Goals as goal

pub loop-at-init : goal.loop-at-init
loop-at-init g c = found_none _ _ _ _ c.requires.in_order

pub loop-at-preserved : goal.loop-at-preserved
loop-at-preserved g c = found_part _ _ _ _ _ _ _ _ c.loop-at.invariant (omega arith) c.in_ok-push_chunks.ensures

one : {A : Type 0} (p : ℕ → Bool) (from at end : ℕ) (old now : List ℕ) (r : Bool) (next out : Vec ℕ A) → HasFound p from at end old now → at < end → r ≡ p at → r ≡ true → next.items ≡ now ++ at ∷ [] → out ≡ next → HasFound p from (at + 1) end old out.items
one p from at end old now r next out h k e t f g = found_one p from at end old now out.items h k (sym e ∙ t) (ap (λ v. v.items) g ∙ f)

other : {A : Type 0} (p : ℕ → Bool) (from at end : ℕ) (old : List ℕ) (now out : Vec ℕ A) (r : Bool) → HasFound p from at end old now.items → at < end → r ≡ p at → r ≡ false → out ≡ now → HasFound p from (at + 1) end old out.items
other p from at end old now out r h k e t g = rw g (found_other p from at end old now.items h k (sym e ∙ t))

pub loop-at-2-preserved : goal.loop-at-2-preserved
loop-at-2-preserved g c =
    elim c.if-touches_at.branch [
      | then-touches_at+in_ok-push w ↦ one _ _ _ _ _ _ _ _ _ c.loop-at-2.invariant (omega arith) c.touches_at.ensures w.if-touches_at.true w.in_ok-push.ensures.items w.out-is
      | else-touches_at w ↦ other _ _ _ _ _ _ _ _ c.loop-at-2.invariant (omega arith) c.touches_at.ensures w.if-touches_at.false w.out-is
    ]

pub returns : goal.returns
returns g c = found_all _ _ _ _ _ _ c.loop-at-2.invariant (omega arith)
