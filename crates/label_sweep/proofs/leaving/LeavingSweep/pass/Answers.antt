use Rattle.std.proofs.Common.{◌≡◌, ◌≤◌, ◌-◌, ◌+◌, ℕ, List, arith, refl, sym, ap, ◌∙◌, subst}
use mathlib.Core.Bool.{false≢true}
use Rattle.std.proofs.Math.Logic.{∥∥₁_elim, ∥∥₁_map}
use Rattle.std.proofs.Props.{props}
use Rattle.geom.specs.declared.edge.Counted.{Counted}
use Rattle.geom.specs.declared.point.Pt.{Pt}
use Rattle.label_sweep.specs.declared.leaving.LeavingSweep.{LeavingSweep}
use Rattle.label_sweep.specs.Leaving.{IsReadyAt}
use Rattle.label_sweep.proofs.leaving.LeavingSweep.pass.Goals.{in-One-eq1+in_ok-passed-in-One-eq1, in-Two-eq2+in_ok-passed-in-Two-eq2, in_default, in_default-2, in_default-3}
use Rattle.label_sweep.proofs.leaving.LeavingSweep.pass.Goals as goal

-- so many edges begin
so_many_more : (from next count : ℕ) → from ≤ next → next - from ≡ count → next ≡ from + count
so_many_more from next count order e = omega (arith, order, e)

-- what is ready stays so where what stands and the upright edges do
module _ {A : Type 0} (all own : List Counted) (v : Pt) (from : ℕ) (old : LeavingSweep A) where
  abbrev Ready : ℕ → LeavingSweep A → Type 0
  Ready next sweep = IsReadyAt all own v from next sweep.line.standing sweep.began.items

  ready_for : (next count : ℕ) → next - from ≡ count → Ready next old → Ready (from + count) old
  ready_for next count e h = subst (λ n. Ready n old) (so_many_more from next count h.at.at.begin.order e) h

  still : (next : ℕ) (new : LeavingSweep A) → (new.line.standing ≡ old.line.standing) × (new.began ≡ old.began) → Ready next old → Ready next new
  still next new (l, b) h = subst (λ t. IsReadyAt all own v from next new.line.standing t.items) (sym b) (subst (λ t. IsReadyAt all own v from next t old.began.items) (sym l) h)

pub overflow_sub-next : goal.overflow_sub-next
overflow_sub-next g c = ∥∥₁_elim c.requires.here (hlevel props) (λ h. h.1.at.at.begin.order)

pub pass_on-requires : goal.pass_on-requires
pass_on-requires g c = record {
  here = ∥∥₁_map c.requires.here (λ h. (h.0, ready_for h.0 c.args.own.now c.args.v c.args.from c.args.self.now c.args.next 1 c.in-One-eq1.is-1 h.1));
}

pub pass_both-requires : goal.pass_both-requires
pass_both-requires g c = record {
  here = ∥∥₁_map c.requires.here (λ h. (h.0, ready_for h.0 c.args.own.now c.args.v c.args.from c.args.self.now c.args.next 2 c.in-Two-eq2.is-1 h.1));
}

pub turn-requires : goal.turn-requires
turn-requires g c = record {
  here = ∥∥₁_map c.requires.here (λ h. (
    h.0,
    still h.0 c.args.own.now c.args.v c.args.from c.args.self.now c.args.next c.match-ending.self (elim c.match-ending.branch [
      | in-One-eq1+in_ok-passed-in-One-eq1 w ↦ rw w.self-is (let n = w.in_ok-passed-in-One-eq1.ensures.not_yet (sym w.passed-is ∙ c.if-not-passed.true) in (ap (λ l. l.standing) n.0, n.1))
      | in-Two-eq2+in_ok-passed-in-Two-eq2 w ↦ rw w.self-is (w.in_ok-passed-in-Two-eq2.ensures.standing (sym w.passed-is ∙ c.if-not-passed.true), w.in_ok-passed-in-Two-eq2.ensures.began (sym w.passed-is ∙ c.if-not-passed.true))
      | in_default w ↦ rw w.self-is (refl, refl)
      | in_default-2 w ↦ rw w.self-is (refl, refl)
      | in_default-3 w ↦ rw w.self-is (refl, refl)
    ]) h.1,
  ));
}

pub returns-in_ok-turn-clause-past : goal.returns-in_ok-turn-clause-past
returns-in_ok-turn-clause-past g c all h ending = c.in_ok-turn.ensures.past all (still all c.args.own.now c.args.v c.args.from c.args.self.now c.args.next c.match-ending.self (elim c.match-ending.branch [
  | in-One-eq1+in_ok-passed-in-One-eq1 w ↦ rw w.self-is (let n = w.in_ok-passed-in-One-eq1.ensures.not_yet (sym w.passed-is ∙ c.if-not-passed.true) in (ap (λ l. l.standing) n.0, n.1))
  | in-Two-eq2+in_ok-passed-in-Two-eq2 w ↦ rw w.self-is (w.in_ok-passed-in-Two-eq2.ensures.standing (sym w.passed-is ∙ c.if-not-passed.true), w.in_ok-passed-in-Two-eq2.ensures.began (sym w.passed-is ∙ c.if-not-passed.true))
  | in_default w ↦ rw w.self-is (refl, refl)
  | in_default-2 w ↦ rw w.self-is (refl, refl)
  | in_default-3 w ↦ rw w.self-is (refl, refl)
]) h)

pub returns-in_ok-turn-clause-around : goal.returns-in_ok-turn-clause-around
returns-in_ok-turn-clause-around g c all h ending = c.in_ok-turn.ensures.around all (still all c.args.own.now c.args.v c.args.from c.args.self.now c.args.next c.match-ending.self (elim c.match-ending.branch [
  | in-One-eq1+in_ok-passed-in-One-eq1 w ↦ rw w.self-is (let n = w.in_ok-passed-in-One-eq1.ensures.not_yet (sym w.passed-is ∙ c.if-not-passed.true) in (ap (λ l. l.standing) n.0, n.1))
  | in-Two-eq2+in_ok-passed-in-Two-eq2 w ↦ rw w.self-is (w.in_ok-passed-in-Two-eq2.ensures.standing (sym w.passed-is ∙ c.if-not-passed.true), w.in_ok-passed-in-Two-eq2.ensures.began (sym w.passed-is ∙ c.if-not-passed.true))
  | in_default w ↦ rw w.self-is (refl, refl)
  | in_default-2 w ↦ rw w.self-is (refl, refl)
  | in_default-3 w ↦ rw w.self-is (refl, refl)
]) h)

pub returns-else-not-passed-clause-past : goal.returns-else-not-passed-clause-past
returns-else-not-passed-clause-past g c all h ending = elim c.match-ending.branch [
  | in-One-eq1+in_ok-passed-in-One-eq1 w ↦ rw w.self-is (w.in_ok-passed-in-One-eq1.ensures.past all
      (ready_for all c.args.own.now c.args.v c.args.from c.args.self.now c.args.next 1 w.in-One-eq1.is-1 h) (ending.once w.in-One-eq1.is-0) (sym w.passed-is ∙ c.if-not-passed.false))
  | in-Two-eq2+in_ok-passed-in-Two-eq2 w ↦ rw w.self-is (w.in_ok-passed-in-Two-eq2.ensures.past all
      (ready_for all c.args.own.now c.args.v c.args.from c.args.self.now c.args.next 2 w.in-Two-eq2.is-1 h) (ending.twice w.in-Two-eq2.is-0) (sym w.passed-is ∙ c.if-not-passed.false))
  | in_default w ↦ absurd (false≢true (sym w.passed-is ∙ c.if-not-passed.false))
  | in_default-2 w ↦ absurd (false≢true (sym w.passed-is ∙ c.if-not-passed.false))
  | in_default-3 w ↦ absurd (false≢true (sym w.passed-is ∙ c.if-not-passed.false))
]

pub returns-else-not-passed-clause-around : goal.returns-else-not-passed-clause-around
returns-else-not-passed-clause-around g c all h ending = elim c.match-ending.branch [
  | in-One-eq1+in_ok-passed-in-One-eq1 w ↦ rw w.self-is (w.in_ok-passed-in-One-eq1.ensures.around all
      (ready_for all c.args.own.now c.args.v c.args.from c.args.self.now c.args.next 1 w.in-One-eq1.is-1 h) (ending.once w.in-One-eq1.is-0) (sym w.passed-is ∙ c.if-not-passed.false))
  | in-Two-eq2+in_ok-passed-in-Two-eq2 w ↦ rw w.self-is (w.in_ok-passed-in-Two-eq2.ensures.around all
      (ready_for all c.args.own.now c.args.v c.args.from c.args.self.now c.args.next 2 w.in-Two-eq2.is-1 h) (ending.twice w.in-Two-eq2.is-0) (sym w.passed-is ∙ c.if-not-passed.false))
  | in_default w ↦ absurd (false≢true (sym w.passed-is ∙ c.if-not-passed.false))
  | in_default-2 w ↦ absurd (false≢true (sym w.passed-is ∙ c.if-not-passed.false))
  | in_default-3 w ↦ absurd (false≢true (sym w.passed-is ∙ c.if-not-passed.false))
]
