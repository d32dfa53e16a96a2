use Rattle.std.proofs.Common.{◌++◌, take, drop, length, ap, ◌∙◌, arith}
use Rattle.std.proofs.lemmas.List.{append-nil}
use Rattle.label_sweep.specs.Slots.{all_standing}
use Rattle.label_sweep.proofs.pass.SweepLine.fill.Goals as goal

pub returns-clause-standing : goal.returns-clause-standing
returns-clause-standing g c =
    let none = all_standing c.args.self.now.standing in
    rw c.requires.empty at (c.in_ok-replace.ensures.all c.requires.kept (omega arith) (omega arith) ∙ ap (λ t. take 0 none ++ t ++ drop 0 none) (c.deref.ensures.value ∙ c.in_ok-stand.ensures)) ∙ append-nil _

pub returns-clause-kept : goal.returns-clause-kept
returns-clause-kept g c = c.in_ok-replace.ensures.kept c.requires.kept
    (record { chunk = c.requires.kept.chunked.some; within = λ d. omega arith; behind_first = λ m. absurd (omega (arith, m)) }) (omega arith) (omega arith)

pub returns-clause-free : goal.returns-clause-free
returns-clause-free g c v = c.in_ok-replace.ensures.free v c.requires.kept (omega arith) (omega arith) (λ i d l. absurd (omega (arith, l, ap length c.requires.free))) (λ i d l. absurd (omega (arith, l)))
