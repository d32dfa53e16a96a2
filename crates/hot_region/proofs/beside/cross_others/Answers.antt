use Rattle.std.proofs.Common.{arith, length, ◌≤◌, List, subst}
use Rattle.std.proofs.lemmas.List.{take_all}
use Rattle.hot_region.specs.declared.lines.Line.{Line}
use Rattle.hot_region.specs.Halving.{edges_of}
use Rattle.hot_region.specs.Lines.{HasBothCrossed}
use Rattle.hot_region.proofs.BesideLaws.{both_behind, both_first}
use Rattle.hot_region.proofs.beside.cross_others.Goals as goal

pub loop-from-init : goal.loop-from-init
loop-from-init g c = (omega arith, both_first c.args.rect.now (edges_of c.args.others.now) c.args.found.now.items)

pub cross_few-requires-clause-ends : goal.cross_few-requires-clause-ends
cross_few-requires-clause-ends g c = λ p k t. c.loop-from.invariant.1.kept p (c.requires p k t)

pub loop-from-preserved : goal.loop-from-preserved
loop-from-preserved g c =
    let lines = c.args.lines.now in
    let from = c.loop-from.from in
    let past = c.min-past.result in
    let behind : from ≤ past = omega (arith, c.min-past.ensures, c.loop-from-test.true) in
    let within : past ≤ length lines = omega (arith, c.min-past.ensures) in
    (within, both_behind c.args.rect.now (edges_of c.args.others.now) lines from past c.args.found.now.items c.loop-from.found.items c.cross_few.new.found.items behind c.loop-from.invariant.0 c.loop-from.invariant.1 c.in_ok-cross_few.ensures)

pub returns : goal.returns
returns g c = subst (λ (ls : List Line). HasBothCrossed c.args.rect.now (edges_of c.args.others.now) (edges_of ls) c.args.found.now.items c.loop-from.found.items) (take_all c.loop-from.from c.args.lines.now c.loop-from-test.false) c.loop-from.invariant.1
