use Rattle.std.proofs.Common.{arith, subst, sym, ◌∙◌}
use Rattle.std.proofs.lemmas.Bool.{ltb-false, ltb-true}
use Rattle.std.specs.Prelude.{Option}
use Rattle.routing.specs.declared.record.Record.{Record}
use Rattle.phases.specs.Nearest.{IsAsNear, IsNearest}
use Rattle.phases.specs.declared.nearest.Side.{Side}
use Rattle.phases.proofs.Nearness.{first_there, now_nearest, still_nearest}
use Rattle.phases.proofs.nearest.nearer.Goals as goal
use Rattle.phases.proofs.nearest.nearer.Goals.{in-Left, in-Right}

pub returns-in_default : goal.returns-in_default
returns-in_default c number records h t = first_there c.args.side number records c.args.other (subst (λ (o : Option Record). IsNearest c.args.side number records o) c.in_default.is h) t

pub returns-then-replaces : goal.returns-then-replaces
returns-then-replaces c number records h t =
    let near : IsAsNear c.args.side c.args.other.steps c.in-Some.near.steps = elim c.match-side.branch [
      | in-Left w ↦ subst (λ (side : Side). IsAsNear side c.args.other.steps c.in-Some.near.steps) (sym w.in-Left.is) (let l = ltb-true c.args.other.steps c.in-Some.near.steps (sym w.replaces-is ∙ c.if-replaces.true) in omega (arith, l))
      | in-Right w ↦ subst (λ (side : Side). IsAsNear side c.args.other.steps c.in-Some.near.steps) (sym w.in-Right.is) (let l = ltb-true c.in-Some.near.steps c.args.other.steps (sym w.replaces-is ∙ c.if-replaces.true) in omega (arith, l))
    ] in
    now_nearest c.args.side number records c.args.other c.in-Some.near (subst (λ (o : Option Record). IsNearest c.args.side number records o) c.in-Some.is h) t near

pub returns-else-replaces : goal.returns-else-replaces
returns-else-replaces c number records h t =
    let near : IsAsNear c.args.side c.in-Some.near.steps c.args.other.steps = elim c.match-side.branch [
      | in-Left w ↦ subst (λ (side : Side). IsAsNear side c.in-Some.near.steps c.args.other.steps) (sym w.in-Left.is) (ltb-false c.args.other.steps c.in-Some.near.steps (sym w.replaces-is ∙ c.if-replaces.false))
      | in-Right w ↦ subst (λ (side : Side). IsAsNear side c.in-Some.near.steps c.args.other.steps) (sym w.in-Right.is) (ltb-false c.in-Some.near.steps c.args.other.steps (sym w.replaces-is ∙ c.if-replaces.false))
    ] in
    still_nearest c.args.side number records c.args.other c.in-Some.near (subst (λ (o : Option Record). IsNearest c.args.side number records o) c.in-Some.is h) near
