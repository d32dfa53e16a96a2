use Rattle.std.proofs.Common.{◌∙◌, ◌<◌, arith, of_z, pos, to_z, w32, ⊎_elim}
use Rattle.std.proofs.lemmas.Int.{ints}
use Rattle.phases.proofs.Columns.{begins_before, begins_behind, crosses_first, crosses_last}
use Rattle.phases.proofs.lines.crosses.Goals as goal

pub returns-then-strip-eq0 : goal.returns-then-strip-eq0
returns-then-strip-eq0 c = ⊎_elim (λ e. crosses_first c.args.cuts.now c.args.strip c.args.s.now e) (λ h. crosses_last c.args.cuts.now c.args.strip c.args.s.now h.1) c.then-strip-eq0.either

pub returns-then-s-border : goal.returns-then-s-border
returns-then-s-border c =
    let some : 0 < c.args.strip = (let z = c.if-strip-eq0.false in omega (arith, z)) in
    begins_before c.args.cuts.now c.requires c.args.strip c.args.s.now c.cut_at-border.result (pos 0) some c.if-strip-cuts.false c.cut_at-border.ensures (omega (arith, ints, c.if-s-border.true)) (to_z w32 (of_z w32 c.cut_at-border.result)) (to_z w32 (of_z w32 c.args.s.now.b.x)) (omega (arith, ints)) (omega (arith, ints))

pub returns-else-s-border : goal.returns-else-s-border
returns-else-s-border c =
    let some : 0 < c.args.strip = (let z = c.if-strip-eq0.false in omega (arith, z)) in
    c.if-s-border.false ∙ begins_behind c.args.cuts.now c.requires c.args.strip c.args.s.now c.cut_at-border.result (pos 0) some c.if-strip-cuts.false c.cut_at-border.ensures (omega (arith, ints, c.if-s-border.false))
