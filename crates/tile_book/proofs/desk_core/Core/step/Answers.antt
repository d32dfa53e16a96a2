use Rattle.std.proofs.Common.{◌∷◌, length, sym, subst}
use Rattle.tile_book.specs.declared.desk_core.Reply.{Reply}
use Rattle.tile_book.specs.Machine.{CoreView, Agrees, IsSound}
use Rattle.tile_book.specs.History.{IsLegal}
use Rattle.tile_book.proofs.Steps.{goes_on}
use Rattle.tile_book.proofs.desk_core.Core.step.Goals as goal

pub returns-clause-legal : goal.returns-clause-legal
returns-clause-legal g c =
    λ before legal agrees.
    let old = c.args.self.now in
    let e = c.args.event in
    let sound : IsSound old = subst IsSound c.self.view_is c.self.invariant.0 in
    let a = c.apply.ensures in
    subst (λ (p : Reply × CoreView). IsLegal old.limit (length old.spent) ((e, p.0) ∷ before) × Agrees p.1 ((e, p.0) ∷ before)) (λ i. (sym a.reply i, sym a.after i)) (goes_on old before e sound legal agrees)
