use Rattle.std.proofs.Common.{◌≡◌, List, length, ◌++◌, sym, ◌∙◌, subst}
use Rattle.std.proofs.lemmas.List.{append-nil, drop_all}
use Rattle.tile_book.specs.declared.desk_core.Event.{Event}
use Rattle.tile_book.specs.declared.desk_core.Reply.{Reply}
use Rattle.tile_book.specs.Machine.{CoreView, Agrees, IsSound, replies_of, after_all}
use Rattle.tile_book.specs.History.{IsLegal, followed_by}
use Rattle.tile_book.proofs.Steps.{all_go_on}
use Rattle.tile_book.proofs.desk_core.Core.replay.Goals as goal

pub returns-clause-legal : goal.returns-clause-legal
returns-clause-legal g c =
    λ before legal agrees.
    let old = c.args.self.now in
    let sound : IsSound old = subst IsSound c.self.view_is c.self.invariant.0 in
    let gone = drop_all c.loop-event.event-index c.args.events.now c.loop-event-test.false in
    let i = c.loop-event.invariant in
    let replies : c.loop-event.replies.items ≡ replies_of old c.args.events.now = sym (append-nil c.loop-event.replies.items) ∙ subst (λ (rest : List Event). c.loop-event.replies.items ++ replies_of c.loop-event.self rest ≡ replies_of old c.args.events.now) gone i.0 in
    let core : c.loop-event.self ≡ after_all old c.args.events.now = subst (λ (rest : List Event). after_all c.loop-event.self rest ≡ after_all old c.args.events.now) gone i.1 in
    subst (λ (p : List Reply × CoreView). IsLegal old.limit (length old.spent) (followed_by before c.args.events.now p.0) × Agrees p.1 (followed_by before c.args.events.now p.0)) (λ i. (sym replies i, sym core i)) (all_go_on old before c.args.events.now sound legal agrees)
