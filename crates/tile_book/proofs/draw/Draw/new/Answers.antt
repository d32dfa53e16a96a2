use Rattle.std.proofs.Common.{◌≡◌, ℕ, ◌+◌, ◌-◌, List, [], ◌∷◌, ◌++◌, false, arith, ◌∙◌, ap, rules, refl}
use Rattle.std.proofs.lemmas.List.Elements.{All-push}
use Rattle.tile_book.specs.declared.ticket.Ticket.{Ticket}
use Rattle.tile_book.specs.Drawing.{ticket, one_less, one_hand}
use Rattle.tile_book.specs.Shown.{HandView}
use Rattle.tile_book.proofs.Draws.{splits}
use Rattle.tile_book.proofs.draw.Draw.new.Goals as goal

pub split_seat-own-requires : goal.split_seat-own-requires
split_seat-own-requires g c =
    let i = c.loop.invariant in
    let me = ap (λ m. m.0) i.1 in (
      i.0,
      omega (arith, c.in_ok-table.ensures.0),
      splits _ _ c.loop.seat.me.0 (omega (arith, ap (λ t. t.parts) me, c.loop-test.true)) (ap (λ t. t.spent) me) (ap (λ t. t.drawn) me),
    )

pub loop-preserved : goal.loop-preserved
loop-preserved g c =
    let i = c.loop.invariant in
    let e = c.split_seat-own.ensures in
    let me = ap (λ m. m.0) i.1 in
    let key = c.in_ok-table.ensures in
    let z = c.in_ok-table.table.shared.table_id in
    let left : c.args.hands - c.loop.counter - 1 ≡ c.args.hands - (c.loop.counter + 1) = omega arith in
    let hand : HandView = record { draw = record { table = c.split_seat-own.result.table_id; limit = c.split_seat-own.result.me.0.limit; hands = c.split_seat-own.result.me.0.hands }; spent = false; drawn = c.split_seat-own.result.me.0.drawn } in
    let pushed : c.push_reserved.new.self.items ≡ c.loop.made.items ++ hand ∷ [] = c.push_reserved.ensures.items in
    let mine : c.split_seat-own.result.me.0 ≡ one_hand (ticket c.args.limit c.args.hands (c.args.hands - c.loop.counter) 0 []) = ap (λ m. m.0) e.4 ∙ ap one_hand me in (
      e.0 ∙ i.0,
      e.2 ∙ ap (λ (m : Ticket × List (ℕ × ℕ)). (one_less m.0, m.1)) i.1 ∙ ap (λ k. (ticket c.args.limit c.args.hands k 0 [], [])) left,
      search rules,
      rw c.push_reserved.ensures.capacity i.3,
      rw pushed (All-push (λ (h : HandView). (h.draw ≡ record { table = z; limit = c.args.limit; hands = c.args.hands }) × (h.spent ≡ false) × (h.drawn ≡ [])) c.loop.made.items hand i.4
          ((λ j. record { table = (e.3 ∙ i.0) j; limit = (mine j).limit; hands = (mine j).hands }), refl, ap (λ t. t.drawn) mine)),
    )
