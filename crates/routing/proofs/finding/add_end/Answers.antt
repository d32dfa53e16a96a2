use Rattle.routing.proofs.PieceLaws.{end_outside, end_pushed}
use Rattle.routing.proofs.finding.add_end.Goals as goal

pub returns-then-not-holds : goal.returns-then-not-holds
returns-then-not-holds g c = end_outside c.args.tile.now c.args.limited.list.now c.args.number c.args.pixel c.args.records.now.items (λ h. let e = c.holds.ensures.1 h in let f = c.if-not-holds.true in cc)

pub returns : goal.returns
returns g c = rw c.in_ok-push.ensures.items (end_pushed c.args.tile.now c.args.limited.list.now c.args.number c.args.pixel c.args.records.now.items _ (c.holds.ensures.0 (let f = c.if-not-holds.false in cc)) c.record_at.ensures)
