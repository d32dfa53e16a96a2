use Rattle.std.proofs.lemmas.Result.{on_ok_weaker}
use Rattle.grid.proofs.Rows.{beside_more, given_more_rows, none_beside}
use Rattle.grid.proofs.row_bins.RowBins.add.Goals as goal

pub returns-then-is_beside-clause-bins : goal.returns-then-is_beside-clause-bins
returns-then-is_beside-clause-bins g c =
    beside_more c.self.inside.grid c.self.inside.from c.self.inside.past c.self.inside.count _ c.args.rect c.args.self.now c.self.view_is
    (λ k l. none_beside c.self.inside.grid c.self.inside.from c.self.inside.past c.args.rect c.is_beside.ensures.some_side k l (c.is_beside.ensures.value.0 c.if-is_beside.true))

pub returns-clause-bins : goal.returns-clause-bins
returns-clause-bins g c =
    let h = c.give.ensures in
    on_ok_weaker c.give.result (λ given. given_more_rows c.self.inside.grid c.self.inside.from c.self.inside.past c.self.inside.count c.self.inside.bins.items c.give.new.self c.args.rect c.args.self.now c.self.view_is
    c.self.invariant.2 c.is_beside.ensures.some_side c.requires.lo c.requires.hi h.grid h.from h.past h.count given) h.given
