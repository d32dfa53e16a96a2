use Rattle.std.proofs.Common.{sym}
use Rattle.wkt.proofs.Steps.{went, event_behind}
use Rattle.wkt.proofs.reader.Reader.step_anywhere.Goals as goal

pub returns : goal.returns
returns c = λ m r.
    rw (c.kind.ensures, c.is_multi_after-self.ensures, c.x_after-self.ensures, c.number_after-self.ensures)
    (rw (sym (event_behind c.args.at c.args.self.now.place c.of-class.result c.args.self.now.x c.args.self.now.number))
    (went c.args.at c.args.byte c.of-class.result c.args.self.now m c.in_ok-next.next c.of-class.ensures c.in_ok-next.ensures r))
