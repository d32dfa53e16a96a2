use Rattle.std.proofs.Common.{rules, ◌≡◌, ◌<◌, length, get_or, inl}
use Rattle.std.proofs.lemmas.Result.{err_from_is_err_and}
use Rattle.results.specs.Sinks.{SentBeginning}
use Rattle.results.proofs.Sending.{begun_part}
use Rattle.results.proofs.sink.write_parts.Goals as goal

pub returns-in_err-write_unsettled : goal.returns-in_err-write_unsettled
returns-in_err-write_unsettled g c =
    let p = err_from_is_err_and c.from_residual.result c.from_residual.ensures.1 in
    let old = g.S.Sink.state c.args.sink.now in
    let between = g.S.Sink.state c.loop-part.sink in
    let new = g.S.Sink.state c.write_unsettled.new.sink in
    let part = c.part-item.result in
    let at = c.loop-part.part-index in
    let below : at < length c.args.parts.now = search rules in
    let is : part ≡ get_or c.args.parts.now at part = search rules in
    let begun : SentBeginning between new part.items = search rules in
    let inv = c.loop-part.invariant in
    let counted = c.in_err-write_unsettled.ensures.0 in
    rw p.1 (record { counted = search rules; where_failed = inl (begun_part (λ x. x.items) old between new c.args.parts.now at part below is inv.sent begun) })
