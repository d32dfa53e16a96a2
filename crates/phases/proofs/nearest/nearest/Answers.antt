use Rattle.std.proofs.Common.{get_or, refl, take, replicate}
use Rattle.std.proofs.Math.IntN.{pos}
use Rattle.std.proofs.lemmas.List.{get_or_default, length-replicate}
use Rattle.std.specs.Prelude.{None, Some}
use Rattle.routing.specs.declared.record.Record.{Record}
use Rattle.phases.proofs.Nearness.{near_more, none_nearest, none_replicated}
use Rattle.phases.proofs.Keeping.{read_more}
use Rattle.phases.proofs.nearest.nearest.Goals as goal

pub loop-record-init : goal.loop-record-init
loop-record-init g c = rw c.in_ok-nears.ensures (none_nearest c.args.side c.args.count (replicate c.args.count None) (length-replicate c.args.count None) (none_replicated c.args.count))

pub loop-record-preserved : goal.loop-record-preserved
loop-record-preserved g c =
    let records = c.args.records.now in
    let i = c.loop-record.record-index in
    let blank : Record = record { segment = 0; steps = 0; pixel = record { x = pos 0; y = pos 0 } } in
    let r = get_or records i blank in
    let inside = c.loop-record-test.true in
    rw (read_more records i r inside (get_or_default records i blank r inside))
    (near_more c.args.side c.args.count (take i records) r c.loop-record.nears.items c.loop-record.invariant c.index.result.now (Some c.nearer.result) (c.requires i blank inside) c.index.ensures
    (λ known. c.nearer.ensures r.segment (take i records) known refl))
