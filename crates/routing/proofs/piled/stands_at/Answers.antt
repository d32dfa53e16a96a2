use Rattle.std.proofs.Common.{sym, ◌∙◌, subst, get_or, arith, length, ◌<◌}
use Rattle.std.proofs.Math.IntN.{pos}
use Rattle.std.specs.Prelude.{Contains}
use Rattle.std.proofs.lemmas.List.Elements.{Contains-get_or}
use Rattle.routing.specs.declared.record.Record.{Record}
use Rattle.routing.proofs.RecordOrder.{same_record}
use Rattle.routing.proofs.piled.stands_at.Goals as goal

abbrev blank : Record
blank = record { segment = 0; steps = 0; pixel = record { x = pos 0; y = pos 0 } }

pub returns-then-place-records : goal.returns-then-place-records
returns-then-place-records c = λ t.
    let records = c.args.records.now in
    let below : c.args.place < length records = omega arith in
    subst (λ (r : Record). Contains records r) (same_record (get_or records c.args.place blank) c.args.wanted.now (sym c.eq.ensures ∙ t)) (Contains-get_or records c.args.place blank below)
