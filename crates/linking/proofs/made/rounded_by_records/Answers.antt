use Rattle.std.proofs.Common.{List, subst, sym}
use Rattle.std.proofs.Math.Logic.{∥∥₁_elim, ∥∥₁_map}
use Rattle.std.proofs.Props.{props}
use Rattle.routing.specs.declared.record.Record.{Record}
use Rattle.linking.specs.Links.{AreRecords}
use Rattle.linking.proofs.Gathering.{gathered_are}
use Rattle.linking.proofs.Walk.{rounded_are}
use Rattle.linking.proofs.made.rounded_by_records.Goals as goal

pub links-requires : goal.links-requires
links-requires g c =
    let segments = c.args.segments.now in
    subst (λ (rs : List Record). ∥ AreRecords segments rs ∥₁) (sym c.deref.ensures.value)
    (∥∥₁_map c.requires (λ all. gathered_are segments c.args.records.items c.in_order-records.result.items all c.in_order-records.ensures))

pub counts-requires : goal.counts-requires
counts-requires g c = record { short = ∥∥₁_elim c.in_ok-list.ensures (hlevel props) (λ l. l.few) }

pub rounded_of-requires : goal.rounded_of-requires
rounded_of-requires g c = ∥∥₁_map c.in_ok-list.ensures (λ l. rounded_are c.args.segments.now c.in_ok-list.list.items c.in_ok-edges.edges.items l c.in_ok-edges.ensures)
