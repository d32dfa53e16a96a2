use Rattle.std.proofs.Common.{◌≡◌, true, false, ap, length, rules, ◌∙◌, sym}
use Rattle.std.specs.Prelude.{Some, is_some, nat_lt}
use Rattle.std.proofs.lemmas.Bool.{lt-ltb}
use Rattle.std.proofs.lemmas.List.Sorted.{IsPartitionPoint-from_clause, IsPartitionedBy-ltb}
use Rattle.strips_law.specs.declared.line.Carried.{Carried}
use Rattle.phases.proofs.Over.{carried_at, falls_never}
use Rattle.phases.proofs.bridging.carried_for.Goals as goal

pub returns-in-Some : goal.returns-in-Some
returns-in-Some c up d has is =
    let carried = c.args.carried.now in
    let place = c.partition_point-place.result in
    let point = IsPartitionPoint-from_clause (λ (x : Carried). nat_lt x.number c.args.number) carried place c.partition_point-place.ensures.partitioned (IsPartitionedBy-ltb (λ (x : Carried). x.number) carried c.args.number (falls_never carried up)) (λ a r f k. search rules) in
    let at = carried_at carried place c.args.number d up has is point.0 point.1 in
    ap (λ (x : Carried). Some x.pixel) (c.in-Some.ensures.lookup.3.1 d ∙ at.1)

pub returns-in_default : goal.returns-in_default
returns-in_default c up d has is =
    let carried = c.args.carried.now in
    let place = c.partition_point-place.result in
    let point = IsPartitionPoint-from_clause (λ (x : Carried). nat_lt x.number c.args.number) carried place c.partition_point-place.ensures.partitioned (IsPartitionedBy-ltb (λ (x : Carried). x.number) carried c.args.number (falls_never carried up)) (λ a r f k. search rules) in
    let at = carried_at carried place c.args.number d up has is point.0 point.1 in
    absurd (c.if-c-number.false (ap (λ (x : Carried). x.number) (c.in-Some.ensures.lookup.3.1 d ∙ at.1) ∙ is))

pub returns-in_default-2 : goal.returns-in_default-2
returns-in_default-2 c up d has is =
    let carried = c.args.carried.now in
    let place = c.partition_point-place.result in
    let point = IsPartitionPoint-from_clause (λ (x : Carried). nat_lt x.number c.args.number) carried place c.partition_point-place.ensures.partitioned (IsPartitionedBy-ltb (λ (x : Carried). x.number) carried c.args.number (falls_never carried up)) (λ a r f k. search rules) in
    let at = carried_at carried place c.args.number d up has is point.0 point.1 in
    let e : false ≡ true = ap is_some (sym c.in_default.is) ∙ c.get.ensures.lookup.0 ∙ lt-ltb place (length carried) at.0 in
    absurd (cc)
