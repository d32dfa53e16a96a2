use Rattle.std.proofs.Common.{◌≡◌, ◌≤◌, get_or, inl, inr, subst, arith}
use Rattle.std.proofs.lemmas.Bool.{cases_lt}
use Rattle.std.proofs.lemmas.List.{get_or_default}
use Rattle.std.specs.Prelude.{ℕ}
use Rattle.routing.specs.declared.record.Record.{Record}
use Rattle.linking.proofs.linked.past_number.Goals as goal

pub loop-place-preserved : goal.loop-place-preserved
loop-place-preserved c =
    let records = c.args.records.now in
    let place = c.loop-place.place in
    let inv = c.loop-place.invariant in
    let within = c.loop-place-test.true in
    let low = inv.0 in (
      omega (arith, low),
      omega (arith, within),
      λ k d l m. elim (cases_lt k place) [
        | inl b ↦ inv.2 k d l b
        | inr b ↦
            let same : place ≡ k = omega (arith, b, m) in
            subst (λ (n : ℕ). (get_or records n d).segment ≤ c.args.number) same (subst (λ (r : Record). r.segment ≤ c.args.number) (get_or_default records place _ d within) c.if-records-place.true)
      ],
    )
