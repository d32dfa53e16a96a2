-- The order of records.
use Rattle.std.proofs.Common.{◌≡◌, ◌⊎◌, inl, inr, ◌<◌, List, [], Bool, true, Ordering, Less, refl, rules}
use Rattle.std.specs.Prelude.{◌&&◌, ◌==◌}
use Rattle.std.specs.Cmp.{IsTotalOrder, IsEquivalence}
use Rattle.std.specs.Cmp.Rules.{comparing}
use Rattle.std.specs.Ordering.{eq_by_cmp, nat_cmp, ordering_then}
use Rattle.std.specs.List.Sorted.{IsPermutation, IsSorted}
use Rattle.std.specs.List.Retain.{IsFiltered, DiffersFromLast}
use Rattle.std.proofs.lemmas.Cmp.{by_ranked, ranked, then_total, on_total, nat_cmp_total, and_equiv, on_equiv, nat_eq_equiv}
use Rattle.std.proofs.lemmas.Bool.{eqb-true}
use Rattle.geom.specs.Segments.{same_point}
use Rattle.geom.proofs.Points.{and_both, same_point_true}
use Rattle.geom.proofs.Orders.{IsSortedOnce, sorted_once, pt_cmp, pt_total, pt_equivalence}
use Rattle.routing.specs.declared.record.Record.{Record}

abbrev pub record_cmp : Record → Record → Ordering
record_cmp r q = ordering_then (nat_cmp r.segment q.segment) (ordering_then (nat_cmp r.steps q.steps) (pt_cmp r.pixel q.pixel))

abbrev pub record_eq : Record → Record → Bool
record_eq r q = (r.segment == q.segment) && ((r.steps == q.steps) && same_point r.pixel q.pixel)

pub record_total : IsTotalOrder record_cmp
record_total = then_total (on_total (λ (r : Record). r.segment) nat_cmp_total) (then_total (on_total (λ (r : Record). r.steps) nat_cmp_total) (on_total (λ (r : Record). r.pixel) pt_total))

record_equivalence : IsEquivalence record_eq
record_equivalence = and_equiv (on_equiv (λ (r : Record). r.segment) nat_eq_equiv) (and_equiv (on_equiv (λ (r : Record). r.steps) nat_eq_equiv) (on_equiv (λ (r : Record). r.pixel) pt_equivalence))

record_ties : (r q : Record) → record_eq r q ≡ eq_by_cmp record_cmp r q
record_ties = search (comparing, rules)

pub same_record : (r q : Record) → record_eq r q ≡ true → r ≡ q
same_record r q h =
    let e = and_both _ _ h in
    let f = and_both _ _ e.1 in
    let s = eqb-true r.segment q.segment e.0 in
    let t = eqb-true r.steps q.steps f.0 in
    let u = same_point_true r.pixel q.pixel f.1 in
    λ i. record { segment = s i; steps = t i; pixel = u i }

-- records that are sorted and rid of repeats
pub records_once : (xs ys zs : List Record) → IsPermutation xs ys → IsSorted record_cmp ys → IsFiltered (DiffersFromLast record_eq) [] ys zs → IsSortedOnce record_cmp xs zs
records_once = sorted_once record_total record_equivalence record_ties same_record

-- what `Less` says, but for the pixels
pub record_less : (r q : Record) → record_cmp r q ≡ Less → (r.segment < q.segment) ⊎ ((r.segment ≡ q.segment) × ((r.steps < q.steps) ⊎ (r.steps ≡ q.steps)))
record_less r q h = by_ranked (r.segment < q.segment) (r.segment ≡ q.segment) (q.segment < r.segment) (nat_cmp r.segment q.segment) (ranked r.segment q.segment _ refl)
    (λ e p. inl p)
    (λ e p. inr (p, rest (rw e at h)))
    (λ e p. absurd (let k = rw e at h in cc))
  where
    rest : ordering_then (nat_cmp r.steps q.steps) (pt_cmp r.pixel q.pixel) ≡ Less → (r.steps < q.steps) ⊎ (r.steps ≡ q.steps)
    rest k = by_ranked (r.steps < q.steps) (r.steps ≡ q.steps) (q.steps < r.steps) (nat_cmp r.steps q.steps) (ranked r.steps q.steps _ refl) (λ e p. inl p) (λ e p. inr p) (λ e p. absurd (let l = rw e at k in cc))
