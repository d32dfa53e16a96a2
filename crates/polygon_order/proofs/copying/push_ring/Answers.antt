use Rattle.std.proofs.Common.{◌≡◌, ◌∙◌, ◌++◌, ◌/◌, List, length, ap, subst, arith, rules, ℤ}
use Rattle.columns.proofs.Written.{one_ring}
use Rattle.polygon_order.proofs.copying.push_ring.Goals as goal

pub returns-clause-rings : goal.returns-clause-rings
returns-clause-rings g c = λ rings points h is.
    let old = c.args.made.now in
    let past = c.in_ok-map_err.field-0 in
    let value : past ≡ c.len-past.result / 2 = search rules in
    let long : c.len-past.result ≡ length c.extend_from_slice.new.self.items = omega (arith, c.len-past.ensures, c.extend_from_slice.new.self.ok) in
    let added = subst (λ (t : List ℤ). c.extend_from_slice.new.self.items ≡ old.coordinates.items ++ t) is c.in_ok-extend_from_slice.ensures.items in
    one_ring rings points old _ past h added c.in_ok-push.ensures.items (value ∙ ap (λ n. n / 2) long)
