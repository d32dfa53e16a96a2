use Rattle.std.proofs.Common.{◌≡◌, ◌<◌, ◌∙◌, arith, length, get_or, Some, ap, sym, ⊎_elim}
use Rattle.std.specs.Prelude.{slice_get}
use Rattle.std.proofs.lemmas.Bool.{cases_lt}
use Rattle.std.proofs.lemmas.Option.{slice_get-get_or}
use Rattle.routing.specs.declared.on_line.OnLine.{OnLine}
use Rattle.geom.proofs.Orders.{same_edge_true}
use Rattle.geom.proofs.Lists.{some_same}
use Rattle.routing.proofs.by_line.past_of.Goals as goal

pub loop-past-preserved : goal.loop-past-preserved
loop-past-preserved c =
    let table = c.args.table.now in
    let past = c.loop-past.past in
    let inv = c.loop-past.invariant in
    let z = get_or table past c.index-table-past.result in
    let l : past < length table = omega arith in
    let at : slice_get table past ≡ Some z = slice_get-get_or table past c.index-table-past.result l in (
      omega (arith, inv.0),
      omega arith,
      λ k y a b e. ⊎_elim
          (λ m. inv.2 k y a m e)
          (λ m. let q : k ≡ past = omega arith in let u : y ≡ z = some_same (sym (ap (slice_get table) q) ∙ e) at in ap (λ (x : OnLine). x.edge) u ∙ same_edge_true z.edge (get_or table c.args.first c.index-table-first.result).edge (sym c.eq.ensures ∙ c.if-eq.true))
          (cases_lt k past),
    )

pub returns-else-eq-clause-same : goal.returns-else-eq-clause-same
returns-else-eq-clause-same c = λ k x y first_is from to here.
    let table = c.args.table.now in
    let first = get_or table c.args.first c.index-table-first.result in
    let at : slice_get table c.args.first ≡ Some first = slice_get-get_or table c.args.first c.index-table-first.result c.requires in
    c.loop-past.invariant.2 k y from to here ∙ ap (λ (z : OnLine). z.edge) (some_same at first_is)
