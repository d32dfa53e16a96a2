use Rattle.std.proofs.Common.{◌∙◌, ap, arith, to_z-of_z}
use Rattle.std.specs.Prelude.{max}
use Rattle.tiling.proofs.Indexing.{begun_is, first_is, items_len, kept_len, kept_up}
use Rattle.tiling.proofs.index.Index.places.Goals as goal

pub places_between-from-requires-clause-greatest : goal.places_between-from-requires-clause-greatest
places_between-from-requires-clause-greatest g c = kept_up _ _ _ _ c.self.invariant c.deref.ensures.value

pub places_between-from-requires-clause-same : goal.places_between-from-requires-clause-same
places_between-from-requires-clause-same g c = kept_len _ _ _ _ _ c.self.invariant c.deref.ensures.value c.lefts.ensures.value

pub returns-clause-from : goal.returns-clause-from
returns-clause-from g c =
    let f = c.ranges.low in
    let l = kept_len _ _ _ _ _ c.self.invariant c.deref.ensures.value c.lefts.ensures.value in
    first_is c.args.self.now _ _ _ _ c.self.invariant c.self.view_is c.lefts.ensures.fit c.deref.ensures.value c.args.low _ (omega (arith, l, c.places_between-from.ensures.first_in)) (simp to_z-of_z at c.places_between-from.ensures.before) (simp to_z-of_z at c.places_between-from.ensures.first)

pub returns-clause-to : goal.returns-clause-to
returns-clause-to g c =
    let f = c.ranges.high in
    c.max.ensures ∙ ap (max c.places_between-from.result.0) (begun_is c.args.self.now _ _ _ _ c.self.invariant c.self.view_is c.lefts.ensures.value c.args.high _ c.places_between-from.ensures.within
    (simp to_z-of_z at c.places_between-from.ensures.last) (simp to_z-of_z at c.places_between-from.ensures.after))

pub returns-clause-cost : goal.returns-clause-cost
returns-clause-cost g c = λ d l. c.places_between-from.ensures.cost d (let e = items_len _ _ _ _ _ c.self.invariant c.self.view_is c.lefts.ensures.value in omega arith)
