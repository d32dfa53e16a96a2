use Rattle.std.proofs.Common.{◌≡◌, ◌∙◌, ◌++◌, ◌∷◌, [], ◌+◌, Bool, false, List, Ordering, Less, Equal, Greater, ap, subst, sym, take}
use Rattle.std.specs.Ordering.{MatchOrdering, is_ge, is_some_and}
use Rattle.std.specs.Prelude.{All, Some}
use Rattle.std.proofs.lemmas.List.{take_all, take_more}
use Rattle.std.proofs.lemmas.List.Elements.{All-push}
use Rattle.geom.specs.declared.edge.Edge.{Edge}
use Rattle.geom.specs.declared.edge.Counted.{Counted}
use Rattle.geom.specs.EdgeOrder.{IsEdgeBefore}
use Rattle.geom.proofs.Orders.{edge_cmp, edge_ranks}
use Rattle.noding_test.proofs.Least.{partial_edge_cmp, partial_edge_is}
use Rattle.noded_tests.proofs.rows.come_before.Goals as goal

not_from : (e f : Edge) (b : Bool) → b ≡ is_some_and is_ge (partial_edge_cmp e f) → b ≡ false → IsEdgeBefore e f
not_from e f b g h = tell (edge_cmp e f) (edge_ranks e f) (sym h ∙ g ∙ ap (is_some_and is_ge) (partial_edge_is e f))
  where
    tell : (o : Ordering) → MatchOrdering o (IsEdgeBefore e f) (e ≡ f) (IsEdgeBefore f e) → false ≡ is_some_and is_ge (Some o) → IsEdgeBefore e f
    tell Less m k = m
    tell Equal m k = absurd (cc)
    tell Greater m k = absurd (cc)

pub loop-item-preserved : goal.loop-item-preserved
loop-item-preserved c =
    let counted = c.args.counted.now in
    let edge = c.args.edge.now in
    let i = c.loop-item.item-index in
    let x = c.item-item.result in
    let front : take (i + 1) counted ≡ take i counted ++ x ∷ [] = take_more counted i x c.loop-item-test.true ∙ ap (λ (d : Counted). take i counted ++ d ∷ []) (sym c.item-item.is) in
    subst (λ (cs : List Counted). All (λ d. IsEdgeBefore d.edge edge) cs) (sym front) (All-push (λ (d : Counted). IsEdgeBefore d.edge edge) (take i counted) x c.loop-item.invariant (not_from x.edge edge c.ge.result c.ge.ensures c.if-ge.false))

pub returns : goal.returns
returns c = λ h. subst (λ (cs : List Counted). All (λ d. IsEdgeBefore d.edge c.args.edge.now) cs) (take_all c.loop-item.item-index c.args.counted.now c.loop-item-test.false) c.loop-item.invariant
