use Rattle.std.proofs.Common.{◌≡◌, ◌∙◌, ◌++◌, ◌∷◌, [], ℕ, List, Some, sym, ap, subst, get_or}
use Rattle.std.specs.Prelude.{slice_get}
use Rattle.std.proofs.lemmas.List.{get_or_default, take_all}
use Rattle.std.proofs.lemmas.Option.{slice_get-get_or}
use Rattle.geom.specs.declared.edge.Edge.{Edge}
use Rattle.noding_test.specs.Verdicts.{chosen_edges}
use Rattle.noding_test.proofs.NearEdges.{chosen_more}
use Rattle.noding_test.proofs.finding.near_edges.Goals as goal

pub loop-number-preserved : goal.loop-number-preserved
loop-number-preserved g c =
    let counted = c.args.counted.now in
    let numbers = c.args.numbers.now in
    let i = c.loop-number.number-index in
    let k = get_or numbers i 0 in
    let x = get_or counted k c.index-counted-number.result in
    let at : slice_get counted k ≡ Some x = slice_get-get_or counted k c.index-counted-number.result (c.requires i 0 c.loop-number-test.true) in
    c.in_ok-push.ensures.items ∙ ap (λ (es : List Edge). es ++ x.edge ∷ []) c.loop-number.invariant ∙ sym (chosen_more counted numbers i k x c.loop-number-test.true (get_or_default numbers i 0 k c.loop-number-test.true) at)

pub returns : goal.returns
returns g c = subst (λ (ns : List ℕ). c.loop-number.edges.items ≡ chosen_edges c.args.counted.now ns) (take_all c.loop-number.number-index c.args.numbers.now c.loop-number-test.false) c.loop-number.invariant
