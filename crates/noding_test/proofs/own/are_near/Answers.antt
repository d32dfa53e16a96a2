use Rattle.std.proofs.Common.{◌≡◌, ◌∙◌, ap, arith, get_or, length, Some}
use Rattle.std.specs.Prelude.{slice_get}
use Rattle.std.proofs.lemmas.List.{get_or_default}
use Rattle.std.proofs.lemmas.Option.{slice_get-get_or}
use Rattle.geom.specs.declared.edge.Counted.{Counted}
use Rattle.linking.proofs.Tally.{ne_apart, ne_same}
use Rattle.chain_gather.proofs.Picked.{length_picked}
use Rattle.noding_test.specs.Verdicts.{edge_at}
use Rattle.noding_test.proofs.OwnVerdicts.{all_pick, near_differs, near_more}
use Rattle.noding_test.proofs.own.are_near.Goals as goal

pub returns-then-edges-numbers : goal.returns-then-edges-numbers
returns-then-edges-numbers c = (
  (λ h. absurd (cc)),
  (λ e. absurd (c.if-edges-numbers.true (ap length e ∙ length_picked (edge_at c.args.counted.now) c.args.numbers.now (all_pick c.args.counted.now c.args.numbers.now c.requires)))),
)

pub returns-then-ne : goal.returns-then-ne
returns-then-ne c =
    let counted = c.args.counted.now in
    let numbers = c.args.numbers.now in
    let i = c.loop-i.i in
    let n = get_or numbers i 0 in
    let item : Counted = get_or counted n c.index-counted-number.result in
    let low = c.loop-i-test.true in
    let at : slice_get counted n ≡ Some item = slice_get-get_or counted n c.index-counted-number.result (c.requires i 0 low) in (
      (λ h. absurd (cc)),
      (λ e. absurd (near_differs counted numbers c.args.edges.now i n item c.index-edges-i.result low (omega arith) (get_or_default numbers i 0 n low) at c.index-edges-i.is c.requires (ne_apart c.index-edges-i.result item.edge c.ne.result c.ne.ensures c.if-ne.true) e)),
    )

pub loop-i-preserved : goal.loop-i-preserved
loop-i-preserved c =
    let counted = c.args.counted.now in
    let numbers = c.args.numbers.now in
    let i = c.loop-i.i in
    let n = get_or numbers i 0 in
    let item : Counted = get_or counted n c.index-counted-number.result in
    let low = c.loop-i-test.true in
    let at : slice_get counted n ≡ Some item = slice_get-get_or counted n c.index-counted-number.result (c.requires i 0 low) in
    near_more counted numbers c.args.edges.now i n item c.index-edges-i.result low (omega arith) (get_or_default numbers i 0 n low) at c.index-edges-i.is (ne_same c.index-edges-i.result item.edge c.ne.result c.ne.ensures c.if-ne.false) c.loop-i.invariant
