use Rattle.std.proofs.Common.{◌∙◌, arith, sym}
use Rattle.std.proofs.lemmas.Bool.{false≢true}
use Rattle.polygonize.specs.Next.{edge_at}
use Rattle.polygonize.proofs.ClosesOnce.{closes_of}
use Rattle.polygonize.proofs.NextEdge.Looking.{all_looked, first_looked, is_better, is_no_better}
use Rattle.polygonize.proofs.NextEdge.Sooner.{is_met, is_not_met}
use Rattle.polygonize.proofs.successor.first_by_walk.Goals as goal
use Rattle.polygonize.proofs.successor.first_by_walk.Goals.{then-is_met_before, else-is_met_before}

pub loop-place-init : goal.loop-place-init
loop-place-init c = first_looked c.args.edges.list.now c.args.first c.args.u c.requires.inside

pub loop-place-preserved : goal.loop-place-preserved
loop-place-preserved c =
    let edges = c.args.edges.list.now in
    let v = (edge_at edges c.args.first).from in
    let a = (edge_at edges c.loop-place.place).to in
    let b = (edge_at edges c.loop-place.best).to in
    let same = c.are_same.ensures.yes c.if-not-are_same.false in
    elim c.if-is_met_before.branch [
      | then-is_met_before w ↦ rw w.best-is
          (is_better edges c.args.first c.loop-place.place c.args.u c.loop-place.best c.loop-place.invariant c.loop-place-test.true same (λ m. false≢true (sym (is_not_met v c.args.u a b m) ∙ sym c.is_met_before.ensures ∙ w.if-is_met_before.true)))
      | else-is_met_before w ↦ rw w.best-is
          (is_no_better edges c.args.first c.loop-place.place c.args.u c.loop-place.best c.loop-place.invariant c.loop-place-test.true same (λ m. false≢true (sym w.if-is_met_before.false ∙ c.is_met_before.ensures ∙ is_met v c.args.u a b m)))
    ]

pub returns-then-not-are_same : goal.returns-then-not-are_same
returns-then-not-are_same c = all_looked c.args.edges.list.now c.args.first c.loop-place.place c.args.u c.loop-place.best (closes_of c.args.edges.closes).are_directed c.loop-place.invariant (λ h. c.are_same.ensures.no c.if-not-are_same.true)

pub returns : goal.returns
returns c = all_looked c.args.edges.list.now c.args.first c.loop-place.place c.args.u c.loop-place.best (closes_of c.args.edges.closes).are_directed c.loop-place.invariant (λ h. absurd (let past = c.loop-place-test.false in omega (arith, h, past)))
