use Rattle.std.proofs.Common.{◌<◌, ◌∙◌, List, [], subst, sym, ap, arith, length}
use Rattle.std.specs.Prelude.{Contains}
use Rattle.std.proofs.lemmas.List.{length-map}
use Rattle.std.proofs.lemmas.List.Elements.{Contains-get_or}
use Rattle.geom.specs.declared.point.Pt.{Pt}
use Rattle.geom.specs.declared.edge.Edge.{Edge}
use Rattle.hot_region.specs.declared.lines.Line.{Line}
use Rattle.hot_region.specs.Boxes.{boxes_of}
use Rattle.hot_region.specs.Halving.{edges_of}
use Rattle.hot_region.specs.Lines.{HasCrossed}
use Rattle.hot_region.proofs.BesideLaws.{both_none}
use Rattle.hot_region.proofs.HalvingLaws.{edge_at, edge_below, edge_in}
use Rattle.hot_region.proofs.PairLaws.{first_all, first_found, first_more, front_boxes, front_few, front_is, front_stays}
use Rattle.hot_region.proofs.leaf.cross_first.Goals as goal
use Rattle.hot_region.proofs.leaf.cross_first.Goals.{then-place-lt-LANES, else-place-lt-LANES}

pub loop-place-init : goal.loop-place-init
loop-place-init g c = (both_none c.args.rect.now [] c.args.found.now.items, c.none-boxes.ensures)

pub loop-place-preserved : goal.loop-place-preserved
loop-place-preserved g c =
    let lines = c.args.lines.now in
    let edges = edges_of lines in
    let i = c.loop-place.place in
    let e = c.index-lines-place.result in
    let l : i < length lines = omega arith in
    let below = edge_below lines i l in
    let is = edge_at lines i e c.index-lines-place.is in
    let front = front_is lines i c.min.result (λ few. omega (arith, c.min.ensures)) (λ many. omega (arith, c.min.ensures)) in
    let now = subst (λ (es : List Edge). HasCrossed c.args.rect.now e.edge es c.loop-place.found.items c.cross_near.new.found.items) (ap edges_of c.earlier.ensures ∙ front) c.in_ok-cross_near.ensures in
    let more = first_more edges i e.edge below is c.args.rect.now c.args.found.now.items c.loop-place.found.items c.cross_near.new.found.items c.loop-place.invariant.0 now in
    elim c.if-place-lt-LANES.branch [
      | then-place-lt-LANES w ↦ rw w.boxes-is (more, w.push.ensures ∙ front_boxes edges i e.edge below is c.loop-place.boxes w.bounds.result.lo w.bounds.result.hi w.if-place-lt-LANES.true c.loop-place.invariant.1 w.bounds.ensures.lo w.bounds.ensures.hi)
      | else-place-lt-LANES w ↦ rw w.boxes-is (more, front_stays edges i e.edge below is c.loop-place.boxes w.if-place-lt-LANES.false c.loop-place.invariant.1)
    ]

pub returns-then-is_found : goal.returns-then-is_found
returns-then-is_found g c = first_found c.args.rect.now (edges_of c.args.lines.now) c.loop-place.place c.args.found.now.items c.loop-place.found.items (λ p h. subst (λ (ps : List Pt). Contains ps p) c.deref.ensures.value (c.is_found.ensures p c.if-is_found.true h)) c.loop-place.invariant.0

pub returns : goal.returns
returns g c = first_all c.args.rect.now (edges_of c.args.lines.now) c.loop-place.place c.args.found.now.items c.loop-place.found.items (let n = length-map c.args.lines.now (λ (l : Line). l.edge) in omega (arith, n)) c.loop-place.invariant.0

pub cross_near-requires-clause-boxes : goal.cross_near-requires-clause-boxes
cross_near-requires-clause-boxes g c =
    let front = front_is c.args.lines.now c.loop-place.place c.min.result (λ few. omega (arith, c.min.ensures)) (λ many. omega (arith, c.min.ensures)) in
    c.loop-place.invariant.1 ∙ ap boxes_of (sym (ap edges_of c.earlier.ensures ∙ front))

pub cross_near-requires-clause-ends : goal.cross_near-requires-clause-ends
cross_near-requires-clause-ends g c = λ p k t.
    let lines = c.args.lines.now in
    let line = c.index-lines-place.result in
    let i = c.loop-place.place in
    let l : i < length lines = omega arith in
    let listed = edge_in lines line (rw c.index-lines-place.is (Contains-get_or lines i line l)) in
    c.loop-place.invariant.0.kept p (c.requires p (record { e = line.edge; listed = listed; is_end = k }) t)

pub push-requires : goal.push-requires
push-requires g c = front_few (edges_of c.args.lines.now) c.loop-place.place c.loop-place.boxes c.if-place-lt-LANES.true c.loop-place.invariant.1
