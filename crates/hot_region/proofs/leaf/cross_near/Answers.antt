use Rattle.std.proofs.Common.{inl, refl, sym, subst, ℕ, Some, arith, ◌∷◌, []}
use Rattle.hot_region.specs.declared.lines.Line.{Line}
use Rattle.hot_region.specs.Lines.{CrossAt, IsLine}
use Rattle.hot_region.specs.Halving.{edges_of}
use Rattle.hot_region.proofs.BoxLaws.{HasCrossedBut, but_near, but_fewer, but_none}
use Rattle.hot_region.proofs.HalvingLaws.{edge_at}
use Rattle.hot_region.proofs.CrossingLaws.{crossed_none, crossed_known, crossed_skip, crossed_push, pair_found, pair_none}
use Rattle.hot_region.proofs.leaf.cross_near.Goals as goal

pub loop-near-init : goal.loop-near-init
loop-near-init g c = but_near c.args.rect.now c.args.line.now.edge (edges_of c.args.others.now) c.args.found.now.items c.bounds.result c.sharing-near.result c.bounds.ensures.lo c.bounds.ensures.hi (rw c.requires.boxes at c.sharing-near.ensures)

pub loop-near-preserved-in_ok-push_in : goal.loop-near-preserved-in_ok-push_in
loop-near-preserved-in_ok-push_in g c =
    let rect = c.args.rect.now in
    let e = c.args.line.now.edge in
    let others = c.args.others.now in
    let place = c.split_first-place.result.0 in
    let f = c.index-others-place.result.edge in
    let found = c.loop-near.found.items in
    let is = edge_at others place c.index-others-place.result c.index-others-place.is in
    let fewer = but_fewer rect e (edges_of others) c.args.found.now.items c.loop-near.near c.split_first-place.result.1 place f found in
    let on_e : IsLine e c.on_line-s.result = inl (sym c.on_line-s.ensures.a, sym c.on_line-s.ensures.b) in
    let on_f : IsLine f c.on_line.result = subst (λ (l : Line). IsLine l.edge c.on_line.result) (sym c.index-others-place.is) (inl (sym c.on_line.ensures.a, sym c.on_line.ensures.b)) in
    let p = pair_found e f c.on_line-s.result c.on_line.result on_e on_f (Some c.in-Some.pixel) c.in-Some.ensures c.in-Some.pixel refl in
    fewer c.push_in.new.found.items is c.split_first-place.ensures.first c.split_first-place.ensures.others c.loop-near.invariant
    (crossed_push rect e (f ∷ []) 0 f found found (omega arith) refl (crossed_none rect e found) c.push_in.new.found.items c.in-Some.pixel p.0 p.1 c.in_ok-push_in.ensures)

pub loop-near-preserved-in_default : goal.loop-near-preserved-in_default
loop-near-preserved-in_default g c =
    let rect = c.args.rect.now in
    let e = c.args.line.now.edge in
    let others = c.args.others.now in
    let place = c.split_first-place.result.0 in
    let f = c.index-others-place.result.edge in
    let found = c.loop-near.found.items in
    let is = edge_at others place c.index-others-place.result c.index-others-place.is in
    let fewer = but_fewer rect e (edges_of others) c.args.found.now.items c.loop-near.near c.split_first-place.result.1 place f found in
    let on_e : IsLine e c.on_line-s.result = inl (sym c.on_line-s.ensures.a, sym c.on_line-s.ensures.b) in
    let on_f : IsLine f c.on_line.result = subst (λ (l : Line). IsLine l.edge c.on_line.result) (sym c.index-others-place.is) (inl (sym c.on_line.ensures.a, sym c.on_line.ensures.b)) in
    fewer found is c.split_first-place.ensures.first c.split_first-place.ensures.others c.loop-near.invariant
    (crossed_skip rect e (f ∷ []) 0 f found found (omega arith) refl (crossed_none rect e found) (pair_none e f c.on_line-s.result c.on_line.result on_e on_f c.cross.result c.cross.ensures c.in_default.not-Some))

pub loop-near-preserved : goal.loop-near-preserved
loop-near-preserved g c =
    let rect = c.args.rect.now in
    let e = c.args.line.now.edge in
    let others = c.args.others.now in
    let place = c.split_first-place.result.0 in
    let f = c.index-others-place.result.edge in
    let found = c.loop-near.found.items in
    let is = edge_at others place c.index-others-place.result c.index-others-place.is in
    let fewer = but_fewer rect e (edges_of others) c.args.found.now.items c.loop-near.near c.split_first-place.result.1 place f found in
    fewer found is c.split_first-place.ensures.first c.split_first-place.ensures.others c.loop-near.invariant
    (crossed_known rect e (f ∷ []) 0 f found found (omega arith) refl (crossed_none rect e found) (λ p x t. c.loop-near.invariant.kept p (c.requires.ends p (c.have_common_end.ensures p c.if-not-have_common_end.false (subst (λ (l : Line). CrossAt l.edge e p) c.index-others-place.is x)) t)))

pub returns : goal.returns
returns g c = but_none c.args.rect.now c.args.line.now.edge (edges_of c.args.others.now) c.args.found.now.items c.loop-near.found.items (subst (λ (n : ℕ). HasCrossedBut c.args.rect.now c.args.line.now.edge (edges_of c.args.others.now) n c.args.found.now.items c.loop-near.found.items) c.loop-near-test.false c.loop-near.invariant)
