use Rattle.std.proofs.Common.{List, arith, ap, subst, sym, ◌+◌, ◌++◌, ◌∙◌}
use Rattle.std.specs.List.{filter}
use Rattle.geom.specs.declared.directed.DirectedEdge.{DirectedEdge}
use Rattle.geom.specs.declared.edge.Counted.{Counted}
use Rattle.label_sweep.specs.Changing.{changes}
use Rattle.label_sweep.proofs.ChangingEdges.{changing_are_layers, changing_bound}
use Rattle.phases.specs.Labels.{AreOfStrip, AreResultEdgesBefore}
use Rattle.phases.proofs.StripLabels.{all_edges, crossing_in_limit, none_before, none_come, one_more, own_in_limit, tell}
use Rattle.phases.proofs.labelling.labels_in_strips.Goals as goal

pub loop-strip-init : goal.loop-strip-init
loop-strip-init g c = let odd = filter changes c.args.counted.now in
    rw (c.new-edges.ensures.items, c.new-crossing.ensures.items) (none_before c.args.op c.args.cuts.now odd, none_come c.args.cuts.now odd)

pub labels-requires : goal.labels-requires
labels-requires g c =
    let counted = c.args.counted.now in
    let cuts = c.args.cuts.now in
    let strip = c.loop-strip.strip in
    let P : List Counted → Type 0 = AreOfStrip cuts strip counted in
    let mine = c.in_ok-own.ensures counted cuts strip (subst P (sym c.deref.ensures.value) (c.in_ok-here.ensures c.requires)) in
    let t = tell (filter changes counted) cuts strip (changing_are_layers counted c.requires) c.loop-strip.crossing.items c.in_ok-own.own.items
    c.deref-in-loop-strip.result.now c.deref-in-loop-strip-2.result.now c.loop-strip.invariant.1 mine c.deref-in-loop-strip.ensures.value c.deref-in-loop-strip-2.ensures.value in
    record {
      crossing_in = crossing_in_limit cuts strip (filter changes counted) c.deref-in-loop-strip.result.now c.deref-in-loop-strip-2.result.now t;
      own_in = own_in_limit cuts strip (filter changes counted) c.deref-in-loop-strip.result.now c.deref-in-loop-strip-2.result.now t;
    }

pub loop-strip-preserved : goal.loop-strip-preserved
loop-strip-preserved g c =
    let op = c.args.op in
    let counted = c.args.counted.now in
    let odd = filter changes counted in
    let layers = changing_are_layers counted c.requires in
    let cuts = c.args.cuts.now in
    let strip = c.loop-strip.strip in
    let crossing = c.loop-strip.crossing.items in
    let own = c.in_ok-own.own.items in
    let come = c.loop-strip.invariant.1 in
    let P : List Counted → Type 0 = AreOfStrip cuts strip counted in
    let mine = c.in_ok-own.ensures counted cuts strip (subst P (sym c.deref.ensures.value) (c.in_ok-here.ensures c.requires)) in
    let here = tell odd cuts strip layers crossing own c.deref-in-loop-strip.result.now c.deref-in-loop-strip-2.result.now come mine c.deref-in-loop-strip.ensures.value c.deref-in-loop-strip-2.ensures.value in
    let there = tell odd cuts strip layers crossing own c.deref-in-loop-strip-4.result.now c.deref-in-loop-strip-5.result.now come mine c.deref-in-loop-strip-4.ensures.value c.deref-in-loop-strip-5.ensures.value in
    let Q : List DirectedEdge → Type 0 = AreResultEdgesBefore op cuts (strip + 1) odd in
    let old = c.loop-strip.edges.items in (
      subst Q (sym (c.in_ok-extend_from_slice.ensures.items ∙ ap (λ t. old ++ t) c.deref-in-loop-strip-3.ensures.value))
          (one_more op cuts strip odd c.deref-in-loop-strip-2.result.now here.own_are old c.in_ok-along.along.items c.loop-strip.invariant.0 (c.in_ok-along.ensures.along odd cuts strip here)),
      c.in_ok-crossing.ensures odd there,
    )

pub returns : goal.returns
returns g c = changing_bound c.args.op c.args.counted.now c.requires c.in_order.result.items
    (all_edges c.args.op c.args.cuts.now c.loop-strip.strip (filter changes c.args.counted.now) (let t = c.loop-strip-test.false in omega (arith, t)) c.loop-strip.edges.items c.in_order.result.items
    c.loop-strip.invariant.0 c.in_order.ensures.ascending c.in_order.ensures.same)
