use Rattle.std.proofs.Common.{inl, sym, subst, ℕ, get_or}
use Rattle.std.proofs.Math.IntN.{pos}
use Rattle.std.proofs.lemmas.List.{get_or_default}
use Rattle.geom.specs.declared.point.Pt.{Pt}
use Rattle.hot_region.specs.Lines.{IsLine}
use Rattle.hot_region.proofs.HalvingLaws.{met_on}
use Rattle.routing.proofs.BoxLaws.{AddsAlongBut, but_added, but_met, but_missed, but_near, but_none}
use Rattle.routing.proofs.recording.add_along.Goals as goal
use Rattle.routing.proofs.recording.add_along.Goals.{else-not-ends_each-via-else-not-ends_each, else-not-ends_each-via-then-not-ends_each+else-meets}

pub loop-near-init : goal.loop-near-init
loop-near-init g c = but_near c.args.lined.now.segments.now c.args.lined.now.table.now c.args.line.now c.args.pixels.now c.args.records.now.items c.bounds.result c.sharing-near.result c.bounds.ensures.lo c.bounds.ensures.hi (rw c.requires.boxes at c.sharing-near.ensures)

pub loop-near-preserved-in_ok-add_met : goal.loop-near-preserved-in_ok-add_met
loop-near-preserved-in_ok-add_met g c =
    let line = c.args.line.now in
    let pixels = c.args.pixels.now in
    let s = c.on_line-s.result in
    let on : IsLine line.edge s = inl (sym c.on_line-s.ensures.a, sym c.on_line-s.ensures.b) in
    let near = c.loop-near.near in
    let place = c.split_first-place.result.0 in
    let blank : Pt = record { x = pos 0; y = pos 0 } in
    let pixel = get_or pixels place blank in
    let is = get_or_default pixels place blank pixel (c.loop-near.invariant.within place c.split_first-place.ensures.first) in
    but_met c.args.lined.now.segments.now c.args.lined.now.table.now line pixels c.args.records.now.items near c.split_first-place.result.1 place pixel c.loop-near.records.items is c.split_first-place.ensures.first c.split_first-place.ensures.others c.loop-near.invariant
    c.add_met.new.records.items (met_on line.edge s pixel on (c.meets.ensures.0 c.if-meets.true)) c.in_ok-add_met.ensures

pub loop-near-preserved : goal.loop-near-preserved
loop-near-preserved g c =
    let line = c.args.line.now in
    let pixels = c.args.pixels.now in
    let s = c.on_line-s.result in
    let on : IsLine line.edge s = inl (sym c.on_line-s.ensures.a, sym c.on_line-s.ensures.b) in
    let near = c.loop-near.near in
    let place = c.split_first-place.result.0 in
    let blank : Pt = record { x = pos 0; y = pos 0 } in
    let pixel = get_or pixels place blank in
    let is = get_or_default pixels place blank pixel (c.loop-near.invariant.within place c.split_first-place.ensures.first) in
    let args = c.args in
    elim c.else-not-ends_each.branch [
      | else-not-ends_each-via-then-not-ends_each+else-meets w ↦
          but_missed args.lined.now.segments.now args.lined.now.table.now line pixels args.records.now.items near c.split_first-place.result.1 place pixel c.loop-near.records.items is c.split_first-place.ensures.first c.split_first-place.ensures.others c.loop-near.invariant
          (λ h. let e = w.meets.ensures.1 (h.meets s on) in let f = w.if-meets.false in cc)
      | else-not-ends_each-via-else-not-ends_each w ↦
          but_added args.lined.now.segments.now args.lined.now.table.now line pixels args.records.now.items near c.split_first-place.result.1 place pixel c.loop-near.records.items is c.split_first-place.ensures.first c.split_first-place.ensures.others c.loop-near.invariant
          (c.ends_each.ensures (let f = w.if-not-ends_each.false in cc) c.loop-near.records.items)
    ]

pub returns : goal.returns
returns g c = but_none c.args.lined.now.segments.now c.args.lined.now.table.now c.args.line.now c.args.pixels.now c.args.records.now.items c.loop-near.records.items (subst (λ (n : ℕ). AddsAlongBut c.args.lined.now.segments.now c.args.lined.now.table.now c.args.line.now c.args.pixels.now n c.args.records.now.items c.loop-near.records.items) c.loop-near-test.false c.loop-near.invariant)
