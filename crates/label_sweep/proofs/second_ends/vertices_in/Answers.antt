use Rattle.std.proofs.Common.{slice_range}
use Rattle.std.proofs.lemmas.Result.{IfOk-weaker}
use Rattle.std.specs.Prelude.{IfOk}
use Rattle.geom.specs.Rounded.{edges_of}
use Rattle.label_sweep.specs.Column.{AreVerticesBetween}
use Rattle.label_sweep.specs.Endings.{AreMerged, TellEndings}
use Rattle.label_sweep.proofs.StripEnds.{are_between, endings_told, firsts}
use Rattle.label_sweep.proofs.second_ends.vertices_in.Given.{Over}
use Rattle.label_sweep.proofs.second_ends.vertices_in.Goals as goal

merged : (g : Over) (c : goal.After-drop-ends g) → IfOk c.merged_ends.result (λ v. AreMerged (firsts (slice_range c.args.counted.now c.args.strip.from c.args.strip.past)) c.in_ok-ends.ends.items v.points.items v.endings.items)
merged g c = rw c.deref.ensures.value at c.merged_ends.ensures

pub returns-clause-points : goal.returns-clause-points
returns-clause-points g c =
    let cs = c.args.counted.now in
    let strip = c.args.strip in
    let r = c.requires in
    let ends = c.in_ok-ends.ends.items in
    IfOk-weaker c.merged_ends.result (λ v. AreMerged (firsts (slice_range cs strip.from strip.past)) ends v.points.items v.endings.items) (λ v. AreVerticesBetween cs strip.from strip.past v.points.items)
    (λ v m. are_between cs r.layers.ascending strip r.strip r.some ends c.in_ok-ends.ensures.between c.in_ok-ends.ensures.each v.points.items v.endings.items m) (merged g c)

pub returns-clause-endings : goal.returns-clause-endings
returns-clause-endings g c =
    let cs = c.args.counted.now in
    let strip = c.args.strip in
    let r = c.requires in
    let ends = c.in_ok-ends.ends.items in
    IfOk-weaker c.merged_ends.result (λ v. AreMerged (firsts (slice_range cs strip.from strip.past)) ends v.points.items v.endings.items) (λ v. TellEndings (edges_of cs) v.points.items v.endings.items)
    (λ v m. endings_told cs r.layers.ascending strip r.strip r.some ends c.in_ok-ends.ensures.between c.in_ok-ends.ensures.each v.points.items v.endings.items m) (merged g c)
