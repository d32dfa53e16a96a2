use Rattle.std.proofs.lemmas.Result.{IfOk-weaker}
use Rattle.geom.specs.Rounded.{edges_of}
use Rattle.label_sweep.specs.Column.{AreVerticesBetween}
use Rattle.label_sweep.specs.Endings.{TellEndings}
use Rattle.label_sweep.proofs.ColumnStrips.{leaving_between, strip_is_of}
use Rattle.label_sweep.proofs.strips.strip_edges.Goals as goal

pub sweep_leaving-requires : goal.sweep_leaving-requires
sweep_leaving-requires g c =
    let cs = c.args.counted.now in
    let strip = c.args.strip in
    let vs = c.deref.result.now in
    let between : AreVerticesBetween cs strip.from strip.past vs = rw c.deref.ensures.value c.in_ok-vertices.ensures.points in
    let told : TellEndings (edges_of cs) vs c.deref-2.result.now = rw (c.deref.ensures.value, c.deref-2.ensures.value) c.in_ok-vertices.ensures.endings in
    ∣ (cs, strip_is_of cs c.requires.layers strip c.requires.strip vs between, told) ∣₁

pub returns : goal.returns
returns g c =
    let cs = c.args.counted.now in
    let strip = c.args.strip in
    let vs = c.deref.result.now in
    let between : AreVerticesBetween cs strip.from strip.past vs = rw c.deref.ensures.value c.in_ok-vertices.ensures.points in
    let told : TellEndings (edges_of cs) vs c.deref-2.result.now = rw (c.deref.ensures.value, c.deref-2.ensures.value) c.in_ok-vertices.ensures.endings in
    IfOk-weaker c.sweep_leaving.result _ _ (λ edges h. leaving_between cs strip.from strip.past vs between c.args.op edges.items h) (c.sweep_leaving.ensures cs (strip_is_of cs c.requires.layers strip c.requires.strip vs between) told)
