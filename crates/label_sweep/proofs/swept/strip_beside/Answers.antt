use Rattle.std.proofs.lemmas.Result.{IfOk-weaker}
use Rattle.label_sweep.specs.Column.{AreVerticesBetween}
use Rattle.label_sweep.proofs.ColumnStrips.{strip_is_of, swept_between}
use Rattle.label_sweep.proofs.swept.strip_beside.Goals as goal

pub sweep_beside-requires : goal.sweep_beside-requires
sweep_beside-requires g c =
    let cs = c.args.counted.now in
    let strip = c.args.strip in
    let vs = c.deref.result.now in
    let between : AreVerticesBetween cs strip.from strip.past vs = rw c.deref.ensures.value c.in_ok-vertices.ensures.points in
    ∣ (cs, strip_is_of cs c.requires.layers strip c.requires.strip vs between) ∣₁

pub returns : goal.returns
returns g c =
    let cs = c.args.counted.now in
    let strip = c.args.strip in
    let vs = c.deref.result.now in
    let between : AreVerticesBetween cs strip.from strip.past vs = rw c.deref.ensures.value c.in_ok-vertices.ensures.points in
    IfOk-weaker c.sweep_beside.result _ _ (λ swept h. swept_between cs strip.from strip.past vs between swept.items h) (c.sweep_beside.ensures cs (strip_is_of cs c.requires.layers strip c.requires.strip vs between))
