use Rattle.std.proofs.Common.{◌≡◌, ◌++◌, [], ◌∷◌, Bool, cond, get_or, List, take, sym, ap, ◌∙◌}
use Rattle.std.specs.List.{filter}
use Rattle.std.proofs.lemmas.List.{get_or_default}
use Rattle.std.proofs.lemmas.List.Elements.{filter_more}
use Rattle.geom.specs.declared.point.Pt.{Pt}
use Rattle.label_sweep.specs.StripLabels.{lies_in}
use Rattle.label_sweep.proofs.Sweeping.{origin}
use Rattle.label_sweep.proofs.one_strip.between.Goals as goal

pub loop-v-preserved : goal.loop-v-preserved
loop-v-preserved g c =
    let vs = c.args.points.now in
    let n = c.loop-v.v-index in
    let v : Pt = get_or vs n origin in
    let is : v ≡ get_or vs n v = get_or_default vs n origin v c.loop-v-test.true in
    let test : Pt → Bool = lies_in c.args.first.x c.args.last.x in
    c.in_ok-add_between.ensures ∙ ap (λ (t : List Pt). t ++ cond (test v) (v ∷ []) []) c.loop-v.invariant
    ∙ ap (λ (t : Pt). filter test (take n vs) ++ cond (test t) (t ∷ []) []) is
    ∙ sym (filter_more test vs n v c.loop-v-test.true)
