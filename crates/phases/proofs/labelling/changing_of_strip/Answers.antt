use Rattle.std.specs.Prelude.{ℕ, ℤ, ◌≡◌, List, filter}
use Rattle.std.proofs.lemmas.Result.{IfOk-weaker}
use Rattle.geom.specs.declared.edge.Counted.{Counted}
use Rattle.label_sweep.specs.Changing.{changes}
use Rattle.phases.specs.Labels.{AreOfStrip}
use Rattle.phases.proofs.StripLabels.{changing_are}
use Rattle.phases.proofs.labelling.changing_of_strip.Goals as goal

pub returns : goal.returns
returns g c = let own = c.args.own.now in
    IfOk-weaker c.changing_edges.result (λ v. v.items ≡ filter changes own) (λ v. (counted : List Counted) (cuts : List ℤ) (strip : ℕ) → AreOfStrip cuts strip counted own → AreOfStrip cuts strip (filter changes counted) v.items)
    (λ v e counted cuts strip o. changing_are cuts strip counted own o v.items e) c.changing_edges.ensures
