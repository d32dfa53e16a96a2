use Rattle.std.proofs.Common.{Bor, List, ℕ, map}
use Rattle.std.proofs.lemmas.Result.{IfOk-weaker}
use Rattle.engine.specs.Faces.{AreBordersOver}
use Rattle.engine.proofs.CoveredFeatures.{layers_covered}
use Rattle.engine.proofs.LayersKnown.{layers_ready}
use Rattle.engine.proofs.alone_faces.borders_alone.Goals as goal

pub borders_of_alone-requires-clause-owned : goal.borders_of_alone-requires-clause-owned
borders_of_alone-requires-clause-owned g c = c.in_ok-all.ensures.2.owned

pub borders_of_alone-requires-clause-covered : goal.borders_of_alone-requires-clause-covered
borders_of_alone-requires-clause-covered g c =
    let now = c.args.checked.now in
    let texts : List (List ℕ) = map (λ (t : Bor (List ℕ)). t.now) now.layers.now in
    let all = c.in_ok-all.ensures in
    let made = c.in_ok-all.all in
    let ready = layers_ready now.limits.segments now.plan texts now.segments now.grid now.are_checked all.0 all.1 in
    layers_covered now.limits.segments now.plan texts all.0 now.grid made.segments.items made.owners.items ready all.2.all.are_segments

pub returns-clause-borders : goal.returns-clause-borders
returns-clause-borders g c =
    let now = c.args.checked.now in
    let all = c.in_ok-all.ensures in
    IfOk-weaker c.borders_of_alone.result _ (AreBordersOver (map (λ (t : Bor (List ℕ)). t.now) now.layers.now) now.grid) (λ b of. record { layers = all.0; stand = all.1; of = of }) (c.borders_of_alone.ensures.borders all.0 all.2)
