use Rattle.std.proofs.Common.{◌≡◌, ◌∙◌, ◌++◌, ◌∷◌, ◌+◌, [], List, take, sym, ap, subst}
use Rattle.std.proofs.lemmas.List.{take_all, take_more}
use Rattle.geom.specs.Canonical.{Shape}
use Rattle.columns.specs.Answers.{AreColumnsOf}
use Rattle.columns.proofs.Written.{reads_back}
use Rattle.columns.proofs.answer.columns_of.Goals as goal

pub loop-polygon-preserved : goal.loop-polygon-preserved
loop-polygon-preserved g c =
    let polygons = c.args.polygons.now in
    let i = c.loop-polygon.polygon-index in
    let polygon = c.polygon-item.result in
    let next : take i polygons ++ polygon ∷ [] ≡ take (i + 1) polygons = ap (λ (t : Shape). take i polygons ++ t ∷ []) c.polygon-item.is ∙ sym (take_more polygons i polygon c.loop-polygon-test.true) in
    subst (λ (t : List Shape). AreColumnsOf t c.push_polygon.new.self) next (c.in_ok-push_polygon.ensures (take i polygons) c.loop-polygon.invariant)

pub returns-clause-read_back : goal.returns-clause-read_back
returns-clause-read_back g c =
    reads_back c.args.polygons.now c.loop-polygon.columns
    (subst (λ (t : List Shape). AreColumnsOf t c.loop-polygon.columns) (take_all c.loop-polygon.polygon-index c.args.polygons.now c.loop-polygon-test.false) c.loop-polygon.invariant)
