use Rattle.std.proofs.Common.{List, map}
use Rattle.std.proofs.lemmas.Result.{IfOk-weaker}
use Rattle.geom.specs.Directed.{AreResultEdges}
use Rattle.geom.specs.declared.edge.Counted.{Counted}
use Rattle.geom.specs.declared.op.Op.{Op}
use Rattle.points_law.specs.Law.{AreLayers}
use Rattle.cover_law.specs.Cover.{bordered}
use Rattle.engine.specs.CoveredResults.{IsCoveredText}
use Rattle.results.specs.Results.{IsResultText}
use Rattle.engine.proofs.CoveredTexts.{covered_closes, covered_in_limit, covered_text}
use Rattle.engine.proofs.covered_result.covered_text_alone.Goals as goal

pub line_along-requires-clause-closes : goal.line_along-requires-clause-closes
line_along-requires-clause-closes g c =
    covered_closes c.args.op c.args.split 2147483647 (map (bordered c.args.features.now) c.args.borders.now) c.requires.borders c.in_ok-directed.directed (c.in_ok-directed.ensures 2147483647 c.requires.below)

pub line_along-requires-clause-in_limit : goal.line_along-requires-clause-in_limit
line_along-requires-clause-in_limit g c =
    covered_in_limit c.args.op c.args.split 2147483647 (map (bordered c.args.features.now) c.args.borders.now) c.requires.borders c.in_ok-directed.directed (c.in_ok-directed.ensures 2147483647 c.requires.below)

pub returns : goal.returns
returns g c = λ count all.
    let directed = c.in_ok-directed.directed in
    let edges = map (bordered c.args.features.now) c.args.borders.now in
    IfOk-weaker c.line_along.result (λ text. (op : Op) (counted : List Counted) → AreLayers counted → AreResultEdges op counted directed → IsResultText op counted text.items) (λ text. IsCoveredText c.args.op c.args.split count edges text.items)
    (λ text f. covered_text c.args.op c.args.split count edges c.requires.borders directed (c.in_ok-directed.ensures count all) text.items f)
    c.line_along.ensures
