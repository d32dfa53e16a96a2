use Rattle.std.proofs.Common.{◌≡◌, ℕ, List, subst, sym}
use Rattle.geom.specs.Directed.{AreResultEdges}
use Rattle.geom.specs.declared.edge.Counted.{Counted}
use Rattle.geom.specs.declared.op.Op.{Op}
use Rattle.std.proofs.lemmas.Result.{IfOk-weaker}
use Rattle.points_law.specs.Law.{AreLayers}
use Rattle.results.specs.Results.{IsResultText}
use Rattle.results.proofs.operation.one_line.Goals as goal

pub returns : goal.returns
returns g c =
    IfOk-weaker c.one.result (λ t. t ≡ c.in_ok-line.line.items) (λ t. (op : Op) (counted : List Counted) → AreLayers counted → AreResultEdges op counted c.args.directed.now → IsResultText op counted t)
    (λ t e. subst (λ (s : List ℕ). (op : Op) (counted : List Counted) → AreLayers counted → AreResultEdges op counted c.args.directed.now → IsResultText op counted s) (sym e) c.in_ok-line.ensures)
    c.one.ensures
