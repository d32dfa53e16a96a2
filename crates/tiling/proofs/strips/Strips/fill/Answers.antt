use Rattle.std.proofs.Common.{rules, ◌+◌, ◌-◌, ◌*◌, ◌+ℤ◌, ◌∙◌, ap, pos, w32, w64, FitsSigned, to_z-of_z}
use Rattle.lane_tests.proofs.Pairs.{on_ok}
use Rattle.tiling.proofs.Striping.{fill_from}
use Rattle.tiling.proofs.strips.Strips.fill.Goals as goal

pub returns-clause-ok : goal.returns-clause-ok
returns-clause-ok g c =
    let ends = c.strip_ends-left.result in
    let f : FitsSigned w32 ends.0 = search rules in
    let h : FitsSigned w64 ends.1 = search rules in
    let k : FitsSigned w32 c.self.inside.low = search rules in
    let n = c.args.strip * c.self.inside.width in
    let left = to_z-of_z f ∙ c.strip_ends-left.ensures.first ∙ ap (λ z. z +ℤ pos n) (to_z-of_z k) in
    let right = to_z-of_z h ∙ c.strip_ends-left.ensures.last ∙ ap (λ z. z +ℤ pos (n + c.self.inside.width - 1)) (to_z-of_z k) in
    on_ok c.between.result (λ found. fill_from _ c.args.self.now c.args.strip c.self.view_is c.self.invariant.some _ _ left right _ found) c.between.ensures.ok
