use Rattle.std.proofs.Common.{length, map, take, ◌-◌, ◌≤◌}
use Rattle.std.specs.Prelude.{All}
use Rattle.feature_links.specs.Groups.{AreGroups, bordered_by}
use Rattle.feature_links.proofs.GroupSteps.{AreBehind}
use Rattle.feature_links.proofs.borders.borders_of.Given as goal

abbrev pub invariant-loop-from : goal.invariant-loop-from
invariant-loop-from g l = (l.from ≤ length l.links) × AreGroups (take l.from l.links) (map (bordered_by l.links) l.list.items) × AreBehind l.links l.from × All (λ b. (b.from ≤ b.to) × (b.to ≤ length l.links)) l.list.items

abbrev pub decreases-loop-from : goal.decreases-loop-from
decreases-loop-from g l = length l.links - l.from
