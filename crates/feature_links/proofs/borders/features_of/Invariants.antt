use Rattle.std.proofs.Common.{◌≡◌, map, take}
use Rattle.feature_links.specs.Groups.{feature_of}
use Rattle.feature_links.proofs.borders.features_of.Given as goal

abbrev pub invariant-loop-link : goal.invariant-loop-link
invariant-loop-link g l = l.list.items ≡ map feature_of (take l.link-index l.links)
