use Rattle.std.proofs.Common.{◌≡◌, map, take}
use Rattle.polygonize.specs.Below.{place_of}
use Rattle.polygonize.proofs.nearest.places_of.Given as goal

abbrev pub invariant-loop-gap : goal.invariant-loop-gap
invariant-loop-gap g l = l.places.items ≡ map place_of (take l.gap-index l.gaps)
