use Rattle.std.proofs.Common.{◌≡◌, take}
use Rattle.polygonize.specs.Next.{ring_of}
use Rattle.strip_polygons.proofs.ties.starts_of.Given as goal

abbrev pub invariant-loop-place : goal.invariant-loop-place
invariant-loop-place g l = l.starts.items ≡ ring_of l.directed (take l.place-index l.places)
